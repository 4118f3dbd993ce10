use Rattle.nal_parse.proofs.PrintedFormulas.{formula_text_spells}
use Rattle.nal_parse.proofs.PrintedTerms.{term_text_spells}
use Rattle.nal_parse.proofs.laws.canonical_texts_spell.Goals as goal

pub returns : goal.returns
returns c = record { formulas = formula_text_spells; terms = term_text_spells }
