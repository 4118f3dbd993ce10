use Rattle.nal_parse.proofs.ForCallers.{one_formula, one_term}
use Rattle.nal_parse.proofs.OneSpelling.{one_formula_spelled, one_term_spelled}
use Rattle.nal_parse.proofs.laws.texts_spell_one_tree.Goals as goal

pub returns : goal.returns
returns c = record { spelled_formulas = one_formula_spelled; spelled_terms = one_term_spelled; formulas = one_formula; terms = one_term }
