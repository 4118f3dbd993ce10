use Rattle.nal_parse.proofs.OneError.{one_formula_error, no_formula_with_error, one_term_error, no_term_with_error}
use Rattle.nal_parse.proofs.laws.refused_texts_have_one_error.Goals as goal

pub returns : goal.returns
returns c = record { formulas = one_formula_error; no_formula = no_formula_with_error; terms = one_term_error; no_term = no_term_with_error }
