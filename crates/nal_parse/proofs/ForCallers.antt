-- What other crates may cite of the laws of spellings.
use Rattle.nal_parse.specs.Laws.{OneFormula, OneFormulaError, OneTerm}
use Rattle.nal_parse.proofs.OneSpelling.{one_formula_spelled, one_term_spelled}
use Rattle.nal_parse.proofs.OneError as error
-- what the bytes of names, numbers and texts are, where they are written
unfoldable pub use Rattle.nal_parse.proofs.Written.{Breaks}
pub use Rattle.nal_parse.proofs.Written.{prefix_len-run, both, name_bytes, number_digits, number_is_number, digits_words, text_unquoted}
-- canonical texts spell
pub use Rattle.nal_parse.proofs.PrintedTerms.{All-first, All-rest, term_text_spells}
pub use Rattle.nal_parse.proofs.PrintedFormulas.{formula_text_spells}

-- no text is read as two formulas
pub one_formula : OneFormula
one_formula text f g a b = one_formula_spelled 64 text f g a.spelled b.spelled

-- no text is read as two terms
pub one_term : OneTerm
one_term text t u a b = one_term_spelled text t u a.spelled b.spelled

-- a text has one error
pub one_formula_error : OneFormulaError
one_formula_error = error.one_formula_error
