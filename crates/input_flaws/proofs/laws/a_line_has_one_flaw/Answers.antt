use Rattle.input_flaws.proofs.OneFlaw.{one_flaw}
use Rattle.input_flaws.proofs.laws.a_line_has_one_flaw.Goals as goal

pub returns : goal.returns
returns c =
    let laws = c.refused_texts_have_one_error.ensures in
    one_flaw laws.formulas laws.no_formula laws.terms laws.no_term
