use Rattle.std.specs.Bool.{one_answer}
use Rattle.nal_term.specs.TreeKeys.{same_formulas-Decides}
use Rattle.nal_term.proofs.keys.FormulaPartialEq.eq.Goals as goal

pub returns : goal.returns
returns c = one_answer _ _ c.equal.ensures (same_formulas-Decides _ _)
