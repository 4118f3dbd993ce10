use Rattle.proof_check.proofs.Lookups.{not_among}
use Rattle.proof_check.proofs.supports.contains.Goals as goal

pub returns : goal.returns
returns c = not_among c.args.formulas.now c.args.formula.now c.loop-other.other-index c.loop-other-test.false c.loop-other.invariant
