use Rattle.std.proofs.Common.{arith}
use Rattle.policy_history.proofs.SameBytes.{same_at_end}
use Rattle.policy_history.proofs.heads.is_same_secret.Goals as goal

pub returns : goal.returns
returns c =
    same_at_end c.loop-place.same c.args.told.now c.args.own.now c.loop-place.place (omega (arith, c.if-told-own.false)) (omega (arith, c.loop-place-test.false, c.loop-place.auto.place-end))
    c.loop-place.invariant
