use Rattle.cache_machine.proofs.Sameness.{AreSameBelow}
use Rattle.cache_machine.proofs.same.same_lines.Given as goal

abbrev pub invariant-loop-place : goal.invariant-loop-place
invariant-loop-place l = AreSameBelow l.a l.b l.place
