use Rattle.audit_check.specs.Beginnings.{IsBeginning}
use Rattle.audit_check.proofs.replays.replay_to.Given as goal

abbrev pub invariant-loop-index : goal.invariant-loop-index
invariant-loop-index l = IsBeginning l.part l.whole l.index
