use Rattle.audit_check.proofs.Ordered.{ArePlaces}
use Rattle.audit_check.proofs.audits.in_order.Given as goal

abbrev pub invariant-loop-index : goal.invariant-loop-index
invariant-loop-index l = ArePlaces l.records l.places.items l.index
