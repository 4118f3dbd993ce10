use Rattle.std.proofs.Common.{◌≡◌}
use Rattle.trust_check.specs.Inner.Assumed.{assumptions_in}
use Rattle.trust_check.proofs.Labels.{AreTrueBefore}
use Rattle.trust_check.proofs.valuation.Assumed.first_false.Given as goal

abbrev pub invariant-loop-label : goal.invariant-loop-label
invariant-loop-label l = (l.number ≡ l.label-index) × AreTrueBefore (assumptions_in l.self) l.labels l.label-index
