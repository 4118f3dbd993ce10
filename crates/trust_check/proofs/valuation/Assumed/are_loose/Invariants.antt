use Rattle.std.proofs.Common.{take, All, Contains}
use Rattle.trust_check.proofs.valuation.Assumed.are_loose.Given as goal

abbrev pub invariant-loop-name : goal.invariant-loop-name
invariant-loop-name l = All (Contains l.self.loose.now) (take l.name-index l.names)
