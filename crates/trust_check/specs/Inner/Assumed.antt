-- The assumptions that the analysis holds.
use Rattle.trust_check.specs.declared.valuation.Assumed.{Assumed}
use Rattle.trust_check.specs.Reach.{assumptions_of}
use Rattle.trust_check.specs.Valuation.{Assumptions}

abbrev pub assumptions_in : Assumed → Assumptions
assumptions_in a = assumptions_of a.untrusted.now a.loose.now a.facts.now
