use Rattle.kept_policies.proofs.Asked.{asked_events}
use Rattle.kept_policies.proofs.Spelled.{spelled_formulas, spelled_terms}
use Rattle.kept_policies.proofs.SpelledProofs.{spelled_proofs}
use Rattle.kept_policies.proofs.laws.spelled_values_are_spellable.Goals as goal

pub returns-clause-terms : goal.returns-clause-terms
returns-clause-terms c = spelled_terms

pub returns-clause-formulas : goal.returns-clause-formulas
returns-clause-formulas c = spelled_formulas

pub returns-clause-proofs : goal.returns-clause-proofs
returns-clause-proofs c = spelled_proofs

pub returns-clause-events : goal.returns-clause-events
returns-clause-events c = asked_events
