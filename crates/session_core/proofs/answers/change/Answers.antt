use Rattle.policy_history.specs.Events.{event_tree}
use Rattle.session_core.specs.Inner.Steps.{asked}
use Rattle.session_core.proofs.answers.change.Goals as goal

pub returns-clause-outcome : goal.returns-clause-outcome
returns-clause-outcome c = asked (event_tree c.in-Some.event) (rw c.in-Some.is at c.in-Ok.ensures.event) c.decide.ensures.outcome
