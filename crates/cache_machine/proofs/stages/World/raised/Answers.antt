use Rattle.std.proofs.Common.{Some, ap, ◌∙◌}
use Rattle.policy_history.specs.Events.{EventTree, event_tree}
use Rattle.cache_machine.specs.Moves.{raises}
use Rattle.cache_machine.specs.Views.{actor_tree, state_of}
use Rattle.cache_machine.proofs.Plans.{raise_accepted, raise_refused}
use Rattle.cache_machine.proofs.stages.World.raised.Goals as goal

pub returns-in-Err : goal.returns-in-Err
returns-in-Err c = raise_refused (state_of c.args.self.now) (actor_tree c.args.actor.now) (event_tree c.args.event.now) c.in-None.is c.in-Err.field-0 c.in-Err.ensures.decision

pub returns-in_ok-copy-in-Some-region_of : goal.returns-in_ok-copy-in-Some-region_of
returns-in_ok-copy-in-Some-region_of c =
    ap (λ (e : EventTree). raises c.in-Some-region_of.region e) c.in_ok-copy-in-Some-region_of.ensures
    ∙ raise_accepted (state_of c.args.self.now) (actor_tree c.args.actor.now) (event_tree c.args.event.now) c.in-None.is c.in-Ok.field-0 c.in-Ok.ensures.decision (Some c.in-Some-region_of.region) c.in-Some-region_of.ensures.region
