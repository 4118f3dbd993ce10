use Rattle.std.proofs.Common.{None, ap, ◌∙◌}
use Rattle.policy_history.specs.Events.{EventTree, event_tree}
use Rattle.cache_machine.specs.Moves.{writes}
use Rattle.cache_machine.specs.Views.{actor_tree, state_of}
use Rattle.cache_machine.proofs.Plans.{write_accepted, write_refused}
use Rattle.cache_machine.proofs.stages.World.written.Goals as goal

pub returns-in-Err : goal.returns-in-Err
returns-in-Err c = write_refused (state_of c.args.self.now) (actor_tree c.args.actor.now) (event_tree c.args.event.now) c.in-None.is c.in-Err.field-0 c.in-Err.ensures.decision

pub returns-in_ok-copy-in-None-region_of : goal.returns-in_ok-copy-in-None-region_of
returns-in_ok-copy-in-None-region_of c =
    ap (λ (e : EventTree). writes e) c.in_ok-copy-in-None-region_of.ensures
    ∙ write_accepted (state_of c.args.self.now) (actor_tree c.args.actor.now) (event_tree c.args.event.now) c.in-None.is c.in-Ok.field-0 c.in-Ok.ensures.decision None c.in-None-region_of.ensures.region
