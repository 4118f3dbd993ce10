use Rattle.cache_machine.specs.Views.{act_tree, actor_tree, state_of}
use Rattle.cache_machine.proofs.Plans.{planned}
use Rattle.cache_machine.proofs.stages.World.plan.Goals as goal

pub returns : goal.returns
returns c = planned (state_of c.args.self.now) c.args.step.now.actor (actor_tree c.actor.result.now) (act_tree c.args.step.now.act) c.plan_of.result c.actor.ensures c.plan_of.ensures
