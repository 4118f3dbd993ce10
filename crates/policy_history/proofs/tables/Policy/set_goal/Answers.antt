use Rattle.std.proofs.Common.{refl}
use Rattle.goal_store.specs.GoalRows.{goals, is_goal}
use Rattle.policy_history.proofs.Changed.{put_either}
use Rattle.nal_term.specs.Trees.{formula_tree}
use Rattle.policy_history.proofs.tables.Policy.set_goal.Goals as goal

pub returns-in-Goal-clause-state : goal.returns-in-Goal-clause-state
returns-in-Goal-clause-state c =
    let before = goals c.args.self.now.goals in
    let n = c.object_or_0-number.result in
    let k = rw c.in-Goal.is at c.requires.copies in
    let e = put_either (is_goal c.in-Goal.op n) (c.in-Goal.op, n, formula_tree c.in-Goal.goal) before (goals c.set.new.self) c.set.ensures.known c.set.ensures.fresh in
    rw (k.1, e, c.set.ensures.ports, k.0, c.object_or_0-number.ensures) refl
