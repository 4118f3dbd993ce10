use Rattle.std.proofs.Common.{refl}
use Rattle.goal_store.specs.GoalRows.{goals, goal_of, is_goal}
use Rattle.object_table.specs.Objects.{number_of}
use Rattle.policy_history.specs.declared.events.Refusal.TheVariants.{NoGoal}
use Rattle.policy_history.specs.States.{object_or_0}
use Rattle.policy_history.specs.Tables.{state_of}
use Rattle.policy_history.proofs.Changed.{named, gone}
use Rattle.policy_history.proofs.tables.Policy.clear_goal.Goals as goal

pub returns-clause-state : goal.returns-clause-state
returns-clause-state c =
    let before = goals c.args.self.now.goals in
    let s = state_of c.args.self.now in
    let n = object_or_0 s c.args.object.now in
    let there = named (number_of s.objects c.args.object.now) (goal_of before c.args.op.now) (c.requires NoGoal) in
    let h = rw c.object_or_0-number.ensures at c.clear-had.ensures.had in
    let r = rw c.object_or_0-number.ensures at c.clear-had.ensures.removed in
    let e = gone (is_goal c.args.op.now n) c.clear-had.result (goal_of before c.args.op.now n) before (goals c.clear-had.new.self) h there r in
    rw (e, c.clear-had.ensures.ports) refl
