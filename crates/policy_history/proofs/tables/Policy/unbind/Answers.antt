use Rattle.std.proofs.Common.{Some, refl}
use Rattle.policy_history.specs.Machine.{is_stated}
use Rattle.goal_store.specs.GoalRows.{ports, port_of, is_port}
use Rattle.policy_history.specs.declared.events.Refusal.TheVariants.{NoBinding, BadFormula}
use Rattle.policy_history.proofs.Changed.{bound_there, gone}
use Rattle.nal_term.specs.Trees.{term_tree}
use Rattle.policy_history.proofs.tables.Policy.unbind.Goals as goal

pub returns-clause-state : goal.returns-clause-state
returns-clause-state c =
    let before = ports c.args.self.now.goals in
    let t = term_tree c.in-Some.principal in
    let stated = rw c.in-Some.is at (c.requires BadFormula) in
    let bound = rw c.in-Some.is at (c.requires NoBinding) in
    let there = bound_there (is_stated (Some t)) (port_of before t) stated bound in
    let e = gone (is_port t) c.unbind-had.result (port_of before t) before (ports c.unbind-had.new.self) c.unbind-had.ensures.had there c.unbind-had.ensures.removed in
    rw (c.in-Some.is, e, c.unbind-had.ensures.goals) refl
