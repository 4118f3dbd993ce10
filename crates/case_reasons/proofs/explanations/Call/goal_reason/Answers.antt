use Rattle.std.proofs.Common.{sym, subst, ap, ◌∙◌}
use Rattle.std.specs.Prelude.{option_map}
use Rattle.nal_term.specs.Trees.{formula_tree}
use Rattle.policy_history.specs.Events.{entry_tree}
use Rattle.policy_history.specs.Values.{entry_trees}
use Rattle.case_reasons.specs.Origins.{IsGoalReason}
use Rattle.case_reasons.proofs.Told.{goal_unset, set_by}
use Rattle.case_reasons.proofs.explanations.Call.goal_reason.Goals as goal

pub returns-in_err-entry : goal.returns-in_err-entry
returns-in_err-entry c =
    let call = c.args.self.now in
    let h = call.journal.now.head in
    let es = entry_trees call.journal.now.entries in
    subst (IsGoalReason h es call.principal call.op.now call.object.now call.number) (sym c.from_residual-in_err-entry.ensures)
    (goal_unset h es c.in_err-entry.ensures.legal call.principal call.op.now call.object.now call.number c.requires.there c.in_err-entry.ensures.last)

pub returns : goal.returns
returns c =
    let call = c.args.self.now in
    let h = call.journal.now.head in
    let es = entry_trees call.journal.now.entries in
    let entry = entry_tree c.in_ok-entry.field-0-1.now in
    let last = c.in_ok-entry.ensures.last in
    let told = sym c.requires.goal ∙ ap (option_map formula_tree) c.in_ok-goal.was in
    let set = set_by h es c.in_ok-entry.ensures.legal call.principal call.op.now call.object.now call.number c.requires.there c.in_ok-entry.entry entry (formula_tree c.in_ok-goal.goal) last told in
    record { entry = entry; last = last; goal = set.0; set = set.1; in_force = set.2; told = told }
