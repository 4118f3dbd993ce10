use Rattle.std.proofs.Common.{◌++◌, take, ap, ◌∙◌, sym}
use Rattle.std.proofs.lemmas.List.{take_all}
use Rattle.goal_store.specs.GoalRows.{ports}
use Rattle.proof_lines.specs.Lines.{line_tree, line_trees}
use Rattle.policy_history.specs.Judged.{bindings_for}
use Rattle.policy_history.specs.Inner.OneLine.{bindings_of_line}
use Rattle.policy_history.proofs.CaseLists.{bindings_more, lines_more}
use Rattle.policy_history.proofs.cases.bindings.Goals as goal

pub loop-line-preserved : goal.loop-line-preserved
loop-line-preserved c =
    let rows = ports c.args.store.now in
    let before = line_trees (take c.loop-line.line-index c.args.lines.now) in
    let l = line_tree c.line-item.result in
    c.in_ok-push_binding.ensures ∙ ap (λ xs. xs ++ bindings_of_line rows l) c.loop-line.invariant ∙ sym (bindings_more rows before l)
    ∙ sym (ap (λ ls. bindings_for rows ls) (lines_more c.args.lines.now c.loop-line.line-index c.line-item.result c.loop-line-test.true c.line-item.is))

pub returns : goal.returns
returns c = rw (take_all c.loop-line.line-index c.args.lines.now c.loop-line-test.false) at c.loop-line.invariant
