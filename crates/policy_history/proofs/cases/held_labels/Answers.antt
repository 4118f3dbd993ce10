use Rattle.std.proofs.Common.{◌++◌, take, ap, ◌∙◌, sym}
use Rattle.std.proofs.lemmas.List.{take_all}
use Rattle.label_store.specs.LabelRows.{rows as label_rows}
use Rattle.proof_lines.specs.Lines.{line_tree, line_trees}
use Rattle.policy_history.specs.Judged.{labels_for}
use Rattle.policy_history.specs.Inner.OneLine.{label_of_line}
use Rattle.policy_history.proofs.CaseLists.{labels_more, lines_more}
use Rattle.policy_history.proofs.cases.held_labels.Goals as goal

pub loop-line-preserved : goal.loop-line-preserved
loop-line-preserved c =
    let rows = label_rows c.args.store.now in
    let before = line_trees (take c.loop-line.line-index c.args.lines.now) in
    let l = line_tree c.line-item.result in
    c.in_ok-push_label.ensures ∙ ap (λ xs. xs ++ label_of_line rows c.args.holder l) c.loop-line.invariant ∙ sym (labels_more rows c.args.holder before l)
    ∙ sym (ap (λ ls. labels_for rows c.args.holder ls) (lines_more c.args.lines.now c.loop-line.line-index c.line-item.result c.loop-line-test.true c.line-item.is))

pub returns : goal.returns
returns c = rw (take_all c.loop-line.line-index c.args.lines.now c.loop-line-test.false) at c.loop-line.invariant
