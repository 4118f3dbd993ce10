use Rattle.std.proofs.Common.{◌≡◌, take, map}
use Rattle.nal_term.specs.Trees.{formula_tree}
use Rattle.proof_lines.specs.Lines.{line_trees}
use Rattle.label_store.specs.LabelRows.{rows as label_rows}
use Rattle.policy_history.specs.Judged.{labels_for}
use Rattle.policy_history.proofs.cases.held_labels.Given as goal

abbrev pub invariant-loop-line : goal.invariant-loop-line
invariant-loop-line l = map formula_tree l.labels ≡ labels_for (label_rows l.store) l.holder (line_trees (take l.line-index l.lines))
