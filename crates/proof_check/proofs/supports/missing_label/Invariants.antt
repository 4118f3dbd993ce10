use Rattle.std.proofs.Common.{ℕ, ◌<◌, map}
use Rattle.nal_term.specs.Trees.{formula_tree}
use Rattle.proof_lines.specs.Lines.{line_trees}
use Rattle.nal_rules.specs.Verdicts.{IsMissingLabel}
use Rattle.proof_check.proofs.supports.missing_label.Given as goal

abbrev pub invariant-loop-number : goal.invariant-loop-number
invariant-loop-number l = (j : ℕ) → j < l.number → ¬ IsMissingLabel (line_trees l.proof) (map formula_tree l.labels) j
