use Rattle.std.proofs.Common.{◌≡◌, take}
use Rattle.proof_lines.specs.Lines.{line_trees}
use Rattle.proof_lines.proofs.proofs.Proof.copy.Given as goal

abbrev pub invariant-loop-line : goal.invariant-loop-line
invariant-loop-line l = line_trees l.lines.items ≡ line_trees (take l.line-index l.line-items)
