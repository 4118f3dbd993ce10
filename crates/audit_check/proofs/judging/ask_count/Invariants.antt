use Rattle.std.proofs.Common.{◌≡◌, ◌≤◌, length, filter, take}
use Rattle.proof_lines.specs.Lines.{line_trees}
use Rattle.nal_rules.specs.Faults.{is_ask}
use Rattle.audit_check.proofs.judging.ask_count.Given as goal

abbrev pub invariant-loop-line : goal.invariant-loop-line
invariant-loop-line l = (l.count ≡ length (filter is_ask (take l.line-index (line_trees l.lines)))) × (l.count ≤ l.line-index)
