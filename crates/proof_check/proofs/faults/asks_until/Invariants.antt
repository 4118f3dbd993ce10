use Rattle.std.proofs.Common.{◌≡◌, ◌≤◌, length, take}
use Rattle.std.specs.List.{filter}
use Rattle.proof_lines.specs.Lines.{line_trees}
use Rattle.nal_rules.specs.Faults.{is_ask}
use Rattle.proof_check.proofs.faults.asks_until.Given as goal

abbrev pub invariant-loop-line : goal.invariant-loop-line
invariant-loop-line l = record {
  bound : l.count ≤ l.line-index;
  counted : l.count ≡ length (filter is_ask (line_trees (take l.line-index (take l.number l.proof))));
}
