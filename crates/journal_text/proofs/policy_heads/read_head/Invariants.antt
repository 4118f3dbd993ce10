use Rattle.std.proofs.Common.{◌+◌, ◌≤◌, [], length}
use Rattle.journal_text.specs.PolicyText.{Leads, header_due, open_with}
use Rattle.journal_text.proofs.policy_heads.read_head.Given as goal

abbrev pub invariant-loop-line : goal.invariant-loop-line
invariant-loop-line l = record {
  led : Leads header_due l.text l.lines (open_with l.head []) l.rest;
  fewer : l.lines + length l.rest ≤ length l.text;
}

abbrev pub decreases-loop-line : goal.decreases-loop-line
decreases-loop-line l = length l.rest
