use Rattle.std.proofs.Common.{◌≡◌, ◌+◌, ◌≤◌, ℕ, [], length}
use Rattle.policy_history.specs.Values.{entry_trees}
use Rattle.text_lines.specs.Lines.{first_line}
use Rattle.journal_text.specs.PolicyFronts.{AreBelow}
use Rattle.journal_text.specs.PolicyText.{Leads, open_with}
use Rattle.journal_text.proofs.PolicyReading.{IsPast}
use Rattle.journal_text.proofs.policy_reader.read_entries.Given as goal

abbrev pub invariant-loop-alloc : goal.invariant-loop-alloc
invariant-loop-alloc l = record {
  head : l.journal.head ≡ l.fn.journal.head;
  led : (n : ℕ) × (l.line ≡ l.before + n) × Leads (open_with l.fn.journal.head []) l.text n (open_with l.fn.journal.head (entry_trees l.journal.entries)) l.rest;
  below : AreBelow l.most_session (entry_trees l.journal.entries);
  past : IsPast (entry_trees l.journal.entries) (first_line l.rest);
  fewer : l.line + length l.rest ≤ l.before + length l.text;
}

abbrev pub decreases-loop-alloc : goal.decreases-loop-alloc
decreases-loop-alloc l = length l.rest
