use Rattle.std.proofs.Common.{◌≤◌, drop, length}
use Rattle.proof_text.specs.Laws.{IsOneLine}
use Rattle.journal_text.proofs.cut_reader.whole_length.Given as goal

abbrev pub invariant-loop-whole : goal.invariant-loop-whole
invariant-loop-whole l = (l.whole ≤ length l.text) × IsOneLine (drop l.whole l.text)

abbrev pub decreases-loop-whole : goal.decreases-loop-whole
decreases-loop-whole l = l.whole
