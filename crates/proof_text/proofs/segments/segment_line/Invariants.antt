use Rattle.std.proofs.Common.{◌≡◌, ◌≤◌, ◌+◌, drop}
use Rattle.proof_text.specs.Places.{line_feeds_before}
use Rattle.proof_text.proofs.segments.segment_line.Given as goal

abbrev pub invariant-loop-byte : goal.invariant-loop-byte
invariant-loop-byte l =
    (l.line_feeds + line_feeds_before l.cuts_left (drop l.byte-index l.text) ≡ line_feeds_before l.segment l.text) × (l.line_feeds ≤ l.byte-index)
