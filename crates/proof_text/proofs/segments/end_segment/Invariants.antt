use Rattle.std.proofs.Common.{◌≡◌, ◌≤◌, ◌+◌, length}
use Rattle.std.specs.Option.{option_copied}
use Rattle.proof_text.specs.Places.{end_place, end_segment_of}
use Rattle.proof_text.specs.Inner.Reading.{segments_after, left}
use Rattle.proof_text.proofs.segments.end_segment.Given as goal

abbrev pub invariant-loop-rest : goal.invariant-loop-rest
invariant-loop-rest l =
    (end_place l.number (segments_after (option_copied l.rest)) ≡ end_segment_of l.text) × (l.number + left (option_copied l.rest) ≤ length l.text + 1)

abbrev pub decreases-loop-rest : goal.decreases-loop-rest
decreases-loop-rest l = left (option_copied l.rest)
