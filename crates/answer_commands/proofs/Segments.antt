-- How many lines a text has, beside what the laws of segments say.
use Rattle.std.proofs.Common.{◌≤◌, ◌+◌, ℕ, List, length, ◌==◌, arith}
use Rattle.std.proofs.lemmas.List.Sums.{count_by-le-length}
use Rattle.std.proofs.lemmas.Bool.Decides.{nat_tests}
use Rattle.text_lines.specs.Lines.{line_count}
-- one segment more than cuts, and no more line feeds and no more segments before the end than bytes
pub use Rattle.proof_text.proofs.SegmentCounts.{end_segment_bounded, length_segments, line_feeds_bounded}

-- no more lines than bytes, and one
pub line_count_bounded : (bs : List ℕ) → line_count bs ≤ length bs + 1
line_count_bounded bs = let c = count_by-le-length (λ b. b == 10) bs in grind (arith, nat_tests)
