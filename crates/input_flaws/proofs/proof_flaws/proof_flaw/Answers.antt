use Rattle.std.proofs.Common.{arith}
use Rattle.proof_text.proofs.SegmentCounts.{end_segment_bounded}
use Rattle.input_flaws.proofs.proof_flaws.proof_flaw.Goals as goal

pub overflow_add-end_segment : goal.overflow_add-end_segment
overflow_add-end_segment c =
    let within = end_segment_bounded c.args.text.now in
    let short = c.requires in
    rw c.end_segment.ensures (omega (arith, within, short))
