use Rattle.std.proofs.Common.{◌∙◌}
use Rattle.std.proofs.lemmas.List.{take_rest}
use Rattle.nx_io.proofs.Told.{sending-more}
use Rattle.nx_io.proofs.streams.send_all.Goals as goal

-- What was sent before, and then the part that this write took, is a longer front of the piece.
pub loop-done-preserved : goal.loop-done-preserved
loop-done-preserved g c =
    let kept = c.loop-done.invariant in
    let more = c.in-Bytes.ensures in (
      sending-more _ _ _ c.args.piece.now _ _ _ _ c.loop-done.done c.in-Bytes.count kept.0
          (take_rest c.args.piece.now c.loop-done.done) more.within.1 more.bytes more.count,
      more.synced ∙ kept.1,
    )
