use Rattle.std.proofs.Common.{◌∙◌}
use Rattle.std.proofs.lemmas.List.{take_rest}
use Rattle.nx_io.proofs.Told.{sending-more}
use Rattle.nx_io.proofs.links.send_whole.Goals as goal

-- What was sent before, and then the part that this send took, is a longer front of the piece. The rest stays.
pub loop-done-preserved : goal.loop-done-preserved
loop-done-preserved g c =
    let kept = c.loop-done.invariant in
    let more = c.in-Bytes.ensures in (
      sending-more _ _ _ c.args.piece.now _ _ _ _ c.loop-done.done c.in-Bytes.count kept.0
          (take_rest c.args.piece.now c.loop-done.done) more.within.1 more.bytes more.count,
      more.closed ∙ kept.1,
      record {
        left_is = more.coming.left_is ∙ kept.2.left_is;
        taken_is = more.coming.taken_is ∙ kept.2.taken_is;
        over_is = more.coming.over_is ∙ kept.2.over_is;
      },
      record {
        place_is = more.origin.place_is ∙ kept.3.place_is;
        toward_is = more.origin.toward_is ∙ kept.3.toward_is;
      },
      more.admitted ∙ kept.4,
    )
