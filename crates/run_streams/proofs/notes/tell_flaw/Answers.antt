use Rattle.std.proofs.Common.{◌≡◌, ◌++◌, ◌∷◌, [], subst, ◌∙◌}
use Rattle.nx_io.specs.Streams.{SendsAll, SendsPart}
use Rattle.run_streams.specs.Flaws.{flaw_place, flaw_text, flaw_tree}
use Rattle.run_streams.proofs.Sending.{part_sends, then_sends}
use Rattle.run_streams.proofs.notes.tell_flaw.Goals as goal

pub returns-in-Ready-clause-bytes : goal.returns-in-Ready-clause-bytes
returns-in-Ready-clause-bytes g c =
    let place : c.as_slice.result.now ≡ flaw_place c.args.number c.args.flaw.byte = c.as_slice.ensures.value ∙ c.place-place.ensures in
    let text : (c.as_slice.result.now ++ c.as_bytes.result.now) ++ 10 ∷ [] ≡ flaw_text c.args.number (flaw_tree c.args.flaw) =
    (λ i. (place i ++ c.as_bytes.ensures.value i) ++ 10 ∷ []) in
    subst (SendsAll c.send_all.result (g.K.Sink.sent c.args.sink.now) (g.K.Sink.sent c.send_all.new.sink)) text
    (then_sends c.send_all.result _ _ _ _ _ c.in-Ready.ensures.bytes c.send_all.ensures.bytes)

pub returns-in-Failed-clause-bytes : goal.returns-in-Failed-clause-bytes
returns-in-Failed-clause-bytes g c =
    let place : c.as_slice.result.now ≡ flaw_place c.args.number c.args.flaw.byte = c.as_slice.ensures.value ∙ c.place-place.ensures in
    let text : (c.as_slice.result.now ++ c.as_bytes.result.now) ++ 10 ∷ [] ≡ flaw_text c.args.number (flaw_tree c.args.flaw) =
    (λ i. (place i ++ c.as_bytes.ensures.value i) ++ 10 ∷ []) in
    subst (SendsPart (g.K.Sink.sent c.args.sink.now) (g.K.Sink.sent c.send_both.new.sink)) text (part_sends _ _ _ (10 ∷ []) c.in-Failed.ensures.bytes)
