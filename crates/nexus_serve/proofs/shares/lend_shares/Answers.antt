use Rattle.std.proofs.Common.{◌≡◌, ◌<◌, [], true, false, ap, ◌∙◌, length, slice_set, arith}
use Rattle.std.proofs.lemmas.List.{length-map, length-set, map-set}
use Rattle.std.proofs.Math.Seq.{map-set_same}
use Rattle.session_core.specs.Records.{Kept}
use Rattle.nx_io.specs.Views.{RecorderView, recorder_view}
use Rattle.nexus_serve.specs.Hosting.{kept_of}
use Rattle.nexus_serve.proofs.Recorders.{asked_once, one_lent, over_share}
use Rattle.nexus_serve.proofs.shares.lend_shares.Goals as goal

pub loop-place-preserved : goal.loop-place-preserved
loop-place-preserved g c =
    let i = c.loop-place.invariant in
    let e = c.in-Made.ensures in
    let items = c.loop-place.means.items in
    let place = c.loop-place.place in
    let first : Kept = record { wanted = true; sent = []; faults = 0; broken = false } in
    let over : c.over.result ≡ first = over_share c.over.result (g.C.Sink.sent c.in-Made.share) (g.C.Sink.faults c.in-Made.share) c.over.ensures e.fresh.0 e.fresh.1 in
    let within : place < length (kept_of items) =
    (let long : length (kept_of items) ≡ length items = length-map items (λ own. own.records) in
    let count = i.count in
    let whole = c.args.means.now.ok.0 in
    let same = c.len-place-end.ensures in
    let test = c.loop-place-test.true in
    omega (arith, long, count, whole, same, test)) in
    let view : g.row.C.Denot → RecorderView = recorder_view g.C.Sink g.C.Recorder in
    let kept = one_lent first (kept_of items) place i.keepers.0 i.keepers.1 within in
    record {
      count = length-set items place _ ∙ i.count;
      panels = map-set_same (λ own. own.panel) items place _ c.index_mut.result.now (ap (λ own. own.panel) c.index_mut.ensures.value) ∙ i.panels;
      keepers = (kept.0, map-set (λ own. own.records) items place _ ∙ ap (slice_set (kept_of items) place) over ∙ kept.1);
      asked = asked_once (view c.args.recorder.now) (view c.loop-place.recorder) (view c.share.new.self) place i.asked e.sent e.synced e.count e.shares;
    }
