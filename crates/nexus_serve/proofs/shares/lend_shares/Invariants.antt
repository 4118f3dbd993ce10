use Rattle.std.proofs.Common.{[], true, false, ◌≡◌, ◌++◌, ℕ, length, map, replicate}
use Rattle.session_core.specs.Records.{unwanted}
use Rattle.nx_io.specs.Views.{RecorderView, recorder_view}
use Rattle.nexus_serve.specs.Hosting.{asked_more, kept_of}
use Rattle.nexus_serve.proofs.shares.lend_shares.Given as goal

abbrev pub invariant-loop-place : goal.invariant-loop-place
invariant-loop-place g l =
    let view : g.row.C.Denot → RecorderView = recorder_view g.C.Sink g.C.Recorder in
    record {
      count : length l.means.items ≡ length l.fn.means.items;
      panels : map (λ own. own.panel) l.means.items ≡ map (λ own. own.panel) l.fn.means.items;
      keepers : (others : ℕ) × (kept_of l.means.items ≡ replicate l.place (record { wanted = true; sent = []; faults = 0; broken = false }) ++ replicate others unwanted);
      asked : view l.recorder ≡ record (view l.fn.recorder) { shares = asked_more l.place (view l.fn.recorder).shares };
    }
