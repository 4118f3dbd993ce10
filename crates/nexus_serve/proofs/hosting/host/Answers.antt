use Rattle.std.proofs.Common.{◌≡◌, Err, Option, length, map, sym, subst, ◌∙◌, ap}
use Rattle.std.proofs.lemmas.List.{length-map}
use Rattle.std.specs.Prelude.{option_map}
use Rattle.nexus_serve.specs.declared.means.Means.{Means}
use Rattle.nx_io.specs.Views.{RecorderView, door_view, link_view, recorder_view}
use Rattle.nexus_serve.specs.Services.{ServedView}
use Rattle.nexus_serve.specs.Hosting.{Plan, served, some_cut_off, status_of}
use Rattle.nexus_serve.specs.Inner.Sharing.{IsMade}
use Rattle.nexus_serve.proofs.Readiness.{doors_viewed, hosts_unready}
use Rattle.nexus_serve.proofs.hosting.host.Goals as goal

pub serve-served-requires-clause-pairs : goal.serve-served-requires-clause-pairs
serve-served-requires-clause-pairs g c κs within =
    let ready = c.in-Ok.ensures.made c.args.sessions in
    ready.means_count ∙ sym ready.door_count ∙ length-map c.make_ready-ready.new.doors.items _

pub serve-served-requires-clause-workers : goal.serve-served-requires-clause-workers
serve-served-requires-clause-workers g c κs within =
    let ready = c.in-Ok.ensures.made c.args.sessions in
    let count : length c.make_ready-ready.new.doors.items ≡ c.args.workers = sym (length-map c.make_ready-ready.new.doors.items _) ∙ ready.door_count in
    rw (count) c.requires.workers

pub serve-served-requires-clause-numbers : goal.serve-served-requires-clause-numbers
serve-served-requires-clause-numbers g c κs within =
    let ready = c.in-Ok.ensures.made c.args.sessions in
    let count : length c.make_ready-ready.new.doors.items ≡ c.args.workers = sym (length-map c.make_ready-ready.new.doors.items _) ∙ ready.door_count in
    rw (count) c.requires.numbers

pub returns-in-Ok : goal.returns-in-Ok
returns-in-Ok g c =
    let door = door_view g.D.Door g.D.Link.Link in
    let ready = rw (c.head.ensures) at c.in-Ok.ensures.made c.args.sessions in
    record {
      hosted = served (map door c.make_ready-ready.new.doors.items) c.make_ready-ready.new.means.items ready c.serve-served.ensures.served
          (c.status_of-status.ensures ∙ ap (status_of c.served.inside.written c.served.inside.end) (c.is_cut_off-cut_off.ensures ∙ ap some_cut_off c.as_slice.ensures.value)
          ∙ ap (λ (s : ServedView (Means g.row.P.Denot g.row.C.Denot)). status_of s.written s.end (some_cut_off s.means)) c.served.view_is);
    }

pub returns-in-Err : goal.returns-in-Err
returns-in-Err g c =
    let plan : Plan = record { address = c.args.address.now; patience = c.args.patience; workers = c.args.workers; sessions = c.args.sessions } in
    let viewed = link_view g.D.Link.Link in
    let door = door_view g.D.Door g.D.Link.Link in
    let seen = g.P.Panel.history in
    let before = c.args.outside in
    let now = c.make_ready-ready.new.outside in
    let doors = c.make_ready-ready.new.doors.items in
    let means = c.make_ready-ready.new.means.items in
    let links = λ (d : g.row.D.Denot). option_map (map viewed) (g.D.Door.links d) in
    let recorder : Option g.row.C.Denot → Option RecorderView = λ r. option_map (recorder_view g.C.Sink g.C.Recorder) r in
    let back = c.idle.ensures.back in
    let made = subst (λ h. IsMade {A = Unit {0}} seen plan h (door before.door) (door now.door) (seen before.panel) (seen now.panel) (recorder before.recorder) (recorder now.recorder) (map door doors) means (Err c.in-Err.unready)) c.head.ensures (c.in-Err.ensures.made c.args.sessions) in
    let as_doors = subst (λ ds. IsMade {A = Unit {0}} seen plan c.args.journal.head (door before.door) (door now.door) (seen before.panel) (seen now.panel) (recorder before.recorder) (recorder now.recorder) ds means (Err c.in-Err.unready)) (sym back.doors_are) made in
    let as_handed = subst (λ ms. IsMade {A = Unit {0}} seen plan c.args.journal.head (door before.door) (door now.door) (seen before.panel) (seen now.panel) (recorder before.recorder) (recorder now.recorder) c.idle.result.doors ms (Err c.in-Err.unready)) (sym back.means_are) as_doors in
    record {
      hosted = hosts_unready (Unit {0}) seen plan c.args.journal.head c.args.journal.entries _ (door before.door) before.panel (recorder before.recorder) _ c.in-Err.unready as_handed c.unready_status.ensures
          (λ lent keepers. record {
            journal = c.idle.ensures.journal;
            sink_is = c.idle.ensures.sink;
            reports = back.reports;
            door_shares = rw back.doors_are (doors_viewed seen links g.D.Door.origin g.D.Door.calls now.door doors c.in-Err.ensures.doors_shared);
            panel_shares = rw back.means_are c.in-Err.ensures.panels_shared;
            keepers = keepers;
          });
    }
