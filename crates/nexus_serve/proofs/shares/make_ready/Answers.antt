use Rattle.std.proofs.Common.{◌≡◌, ◌∙◌, [], Err, Option, ap, replicate, map, refl, subst, length}
use Rattle.std.specs.Prelude.{option_map}
use Rattle.authority_ask.specs.PanelCalls.{shared}
use Rattle.nx_io.specs.Views.{DoorView, RecorderView, door_view, link_view, recorder_view}
use Rattle.nexus_serve.specs.Hosting.{HasCalled, HasCalledPanel, HasLent, HaveShares, IsPanelShare, kept_of, panel_calls}
use Rattle.nexus_serve.specs.Inner.Sharing.{SharesRecorder}
use Rattle.nexus_serve.proofs.Readiness.{door_made, handed_on, panel_ready, panel_unmade, recorder_unmade}
use Rattle.nexus_serve.proofs.Recorders.{as_many, panels_stay}
use Rattle.nexus_serve.proofs.shares.make_ready.Goals as goal

pub returns-in_ok-share_recorder-in-Ready-clause-made : goal.returns-in_ok-share_recorder-in-Ready-clause-made
returns-in_ok-share_recorder-in-Ready-clause-made g c =
    let reach = c.in-Ready.ensures in
    let shares = c.in_ok-share_panel-in-Ready.ensures in
    let lends = c.in_ok-share_recorder-in-Ready.ensures in
    let e = c.listen_and_share.ensures in
    let viewed = link_view g.D.Link.Link in
    let asked = g.P.Panel.history c.args.outside.now.panel in
    let reached = g.P.Panel.history c.reach_all.new.panel in
    let asked_now = g.P.Panel.history c.share_panel.new.panel in
    let before = c.share_panel.new.means.items in
    let means = c.share_recorder.new.means.items in
    let all = subst (λ cs. HasCalledPanel cs reached asked_now) shares.calls.2.1 shares.calls.1 in
    let many = subst (λ n. HasCalledPanel (replicate n shared) reached asked_now) shares.calls.2.0 all in
    let ready : HasCalledPanel (panel_calls c.args.head.now c.args.workers) asked asked_now = panel_ready c.args.head.now asked reached asked_now reach.reached c.args.workers many in
    let called : HasCalled e.calls.0 (door_view g.D.Door g.D.Link.Link c.args.outside.now.door) (door_view g.D.Door g.D.Link.Link c.listen_and_share.new.door) = rw (e.links, e.origin, e.calls.1) refl in
    let count : length means ≡ c.args.workers = as_many before means lends.panels ∙ shares.calls.2.0 in
    let recorder : Option g.row.C.Denot → Option RecorderView = λ r. option_map (recorder_view g.C.Sink g.C.Recorder) r in
    let recorder_now = recorder c.share_recorder.new.recorder in
    let lent : HasLent c.args.workers (recorder c.args.outside.now.recorder) recorder_now = subst (λ n. HasLent n (recorder c.args.outside.now.recorder) recorder_now) shares.calls.2.0 lends.lent.2.1 in
    let keepers : HaveShares c.args.workers (recorder c.args.outside.now.recorder) (kept_of means) = subst (λ n. HaveShares n (recorder c.args.outside.now.recorder) (kept_of means)) (lends.lent.2.0 ∙ shares.calls.2.0) lends.lent.1 in
    let panel_shares = panels_stay before means lends.panels (λ p. IsPanelShare asked_now (g.P.Panel.history p)) shares.shared in
    λ sessions.
    door_made g.P.Panel.history (λ door. option_map (map viewed) (g.D.Door.links door)) g.D.Door.origin g.D.Door.calls (record { address = c.args.address.now; patience = c.args.patience; workers = c.args.workers; sessions = sessions })
    c.args.head.now c.args.outside.now.door c.listen_and_share.new.door asked asked_now (recorder c.args.outside.now.recorder) recorder_now c.listen_and_share.new.shares.items means ready lent count panel_shares keepers e.calls.0 called c.listen_and_share.result e.calls.2 e.shared

pub returns-in_ok-share_recorder-in-Ready-clause-panels_shared : goal.returns-in_ok-share_recorder-in-Ready-clause-panels_shared
returns-in_ok-share_recorder-in-Ready-clause-panels_shared g c =
    panels_stay c.share_panel.new.means.items c.share_recorder.new.means.items c.in_ok-share_recorder-in-Ready.ensures.panels (λ p. IsPanelShare (g.P.Panel.history c.share_panel.new.panel) (g.P.Panel.history p))
    c.in_ok-share_panel-in-Ready.ensures.shared

pub returns-in_err-share_recorder-in-Ready-clause-panels_shared : goal.returns-in_err-share_recorder-in-Ready-clause-panels_shared
returns-in_err-share_recorder-in-Ready-clause-panels_shared g c =
    panels_stay c.share_panel.new.means.items c.share_recorder.new.means.items c.in_err-share_recorder-in-Ready.ensures.panels (λ p. IsPanelShare (g.P.Panel.history c.share_panel.new.panel) (g.P.Panel.history p))
    c.in_ok-share_panel-in-Ready.ensures.shared

pub returns-in_err-share_panel-in-Ready-clause-made : goal.returns-in_err-share_panel-in-Ready-clause-made
returns-in_err-share_panel-in-Ready-clause-made g c =
    let shares = c.in_err-share_panel-in-Ready.ensures in
    let viewed = link_view g.D.Link.Link in
    let door : g.row.D.Denot → DoorView = door_view g.D.Door g.D.Link.Link in
    let recorder : Option g.row.C.Denot → Option RecorderView = λ r. option_map (recorder_view g.C.Sink g.C.Recorder) r in
    let no_doors : map door c.make_room.new.doors.items ≡ [] = ap (map door) (c.in_ok-make_room-in-Ready.ensures.items.0 ∙ c.requires.none.0) in
    λ sessions.
    panel_unmade (Unit {0}) g.P.Panel.history (record { address = c.args.address.now; patience = c.args.patience; workers = c.args.workers; sessions = sessions }) c.args.head.now (door c.args.outside.now.door) (g.P.Panel.history c.args.outside.now.panel)
    (recorder c.args.outside.now.recorder) (map door c.make_room.new.doors.items) c.share_panel.new.means.items no_doors (g.P.Panel.history c.reach_all.new.panel) c.in-Ready.ensures.reached (g.P.Panel.history c.share_panel.new.panel)
    c.from_residual-in_err-share_panel-in-Ready.result c.in_err-share_panel-in-Ready.field-0.0 shares.calls.0 (handed_on c.from_residual-in_err-share_panel-in-Ready.result c.in_err-share_panel-in-Ready.field-0.0 c.from_residual-in_err-share_panel-in-Ready.ensures.1) shares.calls.1 shares.calls.2 shares.keepers

pub returns-in_err-share_recorder-in-Ready-clause-made : goal.returns-in_err-share_recorder-in-Ready-clause-made
returns-in_err-share_recorder-in-Ready-clause-made g c =
    let reach = c.in-Ready.ensures in
    let shares = c.in_ok-share_panel-in-Ready.ensures in
    let lends = c.in_err-share_recorder-in-Ready.ensures in
    let viewed = link_view g.D.Link.Link in
    let door : g.row.D.Denot → DoorView = door_view g.D.Door g.D.Link.Link in
    let recorder : Option g.row.C.Denot → Option RecorderView = λ r. option_map (recorder_view g.C.Sink g.C.Recorder) r in
    let no_doors : map door c.make_room.new.doors.items ≡ [] = ap (map door) (c.in_ok-make_room-in-Ready.ensures.items.0 ∙ c.requires.none.0) in
    let asked = g.P.Panel.history c.args.outside.now.panel in
    let reached = g.P.Panel.history c.reach_all.new.panel in
    let asked_now = g.P.Panel.history c.share_panel.new.panel in
    let all = subst (λ cs. HasCalledPanel cs reached asked_now) shares.calls.2.1 shares.calls.1 in
    let many = subst (λ n. HasCalledPanel (replicate n shared) reached asked_now) shares.calls.2.0 all in
    let ready : HasCalledPanel (panel_calls c.args.head.now c.args.workers) asked asked_now = panel_ready c.args.head.now asked reached asked_now reach.reached c.args.workers many in
    let before = c.share_panel.new.means.items in
    let means = c.share_recorder.new.means.items in
    let recorder_now = recorder c.share_recorder.new.recorder in
    let e = c.in_err-share_recorder-in-Ready.field-0.0 in
    let failed : SharesRecorder {A = Unit {0}} (Err e) c.args.workers lends.lent.0 (recorder c.args.outside.now.recorder) recorder_now =
    subst (λ n. SharesRecorder {A = Unit {0}} (Err e) n lends.lent.0 (recorder c.args.outside.now.recorder) recorder_now) shares.calls.2.0 lends.lent.2 in
    λ sessions.
    recorder_unmade (Unit {0}) g.P.Panel.history (record { address = c.args.address.now; patience = c.args.patience; workers = c.args.workers; sessions = sessions }) c.args.head.now (door c.args.outside.now.door) asked
    (recorder c.args.outside.now.recorder) (map door c.make_room.new.doors.items) means no_doors asked_now recorder_now c.from_residual-in_err-share_recorder-in-Ready.result e lends.lent.0 (handed_on c.from_residual-in_err-share_recorder-in-Ready.result c.in_err-share_recorder-in-Ready.field-0.0 c.from_residual-in_err-share_recorder-in-Ready.ensures.1) ready (as_many before means lends.panels ∙ shares.calls.2.0) lends.lent.1 failed
