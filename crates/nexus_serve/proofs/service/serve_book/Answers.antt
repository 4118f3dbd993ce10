use Rattle.std.proofs.Common.{◌≡◌, ◌∙◌, ◌+◌, ◌-◌, ◌*◌, ap, length, map, take, sym, subst, arith}
use Rattle.std.proofs.lemmas.List.{length-map}
use Rattle.nx_io.specs.Streams.{Rose, SendsPart}
use Rattle.policy_history.specs.Values.{entry_trees}
use Rattle.policy_book.proofs.ForCallers.{front_of_text}
use Rattle.nx_io.specs.Views.{SinkView, door_view, sink_view}
use Rattle.nexus_serve.specs.Services.{unopened}
use Rattle.nexus_serve.specs.Inner.Desks.{seated}
use Rattle.nexus_serve.specs.Inner.Serving.{AreHired}
use Rattle.nexus_serve.proofs.Numbering.{each_hired}
use Rattle.nexus_serve.proofs.Seating.{room_hired, seated_count, seated_doors, seated_hired, seated_means}
use Rattle.nexus_serve.proofs.service.serve_book.Goals as goal

pub open-requires-clause-text : goal.open-requires-clause-text
open-requires-clause-text g c = rw (c.requires.made) (c.front_of.ensures ∙ ap (λ t. take (length t - 4) t) (c.as_slice.ensures ∙ c.requires.text) ∙ front_of_text c.args.board.now.origin.setting (entry_trees c.args.board.now.origin.opening))

pub serve_hired-requires-clause-hired : goal.serve_hired-requires-clause-hired
serve_hired-requires-clause-hired g c κs within =
    each_hired c.args.board.now c.args.board.now.origin.first c.args.sessions c.seat-workers.result.items
    (rw (c.seat-workers.ensures) (seated_hired c.args.board.now c.args.board.now.origin.first c.args.sessions c.args.prepared.desks.items (map (door_view g.D.Door g.D.Link.Link) c.args.doors.items) c.args.means.items c.requires.desks.0))

pub serve_hired-requires-clause-room : goal.serve_hired-requires-clause-room
serve_hired-requires-clause-room g c κs within =
    let desks = c.args.prepared.desks.items in
    let same : length (map (door_view g.D.Door g.D.Link.Link) c.args.doors.items) ≡ length desks = length-map c.args.doors.items (door_view g.D.Door g.D.Link.Link) ∙ sym c.requires.desks.1 in
    let pairs : length c.args.means.items ≡ length desks = c.requires.pairs ∙ sym c.requires.desks.1 in
    rw (c.seat-workers.ensures)
    (room_hired (length c.args.doors.items) (seated desks (map (door_view g.D.Door g.D.Link.Link) c.args.doors.items) c.args.means.items) c.args.prepared.room
    (seated_count desks (map (door_view g.D.Door g.D.Link.Link) c.args.doors.items) c.args.means.items same pairs ∙ c.requires.desks.1) c.requires.room)

pub returns-in-Ready : goal.returns-in-Ready
returns-in-Ready g c =
    let desks = c.args.prepared.desks.items in
    let same : length (map (door_view g.D.Door g.D.Link.Link) c.args.doors.items) ≡ length desks = length-map c.args.doors.items (door_view g.D.Door g.D.Link.Link) ∙ sym c.requires.desks.1 in
    let pairs : length c.args.means.items ≡ length desks = c.requires.pairs ∙ sym c.requires.desks.1 in
    let hired : AreHired c.args.board.now c.args.board.now.origin.first c.args.sessions (seated desks (map (door_view g.D.Door g.D.Link.Link) c.args.doors.items) c.args.means.items) =
    seated_hired c.args.board.now c.args.board.now.origin.first c.args.sessions desks (map (door_view g.D.Door g.D.Link.Link) c.args.doors.items) c.args.means.items c.requires.desks.0 in
    let count : length (seated desks (map (door_view g.D.Door g.D.Link.Link) c.args.doors.items) c.args.means.items) ≡ length c.args.doors.items = seated_count desks (map (door_view g.D.Door g.D.Link.Link) c.args.doors.items) c.args.means.items same pairs ∙ c.requires.desks.1 in
    let next : c.args.book.next ≡ c.args.board.now.origin.first + length (seated desks (map (door_view g.D.Door g.D.Link.Link) c.args.doors.items) c.args.means.items) * c.args.sessions =
    ap (λ b. b.next) c.requires.made ∙ ap (λ n. c.args.board.now.origin.first + n * c.args.sessions) (sym count) in
    let start = ap (λ b. b.start) c.requires.made in
    let start_faults = ap (λ b. b.start_faults) c.requires.made in
    let served = rw (c.in-Ready.ensures.book, c.seat-workers.ensures, start, start_faults, seated_doors desks (map (door_view g.D.Door g.D.Link.Link) c.args.doors.items) c.args.means.items same pairs, seated_means desks (map (door_view g.D.Door g.D.Link.Link) c.args.doors.items) c.args.means.items same pairs) at c.serve_hired.ensures.served in
    record { served = served c.args.sessions (g.K.Sink.synced c.args.book.sink) hired next }

pub returns : goal.returns
returns g c =
    let sink_now : SinkView = sink_view g.K.Sink c.open.new.self.sink in
    let text = c.front_of.ensures ∙ ap (λ t. take (length t - 4) t) (c.as_slice.ensures ∙ c.requires.text) ∙ front_of_text c.args.board.now.origin.setting (entry_trees c.args.board.now.origin.opening) in
    let part = subst (λ t. SendsPart (g.K.Sink.sent c.args.book.sink) (g.K.Sink.sent c.open.new.self.sink) t) text c.in-Failed.ensures.bytes in
    let rose : Rose (g.K.Sink.faults c.args.book.sink) (g.K.Sink.faults c.open.new.self.sink) = rw (c.in-Failed.ensures.count) (omega arith) in
    let e = c.unopened.ensures in
    let back = e.back in
    let journal = rw (c.in-Failed.ensures.book, c.requires.made) at e.journal in
    record {
      served = unopened sink_now journal e.sink part rose back.reports back.doors_are back.means_are back.written e.end;
    }
