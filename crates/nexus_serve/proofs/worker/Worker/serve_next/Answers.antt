use Rattle.std.proofs.Common.{◌≡◌, ◌<◌, ◌++◌, ◌∷◌, [], length, map, refl, sym, ap, ◌∙◌, arith}
use Rattle.std.proofs.lemmas.List.{length-map, map-append}
use Rattle.nx_io.specs.declared.doors.Next.TheVariants.{Link as NextLink, NoMore as NextNoMore, Failed as NextFailed}
use Rattle.nx_io.specs.Views.{LinkView, link_view}
use Rattle.nexus_serve.specs.Means.{means_history}
use Rattle.nexus_serve.specs.declared.reporting.ServedSession.{ServedSession}
use Rattle.nexus_serve.specs.Views.{joined, session_view}
use Rattle.nexus_serve.proofs.Gathering.{joined_last}
use Rattle.nexus_serve.proofs.Views.{answered_viewed}
use Rattle.nexus_serve.proofs.Working.{done_failed, done_no_more, done_no_room, first_unused, heard_weaker, working_on}
use Rattle.nexus_serve.proofs.worker.Worker.serve_next.Goals as goal

pub serve_link-report-requires-clause-board : goal.serve_link-report-requires-clause-board
serve_link-report-requires-clause-board g c = (first_unused c.args.board.now c.in-Some.pass _ _ c.in-Some.ensures.some (rw (← c.self.view_is) at c.requires.unused)).board_is

pub serve_link-report-requires-clause-trail : goal.serve_link-report-requires-clause-trail
serve_link-report-requires-clause-trail g c = (first_unused c.args.board.now c.in-Some.pass _ _ c.in-Some.ensures.some (rw (← c.self.view_is) at c.requires.unused)).trail

pub serve_link-report-requires-clause-unused : goal.serve_link-report-requires-clause-unused
serve_link-report-requires-clause-unused g c = (first_unused c.args.board.now c.in-Some.pass _ _ c.in-Some.ensures.some (rw (← c.self.view_is) at c.requires.unused)).unused

pub returns-then-not-has_taken_room-clause-went : goal.returns-then-not-has_taken_room-clause-went
returns-then-not-has_taken_room-clause-went g c start w =
    rw (c.has_taken_room.ensures.items.0, c.has_taken_room.ensures.items.1)
    (done_no_room (means_history g.P.Panel.history) c.args.board.now start _ _ (rw (← c.self.view_is) at w) (rw (← c.self.view_is) at c.requires.some))

pub returns-in-Some-clause-went : goal.returns-in-Some-clause-went
returns-in-Some-clause-went g c start w =
    let link : g.row.D-Link.Denot → LinkView = (link_view g.D.Link.Link) in
    let e = c.in-Link.ensures in
    let answered = answered_viewed g.D.Link.Link g.D.Door (NextLink c.in-Link.link) c.self.inside.door c.next.new.self e.fresh e.place e.toward e.links e.calls e.origin in
    let told = c.serve_link-report.ensures in
    let report = c.serve_link-report.result in
    let some : g.B.BookAccess.unrecorded c.args.book.now < g.B.BookAccess.unrecorded c.serve_link-report.new.book → 0 < g.B.BookAccess.unrecorded c.serve_link-report.new.book = λ more. omega (arith, more) in
    let before = c.self.inside.sessions.items in
    let used = c.self.inside.used.items in
    let last : ServedSession g.row.D-Link.Denot = record { session = report.session; principal = report.principal; link = report.link; end = report.end } in
    let sessions : c.add.new.sessions.items ≡ before ++ last ∷ [] = c.add.ensures.sessions ∙ ap (λ l. l ++ last ∷ []) c.has_taken_room.ensures.items.0 in
    let passes : c.add.new.used.items ≡ used ++ report.pass ∷ [] = c.add.ensures.used ∙ ap (λ l. l ++ report.pass ∷ []) c.has_taken_room.ensures.items.1 in
    let pairs : length (map (session_view link) before) ≡ length used = length-map before (session_view link) ∙ c.self.invariant in
    working_on (means_history g.P.Panel.history) c.args.board.now start _ _ (rw (← c.self.view_is) at w) _ _ (link c.in-Link.link) _ answered
    (record {
      pass = c.in-Some.pass;
      report = record {
        session = report.session;
        who = report.principal;
        end = report.end;
        link = link report.link;
        pass = report.pass;
      };
      used = c.in-Some.ensures.some;
      reports = (λ i. joined (map (session_view link) (sessions i)) (passes i)) ∙ ap (λ l. joined l (used ++ report.pass ∷ [])) (map-append (session_view link) before (last ∷ []))
          ∙ joined_last (map (session_view link) before) used (session_view link last) report.pass pairs;
      first = refl;
      door = refl;
      failed = refl;
      short = refl;
      from = record { bytes = told.bytes; place = told.origin.place_is; toward = told.origin.toward_is; over = told.over; closed = told.closed; admitted = told.admitted; faults = told.link_count };
      session = told.session.0;
      pass_session = told.session.1 ∙ sym told.session.0;
      board_is = told.board;
      later = told.told.counted.later;
      heard = heard_weaker some (record { asked = told.asked; served = told.told.served; recorded = told.told.counted.counted });
      parts = refl;
      unrecorded = refl;
    })

pub returns-in-Failed-clause-went : goal.returns-in-Failed-clause-went
returns-in-Failed-clause-went g c start w =
    let e = c.in-Failed.ensures in
    let answered = answered_viewed g.D.Link.Link g.D.Door NextFailed c.self.inside.door c.next.new.self e.fresh e.place e.toward e.links e.calls e.origin in
    rw (c.has_taken_room.ensures.items.0, c.has_taken_room.ensures.items.1)
    (done_failed (means_history g.P.Panel.history) c.args.board.now start _ _ (rw (← c.self.view_is) at w) _ (rw (← c.self.view_is) at c.requires.some) answered)

pub returns-in-NoMore-clause-went : goal.returns-in-NoMore-clause-went
returns-in-NoMore-clause-went g c start w =
    let e = c.in-NoMore.ensures in
    let answered = answered_viewed g.D.Link.Link g.D.Door NextNoMore c.self.inside.door c.next.new.self e.fresh e.place e.toward e.links e.calls e.origin in
    rw (c.has_taken_room.ensures.items.0, c.has_taken_room.ensures.items.1)
    (done_no_more (means_history g.P.Panel.history) c.args.board.now start _ _ (rw (← c.self.view_is) at w) _ (rw (← c.self.view_is) at c.requires.some) answered)
