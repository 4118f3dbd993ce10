use Rattle.std.proofs.Common.{None, refl, ◌∙◌, sym}
use Rattle.verdict_words.proofs.ForCallers.{prefix_through}
use Rattle.session_core.proofs.BoardGoing.{first_ready, opening_here, seen_here, served_over, session_here}
use Rattle.session_core.proofs.board_serving.serve_link.Goals as goal

pub sit-session-requires-clause-ready : goal.sit-session-requires-clause-ready
sit-session-requires-clause-ready g c =
    first_ready c.args.beside.now.board.now _ c.args.pass (record { pass = c.meet-pass.result; admitted = None; known = c.new.result }) (rw c.requires.named at c.meet-pass.ensures.met.1) refl c.new.ensures refl

pub returns-clause-told : goal.returns-clause-told
returns-clause-told g c =
    let sat = c.sit-session.ensures.sat in
    let met = rw c.requires.named at c.meet-pass.ensures.met.1 in
    rw (c.close.ensures.coming.taken_is, c.close.ensures.sent, c.principal-principal.ensures, ← c.meet-pass.ensures.unrecorded)
    (served_over c.args.beside.now.board.now _ c.args.pass (record { pass = c.meet-pass.result; admitted = None; known = c.new.result }) met refl c.new.ensures
    c.sit-session.result.0 _ _ _ _ _ _ sat.requests sat.replies c.sit-session.result.1 _ _ c.session-number.result c.requires.trail c.requires.unused
    (opening_here c.args.beside.now.board.now _ c.args.pass c.meet-pass.result met c.at-at.ensures.begins) c.session-number.ensures.session sat.told sat.ended)

pub returns-clause-session : goal.returns-clause-session
returns-clause-session g c =
    let here = session_here _ _ c.args.pass c.meet-pass.result c.meet-pass.ensures.met.1 in
    (c.session-number.ensures.session ∙ here, c.sit-session.ensures.sat.told.session_is ∙ here)

pub returns-clause-board : goal.returns-clause-board
returns-clause-board g c = c.sit-session.ensures.ready.board_is

pub returns-clause-seen : goal.returns-clause-seen
returns-clause-seen g c =
    prefix_through c.args.pass.seen c.meet-pass.result.seen c.sit-session.result.0.pass.seen (seen_here _ _ c.args.pass c.meet-pass.result c.meet-pass.ensures.met.1) c.sit-session.ensures.sat.told.seen

pub returns-clause-known : goal.returns-clause-known
returns-clause-known g c =
    prefix_through c.args.pass.known c.meet-pass.result.known c.sit-session.result.0.pass.known c.meet-pass.ensures.met.1.knows c.sit-session.ensures.sat.told.knows

pub returns-clause-asked : goal.returns-clause-asked
returns-clause-asked g c = c.sit-session.ensures.sat.told.asked

pub returns-clause-book : goal.returns-clause-book
returns-clause-book g c = c.sit-session.ensures.book ∙ sym c.requires.named

pub returns-clause-link_count : goal.returns-clause-link_count
returns-clause-link_count g c = rw (← c.sit-session.ensures.link_count) c.close.ensures.count
