use Rattle.std.proofs.Common.{sym, ◌∙◌, refl}
use Rattle.authority_ask.proofs.ForCallers.{since_nothing}
use Rattle.session_core.proofs.BoardSnaps.{checked_as, checked_ready, checked_turn, known_has_place, met_now_of, met_ready, none_here, none_turn, snap_board, snap_here, unasked_turn, unsnapped_turn}
use Rattle.session_core.proofs.Noting.{admitted_here, noted_as}
use Rattle.session_core.proofs.board_session.BoardSession.snap.Goals as goal

pub returns-in_default-clause-turn : goal.returns-in_default-clause-turn
returns-in_default-clause-turn g c = λ s who missed.
    unsnapped_turn c.args.principal c.args.op.now c.args.object.now c.args.arg s c.args.self who missed c.reserve.new.self _ c.reserve.ensures.known (since_nothing (g.P.Panel.history c.args.panel.now))

pub judge-requires-clause-snap : goal.judge-requires-clause-snap
judge-requires-clause-snap g c =
    let t = c.snap-pass.ensures.snapped in
    snap_here _ _ _ _ t.met c.args.principal c.args.op.now c.args.object.now c.in-Ok.room.object c.in-Case.at c.in-Case.case c.in-Case.place c.in-Case.object c.in-Ok.ensures.object (rw c.in-Case.is at t.snap)

pub judge-requires-clause-known : goal.judge-requires-clause-known
judge-requires-clause-known g c =
    let t = c.snap-pass.ensures.snapped in
    let met = met_now_of _ _ c.args.self c.snap-pass.result.0 c.reserve.new.self t.met (c.requires.named ∙ sym c.requires.ready.board_is) c.reserve.ensures.known in
    known_has_place c.args.beside.now.board.now _ c.args.principal c.args.op.now c.in-Ok.room.object c.in-Case.at c.in-Case.case c.in-Case.place c.in-Case.object (met_ready c.args.beside.now.board.now c.args.self _ c.requires.ready met) c.requires.who
    (rw c.requires.named at (snap_board _ _ _ _ t.met c.args.principal c.args.op.now c.args.object.now c.in-Ok.room.object c.in-Case.at c.in-Case.case c.in-Case.place c.in-Case.object c.in-Ok.ensures.object (rw c.in-Case.is at t.snap)))

pub returns-in-Case-clause-ready : goal.returns-in-Case-clause-ready
returns-in-Case-clause-ready g c =
    let t = c.snap-pass.ensures.snapped in
    let met = met_now_of _ _ c.args.self c.snap-pass.result.0 c.reserve.new.self t.met (c.requires.named ∙ sym c.requires.ready.board_is) c.reserve.ensures.known in
    checked_ready c.args.beside.now.board.now _ _ c.args.principal c.args.op.now c.in-Ok.room.object c.args.arg c.in-Case.at c.in-Case.case c.in-Case.place c.in-Case.object _ _ (met_ready c.args.beside.now.board.now c.args.self _ c.requires.ready met) c.requires.who
    (rw c.requires.named at (snap_board _ _ _ _ t.met c.args.principal c.args.op.now c.args.object.now c.in-Ok.room.object c.in-Case.at c.in-Case.case c.in-Case.place c.in-Case.object c.in-Ok.ensures.object (rw c.in-Case.is at t.snap)))
    c.judge.ensures.checked

pub returns-in-Case-clause-turn : goal.returns-in-Case-clause-turn
returns-in-Case-clause-turn g c = λ s who missed.
    let t = c.snap-pass.ensures.snapped in
    let met = met_now_of _ _ c.args.self c.snap-pass.result.0 c.reserve.new.self t.met (c.requires.named ∙ sym c.requires.ready.board_is) c.reserve.ensures.known in
    checked_turn c.args.principal c.args.op.now c.args.object.now c.args.arg s c.args.self who missed _ met c.in-Case.object c.in-Case.at c.in-Case.case c.in-Case.place
    (snap_here _ _ _ _ t.met c.args.principal c.args.op.now c.args.object.now c.args.object.now c.in-Case.at c.in-Case.case c.in-Case.place c.in-Case.object refl (rw c.in-Case.is at t.snap)) _ _ _
    (checked_as c.in-Ok.ensures.object c.judge.ensures.checked)

pub judge-requires-clause-who : goal.judge-requires-clause-who
judge-requires-clause-who g c =
    let t = c.snap-pass.ensures.snapped in
    let met = met_now_of _ _ c.args.self c.snap-pass.result.0 c.reserve.new.self t.met (c.requires.named ∙ sym c.requires.ready.board_is) c.reserve.ensures.known in
    admitted_here c.args.beside.now.board.now _ c.args.principal (met_ready c.args.beside.now.board.now c.args.self _ c.requires.ready met) c.requires.who

pub returns-in-Case-clause-noted : goal.returns-in-Case-clause-noted
returns-in-Case-clause-noted g c =
    let t = c.snap-pass.ensures.snapped in
    let met = met_now_of _ _ c.args.self c.snap-pass.result.0 c.reserve.new.self t.met (c.requires.named ∙ sym c.requires.ready.board_is) c.reserve.ensures.known in
    noted_as c.args.self (record { pass = c.snap-pass.result.0; admitted = c.args.self.admitted; known = c.reserve.new.self }) met.board_is c.in-Ok.ensures.object c.judge.ensures.noted

pub find_none-requires-clause-who : goal.find_none-requires-clause-who
find_none-requires-clause-who g c =
    let t = c.snap-pass.ensures.snapped in
    let met = met_now_of _ _ c.args.self c.snap-pass.result.0 c.reserve.new.self t.met (c.requires.named ∙ sym c.requires.ready.board_is) c.reserve.ensures.known in
    (_, admitted_here c.args.beside.now.board.now _ c.args.principal (met_ready c.args.beside.now.board.now c.args.self _ c.requires.ready met) c.requires.who)

pub returns-in-NoObject-clause-ready : goal.returns-in-NoObject-clause-ready
returns-in-NoObject-clause-ready g c =
    let met = met_now_of _ _ c.args.self c.snap-pass.result.0 c.reserve.new.self c.snap-pass.ensures.snapped.met (c.requires.named ∙ sym c.requires.ready.board_is) c.reserve.ensures.known in
    rw c.find_none.ensures.same (met_ready c.args.beside.now.board.now c.args.self _ c.requires.ready met)

pub returns-in-NoObject-clause-turn : goal.returns-in-NoObject-clause-turn
returns-in-NoObject-clause-turn g c = λ s who missed.
    let t = c.snap-pass.ensures.snapped in
    let met = met_now_of _ _ c.args.self c.snap-pass.result.0 c.reserve.new.self t.met (c.requires.named ∙ sym c.requires.ready.board_is) c.reserve.ensures.known in
    let none = none_here _ _ _ _ t.met c.args.object.now c.in-NoObject.at (rw c.in-NoObject.is at t.snap) in
    rw c.find_none.ensures.same (none_turn c.args.principal c.args.op.now c.args.object.now c.args.arg s c.args.self who missed _ met c.in-NoObject.at _ (since_nothing (g.P.Panel.history c.args.panel.now)) none.0 none.1 c.find_none.result.1 c.find_none.ensures.reply)

pub returns-in-NoObject-clause-noted : goal.returns-in-NoObject-clause-noted
returns-in-NoObject-clause-noted g c =
    let t = c.snap-pass.ensures.snapped in
    let met = met_now_of _ _ c.args.self c.snap-pass.result.0 c.reserve.new.self t.met (c.requires.named ∙ sym c.requires.ready.board_is) c.reserve.ensures.known in
    rw since_nothing (noted_as c.args.self (record { pass = c.snap-pass.result.0; admitted = c.args.self.admitted; known = c.reserve.new.self }) met.board_is refl (c.find_none.ensures.noted c.args.principal c.args.arg
    (admitted_here c.args.beside.now.board.now _ c.args.principal (met_ready c.args.beside.now.board.now c.args.self _ c.requires.ready met) c.requires.who)))

pub returns-in-NoMemory-clause-ready : goal.returns-in-NoMemory-clause-ready
returns-in-NoMemory-clause-ready g c =
    met_ready c.args.beside.now.board.now c.args.self _ c.requires.ready
    (met_now_of _ _ c.args.self c.snap-pass.result.0 c.reserve.new.self c.snap-pass.ensures.snapped.met (c.requires.named ∙ sym c.requires.ready.board_is) c.reserve.ensures.known)

pub returns-in-NoMemory-clause-turn : goal.returns-in-NoMemory-clause-turn
returns-in-NoMemory-clause-turn g c = λ s who missed.
    let met = met_now_of _ _ c.args.self c.snap-pass.result.0 c.reserve.new.self c.snap-pass.ensures.snapped.met (c.requires.named ∙ sym c.requires.ready.board_is) c.reserve.ensures.known in
    unasked_turn c.args.principal c.args.op.now c.args.object.now c.args.arg s c.args.self who missed _ met _ (since_nothing (g.P.Panel.history c.args.panel.now))
