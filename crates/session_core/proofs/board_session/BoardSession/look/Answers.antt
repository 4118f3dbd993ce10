use Rattle.std.proofs.Common.{sym, refl, ◌∙◌}
use Rattle.verdict_words.proofs.ForCallers.{look_grows}
use Rattle.session_core.proofs.BoardCalls.{cut_turn, few_there, hit_ready, hit_turn, home_there, looked_missed, looked_ready, place_there, unknown_missed}
use Rattle.session_core.proofs.Noting.{admitted_here, due_verdict}
use Rattle.session_core.proofs.board_session.BoardSession.look.Goals as goal

pub returns-in_default-clause-looked : goal.returns-in_default-clause-looked
returns-in_default-clause-looked g c = unknown_missed _ _ _ c.args.self (sym c.find.ensures ∙ c.in_default.is)

pub look-requires-clause-place : goal.look-requires-clause-place
look-requires-clause-place g c = place_there c.args.beside.now.board.now c.args.self c.args.principal c.args.op.now c.args.object.now c.in-Some.place c.requires.ready c.requires.who (sym c.find.ensures ∙ c.in-Some.is)

pub look-requires-clause-home : goal.look-requires-clause-home
look-requires-clause-home g c = home_there c.args.beside.now.board.now c.args.self c.args.principal c.args.op.now c.args.object.now c.in-Some.place c.requires.ready c.requires.who (sym c.find.ensures ∙ c.in-Some.is)

pub hit-reply-requires-clause-object : goal.hit-reply-requires-clause-object
hit-reply-requires-clause-object g c = few_there c.args.beside.now.board.now c.args.self c.args.principal c.args.op.now c.args.object.now c.in-Some.place c.requires.ready c.requires.who (sym c.find.ensures ∙ c.in-Some.is)

pub returns-else-not-note-clause-ready : goal.returns-else-not-note-clause-ready
returns-else-not-note-clause-ready g c =
    let l = c.look.ensures.loaded in
    let right = rw c.in-Hit.is at c.look.ensures.right in
    hit_ready c.args.beside.now.board.now c.args.self c.args.principal c.args.op.now c.args.object.now c.in-Some.place c.requires.ready c.requires.who (sym c.find.ensures ∙ c.in-Some.is)
    c.look.new.pass c.look.ensures.seen l.0 l.1 l.2 l.3 (look_grows _ _ _ _ _ _ l.5) c.args.arg c.in-Hit.at c.hit-reply.new.pass c.in-Hit.held c.hit-reply.result right.0 (c.hit-reply.ensures right.0 right.1)

pub returns-else-not-note-clause-looked : goal.returns-else-not-note-clause-looked
returns-else-not-note-clause-looked g c =
    let l = c.look.ensures.loaded in
    let right = rw c.in-Hit.is at c.look.ensures.right in
    let answer = (l.4 c.in-Hit.at c.in-Hit.held).0 c.in-Hit.is in
    hit_turn c.args.beside.now.board.now c.args.self c.args.principal c.args.op.now c.args.object.now c.in-Some.place c.requires.ready c.requires.who (sym c.find.ensures ∙ c.in-Some.is)
    c.look.new.pass c.look.ensures.seen l.0 l.1 l.2 l.3 (look_grows _ _ _ _ _ _ l.5) c.args.arg c.in-Hit.at c.hit-reply.new.pass c.in-Hit.held c.hit-reply.result right.0 (c.hit-reply.ensures right.0 right.1)
    answer.0 answer.1 right.1 right.2

pub returns-in-Miss-clause-ready : goal.returns-in-Miss-clause-ready
returns-in-Miss-clause-ready g c =
    let l = c.look.ensures.loaded in
    looked_ready c.args.beside.now.board.now c.args.self c.args.principal c.args.op.now c.args.object.now c.in-Some.place c.requires.ready c.requires.who (sym c.find.ensures ∙ c.in-Some.is)
    c.look.new.pass c.look.ensures.seen l.0 l.1 l.2 l.3 (look_grows _ _ _ _ _ _ l.5)

pub returns-in-Miss-clause-looked : goal.returns-in-Miss-clause-looked
returns-in-Miss-clause-looked g c =
    let l = c.look.ensures.loaded in
    looked_missed c.args.beside.now.board.now c.args.self c.args.principal c.args.op.now c.args.object.now c.in-Some.place c.requires.ready c.requires.who (sym c.find.ensures ∙ c.in-Some.is)
    c.look.new.pass c.look.ensures.seen l.0 l.1 l.2 l.3 (look_grows _ _ _ _ _ _ l.5) c.look.result l.4 c.in-Miss.is

pub note-requires-clause-who : goal.note-requires-clause-who
note-requires-clause-who g c = (_, _, admitted_here c.args.beside.now.board.now c.args.self c.args.principal c.requires.ready c.requires.who)

pub note-requires-clause-due : goal.note-requires-clause-due
note-requires-clause-due g c =
    let right = rw c.in-Hit.is at c.look.ensures.right in
    (_, _, due_verdict _ 1 0 right.0 c.kept_reply-told.result (c.kept_reply-told.ensures right.0 right.1))

pub returns-then-not-note-clause-ready : goal.returns-then-not-note-clause-ready
returns-then-not-note-clause-ready g c =
    let l = c.look.ensures.loaded in
    looked_ready c.args.beside.now.board.now c.args.self c.args.principal c.args.op.now c.args.object.now c.in-Some.place c.requires.ready c.requires.who (sym c.find.ensures ∙ c.in-Some.is)
    c.look.new.pass c.look.ensures.seen l.0 l.1 l.2 l.3 (look_grows _ _ _ _ _ _ l.5)

pub returns-then-not-note-clause-looked : goal.returns-then-not-note-clause-looked
returns-then-not-note-clause-looked g c =
    let l = c.look.ensures.loaded in
    let answer = (l.4 c.in-Hit.at c.in-Hit.held).0 c.in-Hit.is in
    cut_turn c.args.beside.now.board.now c.args.self c.args.principal c.args.op.now c.args.object.now c.in-Some.place c.requires.ready c.requires.who (sym c.find.ensures ∙ c.in-Some.is)
    c.look.new.pass c.look.ensures.seen l.0 l.1 l.2 l.3 (look_grows _ _ _ _ _ _ l.5) c.args.arg c.in-Hit.at c.in-Hit.held answer.0 answer.1

pub returns-then-not-note-clause-noted : goal.returns-then-not-note-clause-noted
returns-then-not-note-clause-noted g c =
    let right = rw c.in-Hit.is at c.look.ensures.right in
    c.note.ensures.cut c.if-not-note.true _ _ _ _ _ _ (admitted_here c.args.beside.now.board.now c.args.self c.args.principal c.requires.ready c.requires.who) refl (due_verdict _ 1 0 right.0 c.kept_reply-told.result (c.kept_reply-told.ensures right.0 right.1))

pub returns-else-not-note-clause-noted : goal.returns-else-not-note-clause-noted
returns-else-not-note-clause-noted g c =
    let right = rw c.in-Hit.is at c.look.ensures.right in
    let run = c.hit-reply.ensures right.0 right.1 in
    c.note.ensures.sent c.if-not-note.false _ _ _ _ _ _ _ (admitted_here c.args.beside.now.board.now c.args.self c.args.principal c.requires.ready c.requires.who) refl
    (due_verdict _ 1 0 right.0 c.kept_reply-told.result (c.kept_reply-told.ensures right.0 right.1)) (due_verdict _ 1 run.value right.0 c.hit-reply.result run.reply_is)
