use Rattle.std.proofs.Common.{◌≡◌, ◌<◌, ◌∷◌, [], ◌+◌, ◌*◌, length, sym, ◌∙◌, ap, subst, arith, length-append}
use Rattle.nexus_serve.specs.Inner.Desks.{IsLaid}
use Rattle.nexus_serve.proofs.Numbering.{laid_last, next_of, one_more_before, room_for_one, with_next}
use Rattle.nexus_serve.proofs.hiring.lay_desks.Goals as goal

pub lay_desk-requires-clause-room : goal.lay_desk-requires-clause-room
lay_desk-requires-clause-room g c =
    let i = c.loop.invariant in
    let fewer : c.loop.counter < c.args.workers = omega arith in
    let next = next_of c.args.book.now c.loop.book c.loop.first i.book in
    let one = room_for_one c.args.first c.loop.counter c.args.workers c.args.sessions 18446744073709551615 (rw (c.requires.first) at c.requires.room) fewer in
    rw (next, i.first) one

pub overflow_add-first : goal.overflow_add-first
overflow_add-first g c =
    let i = c.loop.invariant in
    let fewer : c.loop.counter < c.args.workers = omega arith in
    let one = room_for_one c.args.first c.loop.counter c.args.workers c.args.sessions 18446744073709551615 (rw (c.requires.first) at c.requires.room) fewer in
    rw (i.first) (omega (arith, one))

pub loop-preserved : goal.loop-preserved
loop-preserved g c =
    let i = c.loop.invariant in
    let e = c.in_ok-lay_desk.ensures in
    let own = c.split_off-own.ensures in
    let items = c.in_ok-push.ensures.items in
    let long = length-append c.loop.desks.items (c.in_ok-lay_desk.field-0 ∷ []) in
    let count = i.count in
    let place : c.args.first + length c.loop.desks.items * c.args.sessions ≡ c.loop.first = ap (λ n. c.args.first + n * c.args.sessions) i.count ∙ sym i.first in
    record {
      book = e.book ∙ with_next c.args.book.now c.loop.book c.loop.first c.args.sessions i.book;
      first = ap (λ n. n + c.args.sessions) i.first ∙ one_more_before c.args.first c.loop.counter (c.loop.counter + 1) c.args.sessions (omega arith);
      laid = rw (items) (laid_last c.args.board.now c.args.first c.args.sessions c.loop.desks.items c.in_ok-lay_desk.field-0 i.laid (subst (λ n. IsLaid c.args.board.now n c.args.sessions c.in_ok-lay_desk.field-0) (sym place) e.laid));
      count = rw (items) (omega (arith, long, count));
      parts = omega (arith, i.parts, own.parts_left);
      amount = omega (arith, i.amount, own.amount_left);
    }
