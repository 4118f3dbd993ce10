use Rattle.std.proofs.Common.{sym, ap, ◌∙◌, refl, [], length, arith}
use Rattle.verdict_words.specs.Inner.Settling.{held_of, releasing_all}
use Rattle.verdict_words.specs.declared.views.View.TheVariants.{Book}
use Rattle.verdict_words.proofs.Seated.{after_release}
use Rattle.verdict_words.proofs.Listed.{none_left, releasing_left, some_first}
use Rattle.verdict_words.proofs.board.Board.let_go.Goals as goal

pub loop-init : goal.loop-init
loop-init g c = (c.requires.place, (c.requires.held.book, c.requires.held.is, omega (arith, c.requires.held.many)), refl)

pub give_back-requires-clause-book : goal.give_back-requires-clause-book
give_back-requires-clause-book g c =
    let inv = c.loop.invariant in
    let left = inv.1.2 in
    let lt = c.loop-test.true in
    let f = some_first inv.1.0.held (omega (arith, left, lt)) in
    (inv.1.0, f.0, f.1, inv.1.1, f.2)

pub loop-preserved : goal.loop-preserved
loop-preserved g c =
    let inv = c.loop.invariant in
    let left = inv.1.2 in
    let lt = c.loop-test.true in
    let f = some_first inv.1.0.held (omega (arith, left, lt)) in
    let then = after_release _ _ inv.1.0 f.0 f.1 inv.1.1 f.2 c.give_back.ensures.seat in
    let one = ap length f.2 in
    (c.give_back.ensures.table.0, (_, then, omega (arith, left, one)), releasing_left _ _ inv.1.0 f.0 f.1 inv.1.1 f.2 then ∙ inv.2)

pub returns : goal.returns
returns g c =
    let inv = c.loop.invariant in
    let left = inv.1.2 in
    let end = c.loop-test.false in
    let none = none_left inv.1.0.held (omega (arith, left, end)) in
    record {
      place = (inv.0, inv.1.1 ∙ ((λ k. (releasing_all (sym none k) (Book inv.1.0), [])) ∙ ((λ k. (releasing_all (held_of (sym inv.1.1 k).0) (sym inv.1.1 k).0, [])) ∙ ap (λ v. (v, [])) inv.2)));
    }
