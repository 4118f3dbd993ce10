use Rattle.std.proofs.Common.{◌≢◌, ap, subst, List, ℕ}
use Rattle.std.specs.Prelude.{All}
use Rattle.verdict_words.specs.Values.{seen_of}
use Rattle.verdict_words.proofs.Growing.{all_of_each}
use Rattle.verdict_words.proofs.BookKept.{next_unused}
use Rattle.verdict_words.proofs.board.Board.enter.Goals as goal

pub admit-place-requires-clause-book : goal.admit-place-requires-clause-book
admit-place-requires-clause-book g c = (_, c.seat.invariant.view)

pub returns-clause-unused : goal.returns-clause-unused
returns-clause-unused g c =
    let entries = seen_of c.seat.inside.place.me.0 in
    let unused = all_of_each (λ e. g.M.Matter.session e ≢ c.seat.inside.next) entries (next_unused g.M.Matter.session _ _ _ _ c.seat.invariant.seated) in
    subst (λ (z : List g.row.M-Entry.Denot × ℕ). All (λ e. g.M.Matter.session e ≢ z.1) z.0) (λ i. (ap (λ v. v.entries) c.seat.view_is i, ap (λ v. v.next) c.seat.view_is i)) unused
