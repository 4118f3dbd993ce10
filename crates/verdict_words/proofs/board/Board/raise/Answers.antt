use Rattle.std.proofs.Common.{rules, ◌≡◌, ◌+◌, ◌<◌, sym, ap, ◌∙◌, subst, length, None, [], ◌∷◌}
use Rattle.verdict_words.specs.Words.{most_entries, region_word}
use Rattle.verdict_words.specs.Orders.{stores}
use Rattle.verdict_words.specs.Values.{seen_of, raised_of, known_of}
use Rattle.verdict_words.proofs.Seated.{rests, rests_seated, after_raise, book_steps_shown}
use Rattle.verdict_words.proofs.board.Board.raise.Goals as goal

pub store_region-requires-clause-book : goal.store_region-requires-clause-book
store_region-requires-clause-book g c =
    let free : raised_of c.seat.inside.place.me.0 ≡ None = ap (λ v. v.raised) c.seat.view_is ∙ c.requires.free in
    let room : length (seen_of c.seat.inside.place.me.0) < most_entries = subst (λ l. length l < most_entries) (sym (ap (λ v. v.entries) c.seat.view_is)) c.requires.room in
    (_, c.seat.invariant.view, free, room, ap (λ n. n + 1) c.seat.invariant.long)

pub invariant_of-seat : goal.invariant_of-seat
invariant_of-seat g c =
    let now = after_raise _ _ _ _ _ c.seat.invariant.view c.store_region.ensures.told in record {
      table = search rules;
      view = rests c.seat.inside.board.value.origin _ _ _ _ _ _ _ now.2;
      long = c.seat.invariant.long ∙ sym (ap (λ m. length (seen_of m.0)) now.2);
      short = c.seat.invariant.short;
      seated = rests_seated g.M.Matter.session c.seat.inside.board.value.origin _ _ _ _ _ _ _ now.2 c.seat.invariant.seated;
    }

pub returns-clause-step : goal.returns-clause-step
returns-clause-step g c =
    let now = after_raise _ _ _ _ _ c.seat.invariant.view c.store_region.ensures.told in
    (now.1, book_steps_shown _ c.seat.inside.board.value c.seat.inside.next c.seat.inside.place.me c.store_region.new.seat.me now.0 (λ l. stores 0 (region_word c.args.region) (length l + 1) now.1 ∷ []) c.seat.view_is (ap (λ m. known_of m.0) now.2) now.3)
