use Rattle.std.proofs.Common.{rules, ◌≡◌, ◌≢◌, ℕ, ◌+◌, ◌<◌, sym, ap, ◌∙◌, subst, length, Some, Option, List, [], ◌∷◌, length-append, arith}
use Rattle.std.specs.Prelude.{◌↔◌}
use Rattle.verdict_words.specs.Words.{most_entries, region_count}
use Rattle.verdict_words.specs.Orders.{publishes}
use Rattle.verdict_words.specs.Values.{seen_of, turn_of, known_of}
use Rattle.verdict_words.proofs.BookKept.{seated_grows}
use Rattle.verdict_words.proofs.Seated.{rests, rests_seated, after_publish, book_steps_shown}
use Rattle.verdict_words.proofs.board.Board.publish.Goals as goal

pub add_to_count-requires-clause-book : goal.add_to_count-requires-clause-book
add_to_count-requires-clause-book g c =
    let v = c.seat.inside.place.me.0 in
    let entries = seen_of v in
    let room : length entries < most_entries = subst (λ l. length l < most_entries) (sym (ap (λ v. v.entries) c.seat.view_is)) c.requires.room in
    let turn : g.M.Matter.session c.args.entry.now ≡ turn_of v = c.requires.turn.1 ∙ sym (ap (λ v. v.turn) c.seat.view_is) in
    let some_turn : turn_of v ≢ 0 = λ e. c.requires.turn.0 (sym (ap (λ v. v.turn) c.seat.view_is) ∙ e) in
    let touched = subst (λ (z : List g.row.M-Entry.Denot × Option ℕ). (r : ℕ) → r < region_count → g.M.Matter.touches c.args.self.now.origin.setting z.0 c.args.entry.now r ↔ (z.1 ≡ Some r))
    (λ i. (sym (ap (λ v. v.entries) c.seat.view_is) i, sym (ap (λ v. v.raised) c.seat.view_is) i)) c.requires.region in
    (_, c.seat.invariant.view, some_turn, turn, room, touched)

pub invariant_of-seat : goal.invariant_of-seat
invariant_of-seat g c =
    let v = c.seat.inside.place.me.0 in
    let turn : g.M.Matter.session c.args.entry.now ≡ turn_of v = c.requires.turn.1 ∙ sym (ap (λ v. v.turn) c.seat.view_is) in
    let some_turn : turn_of v ≢ 0 = λ e. c.requires.turn.0 (sym (ap (λ v. v.turn) c.seat.view_is) ∙ e) in
    let room : length (seen_of v) < most_entries = subst (λ l. length l < most_entries) (sym (ap (λ v. v.entries) c.seat.view_is)) c.requires.room in
    let now = after_publish g.M.Matter.session _ _ _ _ c.seat.invariant.view c.add_to_count.ensures.told in
    let long : length (seen_of c.add_to_count.new.seat.me.0) ≡ length (seen_of v) + 1 = ap (λ m. length (seen_of m.0)) now.1 ∙ length-append (seen_of v) (c.args.entry.now ∷ []) in
    let count = c.seat.invariant.long in record {
      table = search rules;
      view = rests c.seat.inside.board.value.origin _ _ _ _ _ _ _ now.1;
      long = omega arith;
      short = omega arith;
      seated = rests_seated g.M.Matter.session c.seat.inside.board.value.origin _ _ _ _ _ _ _ now.1 (seated_grows g.M.Matter.session _ _ _ _ _ c.seat.invariant.seated some_turn turn);
    }

pub returns-clause-step : goal.returns-clause-step
returns-clause-step g c =
    let now = after_publish g.M.Matter.session _ _ _ _ c.seat.invariant.view c.add_to_count.ensures.told in
    book_steps_shown _ c.seat.inside.board.value c.seat.inside.next c.seat.inside.place.me c.add_to_count.new.seat.me now.0 (λ l. publishes (length l) ∷ []) c.seat.view_is (ap (λ m. known_of m.0) now.1) now.2
