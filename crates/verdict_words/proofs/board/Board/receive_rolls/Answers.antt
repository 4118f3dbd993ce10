use Rattle.std.proofs.Common.{◌≡◌, ◌+◌, ◌∷◌, sym, ap, ◌∙◌, subst, [], length, length-append, arith}
use Rattle.std.specs.Prelude.{All}
use Rattle.verdict_words.specs.Settling.{flat}
use Rattle.verdict_words.specs.Inner.Settling.{receiving_all}
use Rattle.verdict_words.proofs.Settled.{holding, received}
use Rattle.verdict_words.proofs.Listed.{all_right, receiving_append}
use Rattle.verdict_words.proofs.board.Board.receive_rolls.Goals as goal

pub loop-roll-preserved : goal.loop-roll-preserved
loop-roll-preserved g c =
    let inv = c.loop-roll.invariant in
    let roll = c.in-Some.roll in
    let rest = c.pop_front.new.self.items in
    let some : c.loop-roll.rolls.items ≡ roll ∷ rest = c.in-Some.ensures.items in
    let told = c.receive_roll.ensures.place in
    let books = inv.books in
    let all = subst (λ l. All (λ p. p.board ≡ c.args.self.now) (flat l)) some inv.boards in
    let long : length (flat c.loop-roll.rolls.items) ≡ length roll + length (flat rest) = ap (λ l. length (flat l)) some ∙ length-append roll (flat rest) in
    let before = inv.count in
    let room = inv.room in
    let one = c.receive_roll.ensures.count in
    let same = c.from-count.ensures in
    let fits = c.receive_roll.type_inv in
    let many = ap length some in
    record {
      table = told.0;
      books = (holding books.0 roll, told.1 ∙ ((λ k. (receiving_all (books.1 k).0 roll, [])) ∙ ap (λ v. (v, [])) (received books.0 roll)));
      boards = all_right (λ p. p.board ≡ c.args.self.now) roll (flat rest) all;
      left = (λ k. receiving_all (told.1 k).0 (flat rest)) ∙ (sym (receiving_append roll (flat rest) c.loop-roll.place.me.0) ∙ ((λ k. receiving_all c.loop-roll.place.me.0 (flat (sym some k))) ∙ inv.left));
      count = omega (arith, before, long, one, same);
      room = omega (arith, room, many, fits, same);
    }
