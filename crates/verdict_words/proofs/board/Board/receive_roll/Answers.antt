use Rattle.std.proofs.Common.{◌≡◌, ◌∷◌, sym, ◌∙◌, subst, []}
use Rattle.std.specs.Prelude.{All}
use Rattle.std.proofs.lemmas.List.Elements.{All-tail}
use Rattle.verdict_words.specs.Inner.Steps.{receiving}
use Rattle.verdict_words.specs.Inner.Settling.{receiving_all, view_of}
use Rattle.verdict_words.proofs.board.Board.receive_roll.Goals as goal

pub loop-pass-preserved : goal.loop-pass-preserved
loop-pass-preserved g c =
    let pass = c.in-Some.pass in
    let rest = c.next.new.self in
    let some : c.loop-pass.roll ≡ pass ∷ rest = c.in-Some.ensures.some in
    let told = c.receive_pass.ensures.place in
    let books = c.loop-pass.invariant.books in
    record {
      table = told.0;
      books = (_, told.1 ∙ (λ k. (receiving (books.1 k).0 (view_of pass), [])));
      boards = All-tail (λ p. p.board ≡ c.args.self.now) pass rest (subst (All (λ p. p.board ≡ c.args.self.now)) some c.loop-pass.invariant.boards);
      left = (λ k. receiving_all (told.1 k).0 rest) ∙ ((λ k. receiving_all c.loop-pass.place.me.0 (sym some k)) ∙ c.loop-pass.invariant.left);
    }
