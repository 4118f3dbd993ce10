use Rattle.std.proofs.Common.{◌≡◌, length}
use Rattle.std.specs.Prelude.{All}
use Rattle.verdict_words.specs.Inner.Seats.{IsBooks}
use Rattle.verdict_words.specs.Inner.Settling.{receiving_all}
use Rattle.verdict_words.proofs.board.Board.receive_roll.Given as goal

-- what is left to be taken in
abbrev pub invariant-loop-pass : goal.invariant-loop-pass
invariant-loop-pass g l = record {
  table : l.place.table_id ≡ l.self.table;
  books : IsBooks l.place.me;
  boards : All (λ pass. pass.board ≡ l.self) l.roll;
  left : receiving_all l.place.me.0 l.roll ≡ receiving_all l.fn.place.me.0 l.fn.roll;
}

abbrev pub decreases-loop-pass : goal.decreases-loop-pass
decreases-loop-pass g l = length l.roll
