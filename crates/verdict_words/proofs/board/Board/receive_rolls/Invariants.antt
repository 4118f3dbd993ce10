use Rattle.std.proofs.Common.{◌≡◌, ◌≤◌, ◌+◌, ◌*◌, length}
use Rattle.std.specs.Prelude.{All}
use Rattle.verdict_words.specs.Settling.{flat}
use Rattle.verdict_words.specs.Inner.Seats.{IsBooks}
use Rattle.verdict_words.specs.Inner.Settling.{receiving_all}
use Rattle.verdict_words.proofs.board.Board.receive_rolls.Given as goal

-- what is left to be taken in
abbrev pub invariant-loop-roll : goal.invariant-loop-roll
invariant-loop-roll g l = record {
  table : l.place.table_id ≡ l.self.table;
  books : IsBooks l.place.me;
  boards : All (λ pass. pass.board ≡ l.self) (flat l.rolls.items);
  left : receiving_all l.place.me.0 (flat l.rolls.items) ≡ receiving_all l.fn.place.me.0 (flat l.fn.rolls.items);
  count : l.count + length (flat l.rolls.items) ≡ length (flat l.fn.rolls.items);
  room : l.count + length l.rolls.items * 18446744073709551616 ≤ length l.fn.rolls.items * 18446744073709551616;
}

abbrev pub decreases-loop-roll : goal.decreases-loop-roll
decreases-loop-roll g l = length l.rolls.items
