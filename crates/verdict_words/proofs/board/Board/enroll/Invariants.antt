use Rattle.std.proofs.Common.{◌≡◌, ◌+◌, map}
use Rattle.verdict_words.proofs.Enrolled.{Enrolled}
use Rattle.verdict_words.proofs.board.Board.enroll.Given as goal

-- so many sessions have their seats
abbrev pub invariant-loop : goal.invariant-loop
invariant-loop g l = record {
  seat : l.seat ≡ record l.fn.seat { next = l.fn.seat.next + l.counter };
  some : Enrolled l.self l.fn.seat.next l.fn.seat.entries l.fn.seat.known l.counter (map (λ seed. (seed.board.value, seed.place)) l.seeds.items);
}
