use Rattle.std.proofs.Common.{◌≡◌, [], length, map, take}
use Rattle.verdict_words.specs.Values.{seen_of, known_of}
use Rattle.verdict_words.specs.Inner.Settling.{met_held, releasing_all, held_of}
use Rattle.verdict_words.proofs.Settled.{progress}
use Rattle.verdict_words.proofs.board.Board.give_all.Given as goal

-- the first i passes were given back
abbrev pub invariant-loop-i : goal.invariant-loop-i
invariant-loop-i g l =
    (l.place.table_id ≡ l.self.table) × (l.place.me ≡ (releasing_all (take l.i (held_of l.fn.place.me.0)) l.fn.place.me.0, []))
    × (l.passes.items ≡ progress (take (length l.fn.passes.items) (map (met_held l.self (seen_of l.fn.place.me.0) (known_of l.fn.place.me.0)) (held_of l.fn.place.me.0))) l.fn.passes.items l.i)
