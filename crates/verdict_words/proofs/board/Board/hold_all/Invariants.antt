use Rattle.std.proofs.Common.{◌≡◌, [], map, take}
use Rattle.verdict_words.specs.Inner.Settling.{away, receiving_all}
use Rattle.verdict_words.proofs.Settled.{progress}
use Rattle.verdict_words.proofs.board.Board.hold_all.Given as goal

-- the first i passes were taken in
abbrev pub invariant-loop-i : goal.invariant-loop-i
invariant-loop-i g l =
    (l.place.table_id ≡ l.self.table) × (l.place.me ≡ (receiving_all l.fn.place.me.0 (take l.i l.fn.passes.items), [])) × (l.passes.items ≡ progress (map away l.fn.passes.items) l.fn.passes.items l.i)
