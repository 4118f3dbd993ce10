use Rattle.std.proofs.Common.{◌≡◌, [], map, take}
use Rattle.verdict_words.specs.Settling.{flat, items_of}
use Rattle.verdict_words.specs.Inner.Settling.{away, receiving_all}
use Rattle.verdict_words.proofs.Settled.{progress}
use Rattle.verdict_words.proofs.board.Board.hold_lists.Given as goal

-- the first i lists were taken in
abbrev pub invariant-loop-i : goal.invariant-loop-i
invariant-loop-i g l = record {
  table : l.place.table_id ≡ l.self.table;
  me : l.place.me ≡ (receiving_all l.fn.place.me.0 (flat (take l.i (items_of l.fn.lists.items))), []);
  lists : items_of l.lists.items ≡ progress (map (map away) (items_of l.fn.lists.items)) (items_of l.fn.lists.items) l.i;
}
