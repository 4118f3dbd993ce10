use Rattle.std.proofs.Common.{◌≡◌, [], length, map, take}
use Rattle.verdict_words.specs.Settling.{flat, items_of}
use Rattle.verdict_words.specs.Values.{seen_of, known_of}
use Rattle.verdict_words.specs.Inner.Settling.{cut_as, held_of, met_held, releasing_all}
use Rattle.verdict_words.proofs.Settled.{progress}
use Rattle.verdict_words.proofs.board.Board.give_lists.Given as goal

-- the first i lists were given back
abbrev pub invariant-loop-i : goal.invariant-loop-i
invariant-loop-i g l = record {
  table : l.place.table_id ≡ l.self.table;
  me : l.place.me ≡ (releasing_all (take (length (flat (take l.i (items_of l.fn.lists.items)))) (held_of l.fn.place.me.0)) l.fn.place.me.0, []);
  lists : items_of l.lists.items ≡ progress (cut_as (items_of l.fn.lists.items) (map (met_held l.self (seen_of l.fn.place.me.0) (known_of l.fn.place.me.0)) (held_of l.fn.place.me.0))) (items_of l.fn.lists.items) l.i;
}
