use Rattle.std.proofs.Common.{◌≡◌, ◌+◌, ◌≤◌, length, take}
use Rattle.indexmap.specs.IndexMap.{index_map_len, spare}
use Rattle.label_store.specs.Inner.Kept.{Key, count_of, counted}
use Rattle.label_store.proofs.counts.recount.Given as goal

abbrev pub invariant-loop-place : goal.invariant-loop-place
invariant-loop-place l =
    ((k : Key) → count_of l.counts k ≡ counted (take l.place l.rows.entries) k)
    × (index_map_len l.counts ≤ l.place)
    × (index_map_len l.fn.counts + spare l.fn.counts ≤ index_map_len l.counts + spare l.counts)
    × (length l.rows.entries ≤ index_map_len l.fn.counts + spare l.fn.counts)
