-- An entry as it is written among those that are kept.
use Rattle.std.specs.Prelude.{◌≡◌, ◌<◌, ◌≤◌, ℕ, List, length, Bool, true, false}
use Rattle.policy_history.specs.declared.heads.Head.{Head}
use Rattle.policy_history.specs.Events.{EntryTree, EventTree, say, transfer}
use Rattle.policy_compaction.specs.Kept.{kept, renumbered}

-- the event says a label
abbrev pub is_say : EventTree → Bool
is_say (say t f) = true
is_say _ = false

-- the entry is of one of the principals, and the number of a label that it transfers is that of an entry
pub record IsPrintable (h : Head) (es : List EntryTree) (e : EntryTree) : Type 0 where
  pub principal : e.principal < length h.principals
  pub number : (k : ℕ) (to : List ℕ) → e.event ≡ transfer k to → (0 < k) × (k ≤ length es)

-- the entry, if it is kept
abbrev pub kept_as : List EntryTree → EntryTree → EntryTree
kept_as es e = record { session = e.session; principal = e.principal; event = renumbered (kept es) e.event }
