-- Which entry of a history did something that lasts.
use Rattle.std.specs.Prelude.{◌≡◌, ◌<◌, ℕ, zero, suc, List, Bool, true, false, Option, Some, None, slice_get}
use Rattle.policy_history.specs.Events.{EntryTree}

-- the entry with this number, counted from 1
abbrev pub entry_at : List EntryTree → ℕ → Option EntryTree
entry_at es zero = None
entry_at es (suc k) = slice_get es k

-- entry n, which is `e`, passes the test, and no later one does
pub record IsLast (passes : EntryTree → Bool) (es : List EntryTree) (n : ℕ) (e : EntryTree) : Type 0 where
  pub stands : entry_at es n ≡ Some e
  pub passing : passes e ≡ true
  pub later : (m : ℕ) (other : EntryTree) → n < m → entry_at es m ≡ Some other → passes other ≡ false
