-- Who holds a label, and by which entry it came to its holder.
use Rattle.std.specs.Prelude.{◌≡◌, ◌+◌, ◌⊎◌, ℕ, List, Bool, false, not, ◌&&◌, Option, Some, None, length, nat_eq, slice_get}
use Rattle.label_store.specs.LabelRows.{holder_of}
use Rattle.policy_history.specs.declared.heads.Head.{Head}
use Rattle.policy_history.specs.Events.{EntryTree, EventTree, transfer, numbered}
use Rattle.policy_history.specs.Machine.{replay}
use Rattle.label_holdings.specs.Entries.{IsLast, entry_at}
use Rattle.label_holdings.specs.declared.label_tenures.Tenure.{Tenure}

-- by this entry, another principal transfers label k to principal p
abbrev pub hands_over : Head → ℕ → ℕ → EntryTree → Bool
hands_over h k p e = not (nat_eq p e.principal) && of e.event
  where
    is_number : Option ℕ → Bool
    is_number None = false
    is_number (Some q) = nat_eq p q

    of : EventTree → Bool
    of (transfer n to) = nat_eq k n && is_number (numbered h.principals to)
    of _ = false

-- Entry m is the last by which another principal transferred label k to principal p; where there is none, m is k, by which it was said.
abbrev pub IsReceivedBy : Head → List EntryTree → ℕ → ℕ → ℕ → Type 0
IsReceivedBy h es k p m =
    ((e : EntryTree) × IsLast (hands_over h k p) es m e)
    ⊎ ((m ≡ k) × ((j : ℕ) (e : EntryTree) → entry_at es j ≡ Some e → hands_over h k p e ≡ false))

-- at the end of the history, this is who holds label k, and since when
pub record IsTenure (h : Head) (es : List EntryTree) (k : ℕ) (t : Tenure) : Type 0 where
  pub holder : t.holder ≡ holder_of (replay h es).labels k
  pub received : (p : ℕ) → t.holder ≡ Some p → IsReceivedBy h es k p t.received

-- one for each entry, whose number that of its label is
pub record AreTenures (h : Head) (es : List EntryTree) (tenures : List Tenure) : Type 0 where
  pub count : length tenures ≡ length es
  pub each : (i : ℕ) (t : Tenure) → slice_get tenures i ≡ Some t → IsTenure h es (i + 1) t
