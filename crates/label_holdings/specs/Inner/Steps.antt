-- What one entry does to the labels that were said before it.
use Rattle.std.specs.Prelude.{◌≡◌, ◌+◌, ℕ, List, Some, length, slice_get}
use Rattle.policy_history.specs.declared.heads.Head.{Head}
use Rattle.policy_history.specs.Events.{EntryTree}
use Rattle.label_holdings.specs.declared.label_tenures.Tenure.{Tenure}
use Rattle.label_holdings.specs.Tenures.{IsTenure}

-- at the end of the history, these are the tenures of its first `count` labels
pub record AreHandedOver (h : Head) (es : List EntryTree) (count : ℕ) (tenures : List Tenure) : Type 0 where
  pub length_is : length tenures ≡ count
  pub each : (i : ℕ) (t : Tenure) → slice_get tenures i ≡ Some t → IsTenure h es (i + 1) t
