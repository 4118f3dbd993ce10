-- Which entries matter, and how many up to each, as the lists that the code makes.
use Rattle.std.specs.Prelude.{◌≡◌, ◌+◌, ℕ, List, [], ◌∷◌, Bool, true, false}
use Rattle.std.specs.List.{list_any}
use Rattle.policy_history.specs.Events.{EntryTree}
use Rattle.policy_compaction.specs.declared.slots.Slot.{Slot}
use Rattle.policy_compaction.specs.Kept.{matters}
use Rattle.policy_compaction.specs.Slots.{undoes}
use Rattle.policy_compaction.specs.Inner.SlotKeys.{same_slots, slot_tree}

-- for each entry whether it matters; the first of all has the number n + 1
abbrev pub marks_from : ℕ → List EntryTree → List Bool
marks_from n [] = []
marks_from n (e ∷ es) = matters (n + 1) e es ∷ marks_from (n + 1) es

abbrev pub marks_of : List EntryTree → List Bool
marks_of es = marks_from 0 es

-- one more where there is a mark
abbrev pub counted : ℕ → Bool → ℕ
counted n true = n + 1
counted n false = n

-- for each mark how many there are up to it, with n before all
abbrev pub counts_from : ℕ → List Bool → List ℕ
counts_from n [] = []
counts_from n (b ∷ bs) = counted n b ∷ counts_from (counted n b) bs

-- the keys are what these entries undo
abbrev pub AreUndone : List Slot → List EntryTree → Type 0
AreUndone keys es = (slot : Slot) → list_any (λ k. same_slots (slot_tree slot) (slot_tree k)) keys ≡ list_any (undoes (slot_tree slot)) es
