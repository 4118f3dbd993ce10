-- Which entries of a history still matter at its end, and the history of these alone.
use Rattle.std.specs.Prelude.{ℕ, List, [], ◌∷◌, ◌+◌, Bool, false, not, Option, Some, None, filter, if◌then◌else◌, length, map, nat_le}
use Rattle.std.specs.Fmt.{decimal}
use Rattle.std.specs.List.{flat_map, list_any}
use Rattle.policy_history.specs.Events.{EntryTree, EventTree, say, transfer}
use Rattle.policy_history.specs.PolicyLines.{spaced}
use Rattle.policy_history.specs.PolicyTexts.{ended}
use Rattle.policy_compaction.specs.Slots.{SlotTree, left_by, undoes}

-- entry k still matters, where these are the later ones: it leaves something that none of them undoes
abbrev pub matters : ℕ → EntryTree → List EntryTree → Bool
matters k e later = of (left_by k e)
  where
    of : Option SlotTree → Bool
    of None = false
    of (Some slot) = not (list_any (undoes slot) later)

-- an entry with its number
abbrev pub Numbered : Type 0
Numbered = ℕ × EntryTree

-- the entries that still matter, in their order, each with its number; the first of all has the number n + 1
abbrev pub kept_from : ℕ → List EntryTree → List Numbered
kept_from n [] = []
kept_from n (e ∷ es) = if matters (n + 1) e es then (n + 1, e) ∷ kept_from (n + 1) es else kept_from (n + 1) es

abbrev pub kept : List EntryTree → List Numbered
kept es = kept_from 0 es

-- the new number of label k: how many of the first k entries are among those that are kept
abbrev pub new_number : List Numbered → ℕ → ℕ
new_number ks k = length (filter (λ (x : Numbered). nat_le x.0 k) ks)

-- a kept event: one that transfers a label has its new number, and every other is as it was
abbrev pub renumbered : List Numbered → EventTree → EventTree
renumbered ks (transfer k to) = transfer (new_number ks k) to
renumbered ks e = e

abbrev pub moved : List Numbered → Numbered → EntryTree
moved ks x = record { session = x.1.session; principal = x.1.principal; event = renumbered ks x.1.event }

-- the history of the entries that still matter
abbrev pub compacted : List EntryTree → List EntryTree
compacted es = map (moved (kept es)) (kept es)

-- ---- The numbers of labels

-- the old number of a label that is said there, and its new one
abbrev pub numbers_of : List Numbered → Numbered → List (ℕ × ℕ)
numbers_of ks x = of x.1.event
  where
    of : EventTree → List (ℕ × ℕ)
    of (say t f) = (x.0, new_number ks x.0) ∷ []
    of _ = []

abbrev pub label_numbers : List EntryTree → List (ℕ × ℕ)
label_numbers es = flat_map (numbers_of (kept es)) (kept es)

-- a line `OLD NEW` for each label that is kept
abbrev pub number_line : ℕ × ℕ → List ℕ
number_line x = ended (spaced (decimal x.0) (decimal x.1))

abbrev pub numbers_text : List EntryTree → List ℕ
numbers_text es = flat_map number_line (label_numbers es)
