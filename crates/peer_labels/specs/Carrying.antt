-- What becomes of labels that a peer says: each one that the machine accepts is an entry.
use Rattle.std.specs.Prelude.{◌≡◌, ◌+◌, ◌⊎◌, ℕ, List, [], ◌∷◌, ◌++◌, Contains, Some, None}
use Rattle.nal_term.specs.Trees.{FormulaTree, name, says}
use Rattle.label_store.specs.LabelRows.{LabelRow}
use Rattle.policy_history.specs.declared.heads.Head.{Head}
use Rattle.policy_history.specs.declared.events.Refusal.{Refusal}
use Rattle.policy_history.specs.Events.{EntryTree, name_of, say}
use Rattle.policy_history.specs.Machine.{refusal_of, replay}

-- principal p says the formula, in its own name, in this session
abbrev pub said_by : Head → ℕ → ℕ → FormulaTree → EntryTree
said_by h session p f = record { session = session; principal = p; event = say (Some (name (name_of h.principals p))) (Some f) }

-- `Carries h session p es labels added refused`: behind these entries principal p says the labels, in order. Each one that is accepted
-- behind the entries that then stand is the next entry, and nothing else is added; so many are refused.
pub data Carries (h : Head) (session p : ℕ) : List EntryTree → List FormulaTree → List EntryTree → ℕ → Type 0 where
  done : {es : List EntryTree} → Carries h session p es [] [] 0
  accepted : {es added : List EntryTree} {labels : List FormulaTree} {refused : ℕ} (f : FormulaTree)
      → refusal_of h (replay h es) session p (said_by h session p f).event ≡ None
      → Carries h session p (es ++ said_by h session p f ∷ []) labels added refused
      → Carries h session p es (f ∷ labels) (said_by h session p f ∷ added) refused
  refused : {es added : List EntryTree} {labels : List FormulaTree} {refused : ℕ} (f : FormulaTree) (refusal : Refusal)
      → refusal_of h (replay h es) session p (said_by h session p f).event ≡ Some refusal
      → Carries h session p es labels added refused
      → Carries h session p es (f ∷ labels) added (refused + 1)

-- each row that the entries had not before is `p says F`, which p holds, for a formula F of these
abbrev pub AreSaidByPeer : Head → ℕ → List FormulaTree → List EntryTree → List EntryTree → Type 0
AreSaidByPeer h p labels before now =
    (row : LabelRow) → Contains (replay h now).labels row
    → Contains (replay h before).labels row ⊎ ((f : FormulaTree) × Contains labels f × (row.1 ≡ p) × (row.2 ≡ says (name (name_of h.principals p)) f))
