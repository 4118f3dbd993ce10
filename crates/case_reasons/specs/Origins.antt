-- Which entries an object, a goal and a proof come from.
use Rattle.std.specs.Prelude.{◌≡◌, ℕ, List, Bool, true, false, ◌&&◌, Option, Some, None, nat_eq}
use Rattle.nal_term.specs.TreeKeys.{same_bytes}
use Rattle.nal_term.specs.Trees.{FormulaTree, formula_tree}
use Rattle.proof_lines.specs.Lines.{line_trees}
use Rattle.object_table.specs.Objects.{owner_of}
use Rattle.goal_store.specs.GoalRows.{goal_of}
use Rattle.policy_history.specs.declared.heads.Head.{Head}
use Rattle.policy_history.specs.Events.{EntryTree, EventTree, new_object, set_goal, clear_goal, set_proof, clear_proof}
use Rattle.policy_history.specs.Judged.{goal_for, proof_for}
use Rattle.policy_history.specs.Machine.{replay}
use Rattle.label_holdings.specs.Entries.{IsLast, entry_at}
use Rattle.case_reasons.specs.declared.explanations.ObjectReason.{ObjectReason}
use Rattle.case_reasons.specs.declared.explanations.GoalReason.{GoalReason}
use Rattle.case_reasons.specs.declared.explanations.ProofReason.{ProofReason}

-- the entry makes the object with this name
abbrev pub makes : List ℕ → EntryTree → Bool
makes object e = of e.event
  where
    of : EventTree → Bool
    of (new_object x) = same_bytes object x
    of _ = false

-- the entry sets or clears the goal of this operation on the object with this name
abbrev pub changes_goal : List ℕ → List ℕ → EntryTree → Bool
changes_goal op object e = of e.event
  where
    of : EventTree → Bool
    of (set_goal o x g) = same_bytes op o && same_bytes object x
    of (clear_goal o x) = same_bytes op o && same_bytes object x
    of _ = false

-- the entry registers or removes the proof of this principal for this operation on the object with this name
abbrev pub changes_proof : ℕ → List ℕ → List ℕ → EntryTree → Bool
changes_proof p op object e = nat_eq p e.principal && of e.event
  where
    of : EventTree → Bool
    of (set_proof o x ls) = same_bytes op o && same_bytes object x
    of (clear_proof o x) = same_bytes op o && same_bytes object x
    of _ = false

-- this entry, and no other, made the object, which has this number; and this principal owns it
pub record IsObjectReason (h : Head) (es : List EntryTree) (object : List ℕ) (number : ℕ) (r : ObjectReason) : Type 0 where
  pub entry : EntryTree
  pub stands : entry_at es r.entry ≡ Some entry
  pub made : makes object entry ≡ true
  pub only : (m : ℕ) (other : EntryTree) → entry_at es m ≡ Some other → makes object other ≡ true → m ≡ r.entry
  pub owner : owner_of (replay h es).objects number ≡ Some r.owner

-- this entry, the last that sets or clears the goal, set the one in force; for the caller it is this formula
pub record IsSetBy (h : Head) (es : List EntryTree) (p : ℕ) (op object : List ℕ) (number : ℕ) (r : GoalReason) : Type 0 where
  pub entry : EntryTree
  pub last : IsLast (changes_goal op object) es r.entry entry
  pub goal : FormulaTree
  pub set : entry.event ≡ set_goal op object (Some goal)
  pub in_force : goal_of (replay h es).goals op number ≡ Some goal
  pub told : goal_for h (replay h es) p op number ≡ Some (formula_tree r.goal)

-- so it is told of the goal; or there is none
abbrev pub IsGoalReason : Head → List EntryTree → ℕ → List ℕ → List ℕ → ℕ → Option GoalReason → Type 0
IsGoalReason h es p op object number None = goal_for h (replay h es) p op number ≡ None
IsGoalReason h es p op object number (Some r) = IsSetBy h es p op object number r

-- this entry, the last that registers or removes the caller's proof, registered this one, which it has
pub record IsRegisteredBy (h : Head) (es : List EntryTree) (p : ℕ) (op object : List ℕ) (number : ℕ) (r : ProofReason) : Type 0 where
  pub entry : EntryTree
  pub last : IsLast (changes_proof p op object) es r.entry entry
  pub registered : entry.event ≡ set_proof op object (Some (line_trees r.proof))
  pub told : proof_for (replay h es) p op number ≡ Some (line_trees r.proof)
