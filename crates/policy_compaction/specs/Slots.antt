-- What an entry leaves, and which later entries undo it.
use Rattle.std.specs.Prelude.{ℕ, List, Bool, false, Option, Some, None, nat_eq}
use Rattle.nal_term.specs.Trees.{TermTree}
use Rattle.nal_term.specs.TreeKeys.{same_terms}
use Rattle.policy_history.specs.Events.{EntryTree, EventTree, say, transfer, delete, new_object, set_goal, set_proof, bind, unbind}
use Rattle.case_reasons.specs.Origins.{changes_goal, changes_proof}

-- where an entry leaves something: it makes the object with this name, sets the goal of an operation on an object, registers the proof of a
-- principal for an operation on an object, binds a principal, or says or transfers the label with this number
pub data SlotTree : Type 0 where
  object_slot : List ℕ → SlotTree
  goal_slot : List ℕ → List ℕ → SlotTree
  proof_slot : ℕ → List ℕ → List ℕ → SlotTree
  port_slot : TermTree → SlotTree
  label_slot : ℕ → SlotTree

-- where entry k leaves something; an entry that clears, deletes or unbinds leaves nothing
abbrev pub left_by : ℕ → EntryTree → Option SlotTree
left_by k e = of e.event
  where
    of : EventTree → Option SlotTree
    of (new_object x) = Some (object_slot x)
    of (set_goal op x g) = Some (goal_slot op x)
    of (set_proof op x ls) = Some (proof_slot e.principal op x)
    of (bind (Some t) port) = Some (port_slot t)
    of (say t f) = Some (label_slot k)
    of (transfer n to) = Some (label_slot n)
    of _ = None

-- the entry binds this principal, or takes its binding away
abbrev pub changes_port : TermTree → EntryTree → Bool
changes_port t e = of e.event
  where
    of : EventTree → Bool
    of (bind (Some u) port) = same_terms t u
    of (unbind (Some u)) = same_terms t u
    of _ = false

-- the entry deletes label k
abbrev pub deletes : ℕ → EntryTree → Bool
deletes k e = of e.event
  where
    of : EventTree → Bool
    of (delete n) = nat_eq k n
    of _ = false

-- the entry undoes what earlier ones left there: objects stay
abbrev pub undoes : SlotTree → EntryTree → Bool
undoes (object_slot x) e = false
undoes (goal_slot op x) e = changes_goal op x e
undoes (proof_slot p op x) e = changes_proof p op x e
undoes (port_slot t) e = changes_port t e
undoes (label_slot k) e = deletes k e
