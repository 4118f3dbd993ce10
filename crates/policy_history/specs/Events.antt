-- The head of a policy, what may change the policy, and what a journal keeps of a change, as plain values.
use Rattle.std.specs.Prelude.{ℕ, List, [], ◌&&◌, Option, option_map, unwrap_or, slice_get}
use Rattle.std.specs.List.{position}
use Rattle.nal_term.specs.Trees.{TermTree, FormulaTree, term_tree, formula_tree}
use Rattle.nal_term.specs.TreeKeys.{same_bytes}
use Rattle.proof_lines.specs.Lines.{LineTree, line_trees}
use Rattle.policy_history.specs.declared.heads.Principal.{Principal}
use Rattle.policy_history.specs.declared.events.Event.{Event}
use Rattle.policy_history.specs.declared.events.Event.TheVariants.{Say, Transfer, Delete, NewObject, SetGoal, ClearGoal, SetProof, ClearProof, Bind, Unbind}
use Rattle.policy_history.specs.declared.events.Entry.{Entry}

-- the name of the principal with this number
abbrev pub name_of : List Principal → ℕ → List ℕ
name_of principals p = unwrap_or (option_map (λ (x : Principal). x.name) (slice_get principals p)) []

-- the number of the principal with this name
abbrev pub numbered : List Principal → List ℕ → Option ℕ
numbered principals name = position (λ (x : Principal). same_bytes name x.name) principals

-- the number of the principal with this name and this secret
abbrev pub admitted : List Principal → List ℕ → List ℕ → Option ℕ
admitted principals name secret = position (λ (x : Principal). same_bytes name x.name && same_bytes secret x.secret) principals

-- an event; a part that may be missing is missing where its text spells nothing
pub data EventTree : Type 0 where
  say : Option TermTree → Option FormulaTree → EventTree
  transfer : ℕ → List ℕ → EventTree
  delete : ℕ → EventTree
  new_object : List ℕ → EventTree
  set_goal : List ℕ → List ℕ → Option FormulaTree → EventTree
  clear_goal : List ℕ → List ℕ → EventTree
  set_proof : List ℕ → List ℕ → Option (List LineTree) → EventTree
  clear_proof : List ℕ → List ℕ → EventTree
  bind : Option TermTree → ℕ → EventTree
  unbind : Option TermTree → EventTree

-- an event, with the session and the number of the principal that made it
pub record EntryTree : Type 0 where
  pub session : ℕ
  pub principal : ℕ
  pub event : EventTree

-- the plain value of an event
abbrev pub event_tree : Event → EventTree
event_tree (Say principal formula) = say (option_map term_tree principal) (option_map formula_tree formula)
event_tree (Transfer number to) = transfer number to
event_tree (Delete number) = delete number
event_tree (NewObject name) = new_object name
event_tree (SetGoal op object goal) = set_goal op object (option_map formula_tree goal)
event_tree (ClearGoal op object) = clear_goal op object
event_tree (SetProof op object proof) = set_proof op object (option_map line_trees proof)
event_tree (ClearProof op object) = clear_proof op object
event_tree (Bind principal port) = bind (option_map term_tree principal) port
event_tree (Unbind principal) = unbind (option_map term_tree principal)

-- the plain value of an entry
abbrev pub entry_tree : Entry → EntryTree
entry_tree e = record { session = e.session; principal = e.principal; event = event_tree e.event }
