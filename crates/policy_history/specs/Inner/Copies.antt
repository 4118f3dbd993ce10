-- What is taken of memory before an event is added to the journal: a copy of what its row holds.
use Rattle.std.specs.Prelude.{◌≡◌, ◌⊎◌, ℕ, false, Some, None}
use Rattle.nal_term.specs.Trees.{TermTree, FormulaTree, says, term_tree, formula_tree}
use Rattle.proof_lines.specs.Lines.{line_trees}
use Rattle.policy_history.specs.declared.heads.Head.{Head}
use Rattle.policy_history.specs.declared.events.Refusal.{Refusal}
use Rattle.policy_history.specs.declared.copies.Copies.{Copies}
use Rattle.policy_history.specs.declared.copies.Copies.TheVariants.{Nothing, Label, Object, Goal, Proof, Port}
use Rattle.policy_history.specs.Events.{EventTree, say, transfer, delete, new_object, set_goal, clear_goal, set_proof, clear_proof, bind, unbind}
use Rattle.policy_history.specs.States.{State}
use Rattle.policy_history.specs.Machine.{applies}

-- the copies are those that the event's row wants
abbrev pub AreCopies : Copies → EventTree → Type 0
AreCopies (Label f) (say principal formula) = (t : TermTree) × (g : FormulaTree) × (principal ≡ Some t) × (formula ≡ Some g) × (formula_tree f ≡ says t g)
AreCopies Nothing (say principal formula) = (principal ≡ None) ⊎ (formula ≡ None)
AreCopies Nothing (transfer number to) = Unit {0}
AreCopies Nothing (delete number) = Unit {0}
AreCopies (Object x) (new_object y) = x ≡ y
AreCopies (Goal x f) (set_goal op object goal) = (x ≡ op) × (goal ≡ Some (formula_tree f))
AreCopies Nothing (set_goal op object goal) = goal ≡ None
AreCopies Nothing (clear_goal op object) = Unit {0}
AreCopies (Proof x ls) (set_proof op object proof) = (x ≡ op) × (proof ≡ Some (line_trees ls))
AreCopies Nothing (set_proof op object proof) = proof ≡ None
AreCopies Nothing (clear_proof op object) = Unit {0}
AreCopies (Port t) (bind principal port) = principal ≡ Some (term_tree t)
AreCopies Nothing (bind principal port) = principal ≡ None
AreCopies Nothing (unbind principal) = Unit {0}
AreCopies _ _ = ⊥

-- no refusal applies to the event
abbrev pub IsUnopposed : Head → State → ℕ → ℕ → EventTree → Type 0
IsUnopposed h s session p e = (refusal : Refusal) → applies h s session p e refusal ≡ false
