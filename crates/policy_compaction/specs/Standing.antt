-- What a state comes to for whoever asks.
use Rattle.std.specs.Prelude.{◌≡◌, ℕ, List}
use Rattle.nal_term.specs.Trees.{TermTree}
use Rattle.goal_store.specs.GoalRows.{port_of}
use Rattle.label_store.specs.LabelRows.{labels_of}
use Rattle.policy_history.specs.States.{State, goal_named, proof_named}

-- The two states have one standing: the same objects with their owners, in one order; of each operation on each object the same goal; of each
-- principal for these the same proof, or none; each principal holds the same formulas, in one order; and each term has the same port. Numbers
-- of labels and cases, and how many entries there were, do not count.
pub record SameStanding (s t : State) : Type 0 where
  pub objects : s.objects ≡ t.objects
  pub goals : (op object : List ℕ) → goal_named s op object ≡ goal_named t op object
  pub proofs : (p : ℕ) (op object : List ℕ) → proof_named s p op object ≡ proof_named t p op object
  pub labels : (p : ℕ) → labels_of s.labels p ≡ labels_of t.labels p
  pub ports : (principal : TermTree) → port_of s.ports principal ≡ port_of t.ports principal
