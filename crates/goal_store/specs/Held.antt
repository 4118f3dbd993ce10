-- What a store keeps of its goals: keys with the place of the operation in a list of names.
use Rattle.std.specs.Prelude.{ℕ, List, [], slice_index_or}
use Rattle.nal_term.specs.declared.formulas.Formula.{Formula}
use Rattle.goal_store.specs.GoalRows.{HeldGoal}

abbrev pub Entry : Type 0
Entry = (ℕ × ℕ) × Formula

-- the goal that an entry stands for
abbrev pub held_goal : List (List ℕ) → Entry → HeldGoal
held_goal ops e = (slice_index_or ops e.0.0 [], e.0.1, e.1)
