-- What the code keeps while it takes the steps of a load.
use Rattle.std.specs.Prelude.{◌≡◌, ◌≤◌, ◌∷◌, [], ℕ, List, length, map, nat_eq, if◌then◌else◌, Option, Some, None}
use Rattle.std.specs.List.{AllByRecursion}
use Rattle.label_store.specs.LabelRows.{LabelRow}
use Rattle.policy_history.specs.Events.{EntryTree}
use Rattle.policy_history.specs.Machine.{replay}
use Rattle.cache_machine.specs.Machines.{AreTakenAs, IsStepped, MachineValue, state_in}
use Rattle.cache_machine.specs.Moves.{StepTree}
use Rattle.cache_machine.specs.Runs.{Happened}
use Rattle.nexus_drill.specs.Loads.{AreDrawn, opening_head, step_of}

-- the numbers of a label, if there is one
abbrev pub numbers_of : Option ℕ → List ℕ
numbers_of None = []
numbers_of (Some number) = number ∷ []

-- after these entries the labels are this one alone, or none
abbrev pub IsHeld : List EntryTree → Option ℕ → Type 0
IsHeld es held = map (λ (row : LabelRow). row.0) (replay opening_head es).labels ≡ numbers_of held

-- the label that a journal holds which had this length before a step and that one after it
abbrev pub held_after : Option ℕ → ℕ → ℕ → Option ℕ
held_after held before after = if nat_eq before after then held else changed held
  where
    changed : Option ℕ → Option ℕ
    changed (Some number) = None
    changed None = Some after

-- the machine is one of the load, and this is the label that its journal holds
pub record IsReady (m : MachineValue) (held : Option ℕ) : Type 0 where
  pub head : (state_in m).head ≡ opening_head
  pub held_is : IsHeld (state_in m).entries held

-- one step of a draw
pub record IsDrawnStep (old : MachineValue) (draw : ℕ) (new : MachineValue) (held : Option ℕ) : Type 0 where
  pub stepped : IsStepped old (step_of draw (state_in old).entries) new
  pub ready : IsReady new held

-- as many steps as this, drawn from a number
pub record AreLoaded (number : ℕ) (old : MachineValue) (count : ℕ) (new : MachineValue) : Type 0 where
  pub steps : List StepTree
  pub happened : List Happened
  pub many : length steps ≡ count
  pub recorded : length happened ≡ count
  pub taken : AreTakenAs old steps happened new
  pub before : AllByRecursion (λ (x : Happened). x.at ≤ length (state_in new).entries) happened
  pub drawn : AreDrawn number (state_in new).entries happened
