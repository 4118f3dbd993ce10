-- A machine as contracts see it.
use Rattle.std.specs.Prelude.{◌≡◌, ◌+◌, ℕ, List, [], ◌∷◌, ◌++◌, length, replicate, slice_get, Some, None}
use Rattle.policy_history.specs.declared.heads.Head.{Head}
use Rattle.policy_history.specs.Events.{EntryTree}
use Rattle.policy_history.specs.Values.{entry_trees, greatest_of}
use Rattle.cache_machine.specs.declared.steps.Outcome.{Outcome}
use Rattle.cache_machine.specs.declared.steps.Told.{Told}
use Rattle.cache_machine.specs.declared.stages.World.{World}
use Rattle.cache_machine.specs.States.{ActorTree, MachineState, resting}
use Rattle.cache_machine.specs.Moves.{IsStep, MoveTree, StepTree, all_regions, idle_after, slot_count, told_in}
use Rattle.cache_machine.specs.Runs.{Happened, IsRightMove, IsRun, entries_of, idle_over, own, told_of, writes_of}
use Rattle.cache_machine.specs.Justified.{IsJustified}
use Rattle.cache_machine.specs.Views.{state_of}

-- its parts, what was told so far, and how many steps did nothing
pub record MachineValue : Type 0 where
  pub world : World
  pub told : List Told
  pub idle : ℕ

-- the state that its parts hold
abbrev pub state_in : MachineValue → MachineState
state_in m = state_of m.world

-- the actors at the start, each with the session after that of the one before
abbrev pub first_actors : ℕ → List ℕ → List ActorTree
first_actors session [] = []
first_actors session (p ∷ ps) = record { principal = p; session = session; stage = resting None } ∷ first_actors (session + 1) ps

-- the state at the start: empty slots, and each region's word is the length of the journal
abbrev pub first_state : Head → List EntryTree → List ℕ → MachineState
first_state h es principals = record {
  head = h;
  entries = es;
  slots = replicate slot_count None;
  regions = replicate all_regions (length es);
  holder = None;
  actors = first_actors (greatest_of es + 1) principals;
}

-- One step: the state goes on, and what is told and whether it did nothing are added. What is told is right by the journal
-- alone
pub record IsStepped (old : MachineValue) (step : StepTree) (new : MachineValue) : Type 0 where
  pub move : MoveTree
  pub state : IsStep (state_in old) step move (state_in new)
  pub told : new.told ≡ old.told ++ told_in move
  pub idle : new.idle ≡ idle_after move old.idle
  pub right : IsRightMove (state_in old).head (state_in old).entries (state_in old).actors step.actor step.act move

-- nothing that a contract speaks of changed
pub record IsAsBefore (old new : MachineValue) : Type 0 where
  pub state : state_in new ≡ state_in old
  pub told : new.told ≡ old.told
  pub idle : new.idle ≡ old.idle

-- Steps, one after another: what happened leads from the one state to the other, and is what was told and how many did
-- nothing
pub record AreTakenAs (old : MachineValue) (steps : List StepTree) (happened : List Happened) (new : MachineValue) : Type 0 where
  pub run : IsRun (state_in old) steps happened (state_in new)
  pub told : new.told ≡ old.told ++ told_of happened
  pub idle : new.idle ≡ idle_over happened old.idle

abbrev pub AreTaken : MachineValue → List StepTree → MachineValue → Type 0
AreTaken old steps new = (happened : List Happened) × AreTakenAs old steps happened new

-- What the steps leave, beginning where nothing was told yet: what happened leads from the start to an end, and is what was
-- told and how many steps did nothing. The journal is the one at the start and then the entries of the writes that were
-- not idle, in their order; those of an actor's session are its writes. What was told is justified
pub record IsOutcomeAs (start : MachineState) (steps : List StepTree) (happened : List Happened) (outcome : Outcome) : Type 0 where
  pub end : MachineState
  pub run : IsRun start steps happened end
  pub head : outcome.journal.head ≡ start.head
  pub end_is : entry_trees outcome.journal.entries ≡ end.entries
  pub entries : entry_trees outcome.journal.entries ≡ start.entries ++ entries_of start.actors happened
  pub own_entries : (a : ℕ) (x : ActorTree) → slice_get start.actors a ≡ Some x → own x.session (entry_trees outcome.journal.entries) ≡ writes_of start.actors a happened
  pub told : outcome.told ≡ told_of happened
  pub idle : outcome.idle ≡ idle_over happened 0
  pub justified : IsJustified start.head (entry_trees outcome.journal.entries) start.actors happened

abbrev pub IsOutcome : MachineState → List StepTree → Outcome → Type 0
IsOutcome start steps outcome = (happened : List Happened) × IsOutcomeAs start steps happened outcome
