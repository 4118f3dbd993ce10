-- Whole runs, and what is right about what a step tells, without words and slots.
use Rattle.std.specs.Prelude.{◌≡◌, ◌≤◌, ℕ, List, [], ◌∷◌, length, take, Bool, true, false, nat_eq, filter, Option, Some, None, slice_get}
use Rattle.std.specs.List.{flat_map}
use Rattle.nal_rules.specs.Verdicts.{IsVerdict}
use Rattle.policy_history.specs.declared.heads.Head.{Head}
use Rattle.policy_history.specs.Events.{EntryTree}
use Rattle.policy_history.specs.Judged.{IsHome, IsRight, case_at}
use Rattle.policy_history.specs.Machine.{replay}
use Rattle.cache_machine.specs.declared.steps.Told.{Told}
use Rattle.cache_machine.specs.States.{ActorTree, MachineState}
use Rattle.cache_machine.specs.Moves.{ActTree, IsStep, MoveTree, StepTree, answer, idle_after, told_in, tells, writes}

-- a step of a run: what was tried, what it came to, and the length of the journal before it
pub record Happened : Type 0 where
  pub step : StepTree
  pub move : MoveTree
  pub at : ℕ

-- the steps lead from the one state to the other, and this is what happened
abbrev pub IsRun : MachineState → List StepTree → List Happened → MachineState → Type 0
IsRun s [] [] t = t ≡ s
IsRun s (step ∷ steps) (x ∷ xs) t = (mid : MachineState) × IsStep s step x.move mid × (x.step ≡ step) × (x.at ≡ length s.entries) × IsRun mid steps xs t
IsRun s [] (x ∷ xs) t = ⊥
IsRun s (step ∷ steps) [] t = ⊥

-- what was told, in order
abbrev pub told_of : List Happened → List Told
told_of xs = flat_map (λ (x : Happened). told_in x.move) xs

-- the entry that a step added, if it did
abbrev pub entry_of : Option ActorTree → MoveTree → List EntryTree
entry_of (Some x) (writes e) = record { session = x.session; principal = x.principal; event = e } ∷ []
entry_of (Some x) _ = []
entry_of None move = []

-- the entries that the steps added, each of the session and the principal of its actor
abbrev pub entries_of : List ActorTree → List Happened → List EntryTree
entries_of actors xs = flat_map (λ (x : Happened). entry_of (slice_get actors x.step.actor) x.move) xs

-- A hit of principal p: at the point, which stands within the journal, a case of p is right with the verdict
pub record IsRightHit (h : Head) (es : List EntryTree) (p : ℕ) (told : Told) : Type 0 where
  pub within : told.at ≤ length es
  pub case : ℕ
  pub object : ℕ
  pub home : IsHome h (take told.at es) case object p
  pub right : IsRight h (take told.at es) case told.verdict

-- Any other verdict of principal p: it is the verdict on a case of p at the point, which stands within the journal, with
-- the answers of the act
pub record IsRightAnswer (h : Head) (es : List EntryTree) (p : ℕ) (act : ActTree) (told : Told) : Type 0 where
  pub within : told.at ≤ length es
  pub op : List ℕ
  pub object : ℕ
  pub answers : List Bool
  pub answered : act ≡ answer answers
  pub verdict : IsVerdict (case_at h (replay h (take told.at es)) p op object) answers told.verdict

-- the one or the other, by whether it is a hit
abbrev pub IsRightAs : Bool → Head → List EntryTree → ℕ → ActTree → Told → Type 0
IsRightAs true h es p act told = IsRightHit h es p told
IsRightAs false h es p act told = IsRightAnswer h es p act told

abbrev pub IsRightlyTold : Head → List EntryTree → ℕ → ActTree → Told → Type 0
IsRightlyTold h es p act told = IsRightAs told.hit h es p act told

-- what is told in a step of this actor is told to it, and is right at its point
abbrev pub IsRightMove : Head → List EntryTree → List ActorTree → ℕ → ActTree → MoveTree → Type 0
IsRightMove h es actors a act (tells told stage) = (told.actor ≡ a) × (x : ActorTree) × (slice_get actors a ≡ Some x) × IsRightlyTold h es x.principal act told
IsRightMove h es actors a act _ = Unit {0}

-- how many steps did nothing, after these
abbrev pub idle_over : List Happened → ℕ → ℕ
idle_over [] sum = sum
idle_over (x ∷ xs) sum = idle_over xs (idle_after x.move sum)

-- whether the step is one of this actor
abbrev pub is_by : ℕ → Happened → Bool
is_by a x = nat_eq x.step.actor a

-- the entries that an actor's steps added, in order
abbrev pub writes_of : List ActorTree → ℕ → List Happened → List EntryTree
writes_of actors a xs = entries_of actors (filter (is_by a) xs)

-- the entries of a session, in order
abbrev pub own : ℕ → List EntryTree → List EntryTree
own session es = filter (λ (e : EntryTree). nat_eq e.session session) es
