-- The steps of the machine: what each act of an actor comes to, and the state after it.
use Rattle.std.specs.Prelude.{◌≡◌, ◌⊎◌, ◌≤◌, ◌+◌, ◌%◌, ℕ, List, [], ◌∷◌, ◌++◌, length, Bool, true, false, not, Option, Some, None, cond, option_map, option_and_then, unwrap_or, slice_get, slice_set, if◌then◌else◌}
use Rattle.std.specs.List.{list_any}
use Rattle.nx_io.specs.Streams.{one_more}
use Rattle.nal_rules.specs.Asking.{lines_of}
use Rattle.nal_rules.specs.Faults.{is_ask}
use Rattle.nal_rules.specs.Verdicts.{CaseTree, IsVerdict}
use Rattle.nal_rules.specs.declared.verdicts.Cause.TheVariants.{GoalUnset, NoProof, Line}
use Rattle.nal_rules.specs.declared.verdicts.Verdict.{Verdict}
use Rattle.nal_rules.specs.declared.verdicts.Verdict.TheVariants.{Allowed, Denied}
use Rattle.object_table.specs.Objects.{number_of}
use Rattle.proof_store.specs.Cases.{number_of as case_number}
use Rattle.policy_history.specs.Events.{EntryTree, EventTree}
use Rattle.policy_history.specs.Judged.{case_at, object_region, region_count, region_in, store_region}
use Rattle.policy_history.specs.Machine.{refusal_of, replay}
use Rattle.policy_history.specs.States.{State}
use Rattle.cache_machine.specs.declared.stages.Kept.{Kept}
use Rattle.cache_machine.specs.declared.stages.Place.{Place}
use Rattle.cache_machine.specs.declared.steps.Told.{Told}
use Rattle.cache_machine.specs.States.{ActorTree, MachineState, StageTree, resting, looked, counted, half, missed, raised, holding, allowed}

-- what an actor may try
pub data ActTree : Type 0 where
  write : EventTree → ActTree
  look : List ℕ → List ℕ → ActTree
  count : ActTree
  snap : List ℕ → List ℕ → ActTree
  answer : List Bool → ActTree
  fill : ActTree
  run : ActTree
  raise : EventTree → ActTree
  object : ActTree
  store : ActTree

pub record StepTree : Type 0 where
  pub actor : ℕ
  pub act : ActTree

-- what a step comes to
pub data MoveTree : Type 0 where
  -- nothing changes
  idle : MoveTree
  -- the actor alone goes on
  goes : StageTree → MoveTree
  -- the actor is told a verdict, and goes on
  tells : Told → StageTree → MoveTree
  -- a verdict is put into the slot of its case, and the actor goes on
  fills : Kept → StageTree → MoveTree
  -- the actor takes the lock and raises this region for the event
  raises : ℕ → EventTree → MoveTree
  -- the event is the journal's next entry; the lock is free, and the actor rests
  writes : EventTree → MoveTree

-- how many slots there are
abbrev pub slot_count : ℕ
slot_count = 4096

-- how many regions there are: those of objects, and then as many of stores
abbrev pub all_regions : ℕ
all_regions = region_count + region_count

-- the policy at the end of the journal
abbrev pub policy : MachineState → State
policy s = replay s.head s.entries

-- the number of the slot of a case
abbrev pub slot_of : ℕ → ℕ
slot_of case = case % slot_count

-- the word of a slot, and that of a region
abbrev pub slot_at : MachineState → ℕ → Option Kept
slot_at s case = unwrap_or (slice_get s.slots (slot_of case)) None

abbrev pub region_at : MachineState → ℕ → ℕ
region_at s region = unwrap_or (slice_get s.regions region) 0

-- the place of a subject's operation on the object with this name, where the three have a case number
abbrev pub place_in : State → ℕ → List ℕ → List ℕ → Option Place
place_in s p op name = option_and_then (λ (n : ℕ). option_map (λ (k : ℕ). record { case = k; object = n }) (case_number s.cases p op n)) (number_of s.objects name)

-- the slot's word keeps a verdict of this very case, at a point to which the words of both regions are at most equal
pub record IsHit (slot : Option Kept) (case object_word store_word : ℕ) (kept : Kept) : Type 0 where
  pub keeps : slot ≡ Some kept
  pub same_case : kept.case ≡ case
  pub object_low : object_word ≤ kept.point
  pub store_low : store_word ≤ kept.point

-- how far an actor is that was told a verdict, with what it may keep of it
abbrev pub after_verdict : Verdict → Option Kept → StageTree
after_verdict Allowed kept = allowed kept
after_verdict (Denied cause) kept = resting kept

-- whether a verdict may be kept: one by goal, proof and labels alone, and no denial for a label
abbrev pub may_be_kept : CaseTree → Verdict → Bool
may_be_kept c Allowed = not (list_any is_ask (lines_of c))
may_be_kept c (Denied GoalUnset) = true
may_be_kept c (Denied NoProof) = true
may_be_kept c (Denied (Line k fault)) = true
may_be_kept c (Denied _) = false

-- what may be kept of a verdict: where the case has a number
abbrev pub kept_of : CaseTree → Option ℕ → ℕ → Verdict → Option Kept
kept_of c number at verdict = if may_be_kept c verdict then option_map (λ (k : ℕ). record { case = k; point = at; verdict = verdict }) number else None

-- an actor may copy a case: it rests, or found no verdict in the slot
abbrev pub MaySnap : StageTree → Type 0
MaySnap (resting kept) = Unit {0}
MaySnap missed = Unit {0}
MaySnap _ = ⊥

-- ---- What an act comes to

-- What stays the same in a step: the state, and the actor's number, session and principal.
module _ (s : MachineState) (a session p : ℕ) where
  -- the lock is free, and the actor's event is accepted and touches this region, or none
  pub record IsChange (e : EventTree) (region : Option ℕ) : Type 0 where
    pub free : s.holder ≡ None
    pub accepted : refusal_of s.head (policy s) session p e ≡ None
    pub touches : region_in (policy s) p e ≡ region

  -- `Acts stage act move`: for an actor in this stage the act comes to this move. Each constructor is a row of the table in
  -- `docs/LOGIC.md`, "The machine of the cache", or one of a row's two ways
  pub data Acts : StageTree → ActTree → MoveTree → Type 0 where
    -- the word of the slot of its case is copied
    looks : {kept : Option Kept} {op name : List ℕ} {place : Place} → place_in (policy s) p op name ≡ Some place
        → Acts (resting kept) (look op name) (goes (looked place (slot_at s place.case)))
    -- the length of the journal is copied
    counts : {place : Place} {slot : Option Kept} → Acts (looked place slot) count (goes (counted place slot (length s.entries)))
    -- the word of the object's region is copied
    loads : {place : Place} {slot : Option Kept} {at : ℕ}
        → Acts (counted place slot at) object (goes (half place slot at (region_at s (object_region place.object))))
    -- the verdict of the slot's word is told as a hit at the copied length, or there is no hit
    hits : {place : Place} {slot : Option Kept} {at word : ℕ} {kept : Kept} → IsHit slot place.case word (region_at s (store_region p)) kept
        → Acts (half place slot at word) store (tells (record { actor = a; at = at; hit = true; verdict = kept.verdict }) (after_verdict kept.verdict None))
    misses : {place : Place} {slot : Option Kept} {at word : ℕ} → ((kept : Kept) → ¬ IsHit slot place.case word (region_at s (store_region p)) kept)
        → Acts (half place slot at word) store (goes missed)
    -- the lock is taken, and the region that the event touches is raised
    lifts : {kept : Option Kept} {e : EventTree} {region : ℕ} → IsChange e (Some region) → Acts (resting kept) (raise e) (raises region e)
    -- the event for which a region was raised is the next entry, and so is one that touches no region
    writes_raised : {e : EventTree} → Acts (raised e) (write e) (writes e)
    writes_free : {kept : Option Kept} {e : EventTree} → IsChange e None → Acts (resting kept) (write e) (writes e)
    -- the case at the end of the journal is copied
    snaps : {stage : StageTree} {op name : List ℕ} {n : ℕ} → MaySnap stage → s.holder ≡ None → number_of (policy s).objects name ≡ Some n
        → Acts stage (snap op name) (goes (holding (case_at s.head (policy s) p op n) (case_number (policy s).cases p op n) (length s.entries)))
    -- the verdict on the copied case, with these answers, is told at the length at which it was copied
    answers : {c : CaseTree} {number : Option ℕ} {at : ℕ} {given : List Bool} {verdict : Verdict} → IsVerdict c given verdict
        → Acts (holding c number at) (answer given) (tells (record { actor = a; at = at; hit = false; verdict = verdict }) (after_verdict verdict (kept_of c number at verdict)))
    -- what may be kept is put into its slot, once
    fills_allowed : {kept : Kept} → Acts (allowed (Some kept)) fill (fills kept (allowed None))
    fills_denied : {kept : Kept} → Acts (resting (Some kept)) fill (fills kept (resting None))
    -- an allowed call ends
    runs : {kept : Option Kept} → Acts (allowed kept) run (goes (resting None))

  -- an act comes to what it can come to, and is idle where it can come to nothing
  abbrev pub Comes : StageTree → ActTree → MoveTree → Type 0
  Comes stage act move = Acts stage act move ⊎ ((move ≡ idle) × ((other : MoveTree) → ¬ Acts stage act other))

-- ---- Steps

-- an act of this actor comes to this
abbrev pub Moves : MachineState → ℕ → ActorTree → ActTree → MoveTree → Type 0
Moves s a x act move = Comes s a x.session x.principal x.stage act move

-- the same of a number that may name no actor: its steps are idle
abbrev pub MovesAt : MachineState → ℕ → Option ActorTree → ActTree → MoveTree → Type 0
MovesAt s a None act move = move ≡ idle
MovesAt s a (Some x) act move = Moves s a x act move

-- the actors, when one goes on
abbrev pub gone_on : List ActorTree → ℕ → Option ActorTree → StageTree → List ActorTree
gone_on actors a None stage = actors
gone_on actors a (Some x) stage = slice_set actors a (record x { stage = stage })

abbrev pub with_stage : MachineState → ℕ → StageTree → MachineState
with_stage s a stage = record s { actors = gone_on s.actors a (slice_get s.actors a) stage }

-- the journal, when an actor writes
abbrev pub written_by : List EntryTree → Option ActorTree → EventTree → List EntryTree
written_by entries None e = entries
written_by entries (Some x) e = entries ++ record { session = x.session; principal = x.principal; event = e } ∷ []

-- the state after a move of this actor
abbrev pub after_move : MachineState → ℕ → MoveTree → MachineState
after_move s a idle = s
after_move s a (goes stage) = with_stage s a stage
after_move s a (tells told stage) = with_stage s a stage
after_move s a (fills kept stage) = record (with_stage s a stage) { slots = slice_set s.slots (slot_of kept.case) (Some kept) }
after_move s a (raises region e) = record (with_stage s a (raised e)) { regions = slice_set s.regions region (length s.entries + 1); holder = Some a }
after_move s a (writes e) = record (with_stage s a (resting None)) { entries = written_by s.entries (slice_get s.actors a) e; holder = None }

-- a step comes to this, and leads from the one state to the other
abbrev pub IsStep : MachineState → StepTree → MoveTree → MachineState → Type 0
IsStep s step move t = MovesAt s step.actor (slice_get s.actors step.actor) step.act move × (t ≡ after_move s step.actor move)

-- what is told in a move
abbrev pub told_in : MoveTree → List Told
told_in (tells told stage) = told ∷ []
told_in _ = []

-- whether nothing changed
abbrev pub is_idle : MoveTree → Bool
is_idle idle = true
is_idle _ = false

-- how many steps did nothing, after one more
abbrev pub idle_after : MoveTree → ℕ → ℕ
idle_after move sum = cond (is_idle move) (one_more sum) sum
