-- What always holds of the words, of the lock and of the actors.
use Rattle.std.specs.Prelude.{◌≡◌, ◌<◌, ◌≤◌, ◌+◌, ℕ, List, length, take, Option, Some, None, slice_get}
use Rattle.nal_rules.specs.Verdicts.{CaseTree}
use Rattle.proof_store.specs.Cases.{number_of as case_number}
use Rattle.policy_history.specs.declared.heads.Head.{Head}
use Rattle.policy_history.specs.Events.{EntryTree, EventTree}
use Rattle.policy_history.specs.Judged.{IsHome, IsRight, IsUntouched, case_at, object_region, region_in}
use Rattle.policy_history.specs.Machine.{refusal_of, replay}
use Rattle.cache_machine.specs.declared.stages.Kept.{Kept}
use Rattle.cache_machine.specs.declared.stages.Place.{Place}
use Rattle.cache_machine.specs.States.{ActorTree, MachineState, StageTree, resting, looked, counted, half, missed, raised, holding, allowed}
use Rattle.cache_machine.specs.Moves.{MoveTree, idle, goes, tells, fills, raises, writes, all_regions, slot_count}

-- an event of this session and principal, which is one of the head's, is accepted at the end of the history
abbrev pub IsNext : Head → List EntryTree → ℕ → ℕ → EventTree → Type 0
IsNext h es session p e = (p < length h.principals) × (refusal_of h (replay h es) session p e ≡ None)

-- the same of an actor's event
abbrev pub IsNextOf : MachineState → Option ActorTree → EventTree → Type 0
IsNextOf s None e = ⊥
IsNextOf s (Some x) e = IsNext s.head s.entries x.session x.principal e

-- a move that can be made: the number names an actor, a region is one that there is, and what is written is accepted
abbrev pub IsDoable : MachineState → ℕ → MoveTree → Type 0
IsDoable s a idle = Unit {0}
IsDoable s a (goes stage) = a < length s.actors
IsDoable s a (tells told stage) = a < length s.actors
IsDoable s a (fills kept stage) = a < length s.actors
IsDoable s a (raises region e) = (a < length s.actors) × (region < all_regions)
IsDoable s a (writes e) = (a < length s.actors) × IsNextOf s (slice_get s.actors a) e

-- what is kept, if anything, is right at its point, which is within the history
abbrev pub IsSoundIn : Head → List EntryTree → Option Kept → Type 0
IsSoundIn h es None = Unit {0}
IsSoundIn h es (Some kept) = (kept.point ≤ length es) × IsRight h (take kept.point es) kept.case kept.verdict

-- an actor counted the journal: the word that it copied before is sound for the entries then, and its place is that of its case
pub record IsCounted (h : Head) (es : List EntryTree) (p : ℕ) (place : Place) (slot : Option Kept) (at : ℕ) : Type 0 where
  pub within : at ≤ length es
  pub sound : IsSoundIn h (take at es) slot
  pub home : IsHome h (take at es) place.case place.object p

-- an actor holds a case of its principal, at a length of the journal
pub record IsHeldAt (h : Head) (es : List EntryTree) (p : ℕ) (c : CaseTree) (number : Option ℕ) (at : ℕ) : Type 0 where
  pub op : List ℕ
  pub object : ℕ
  pub within : at ≤ length es
  pub case_is : c ≡ case_at h (replay h (take at es)) p op object
  pub number_is : number ≡ case_number (replay h (take at es)).cases p op object

-- an actor holds the lock: its event is accepted, and the word of the region that this touches is the length plus 1
pub record IsRaised (h : Head) (es : List EntryTree) (regions : List ℕ) (holder : Option ℕ) (a session p : ℕ) (e : EventTree) : Type 0 where
  pub holds : holder ≡ Some a
  pub next : IsNext h es session p e
  pub region : ℕ
  pub touches : region_in (replay h es) p e ≡ Some region
  pub word : slice_get regions region ≡ Some (length es + 1)

-- what an actor of this session and principal knows, by how far it is
abbrev pub Knows : Head → List EntryTree → List ℕ → Option ℕ → ℕ → ℕ → ℕ → StageTree → Type 0
Knows h es regions holder a session p (resting kept) = IsSoundIn h es kept
Knows h es regions holder a session p (looked place slot) = IsSoundIn h es slot × IsHome h es place.case place.object p
Knows h es regions holder a session p (counted place slot at) = IsCounted h es p place slot at
Knows h es regions holder a session p (half place slot at word) = IsCounted h es p place slot at × IsUntouched h (take at es) word (object_region place.object)
Knows h es regions holder a session p missed = Unit {0}
Knows h es regions holder a session p (raised e) = IsRaised h es regions holder a session p e
Knows h es regions holder a session p (holding c number at) = IsHeldAt h es p c number at
Knows h es regions holder a session p (allowed kept) = IsSoundIn h es kept

-- what each actor knows
abbrev pub AllKnow : Head → List EntryTree → List ℕ → Option ℕ → List ActorTree → Type 0
AllKnow h es regions holder actors = (a : ℕ) (x : ActorTree) → slice_get actors a ≡ Some x → Knows h es regions holder a x.session x.principal x.stage

-- what every slot keeps is sound
abbrev pub AreSound : Head → List EntryTree → List (Option Kept) → Type 0
AreSound h es slots = (i : ℕ) (kept : Kept) → slice_get slots i ≡ Some (Some kept) → IsSoundIn h es (Some kept)

-- no entry behind a region's word touches the region, and the word is at most the length plus 1
abbrev pub AreRegions : Head → List EntryTree → List ℕ → Type 0
AreRegions h es regions = (region word : ℕ) → slice_get regions region ≡ Some word → IsUntouched h es word region × (word ≤ length es + 1)

-- each actor's principal is one of the head's
abbrev pub AreOfHead : Head → List ActorTree → Type 0
AreOfHead h actors = (a : ℕ) (x : ActorTree) → slice_get actors a ≡ Some x → x.principal < length h.principals

-- what always holds of a machine
pub record IsWorded (s : MachineState) : Type 0 where
  pub slots : length s.slots ≡ slot_count
  pub regions : length s.regions ≡ all_regions
  pub sound : AreSound s.head s.entries s.slots
  pub words : AreRegions s.head s.entries s.regions
  pub principals : AreOfHead s.head s.actors
  pub knows : AllKnow s.head s.entries s.regions s.holder s.actors
