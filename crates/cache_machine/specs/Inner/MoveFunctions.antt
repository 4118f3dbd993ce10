-- What an act comes to, as functions by the actor's stage. They say the same as the relation of `Moves.antt`, as `proofs/Acts.antt`
-- shows.
use Rattle.std.specs.Prelude.{◌≡◌, ◌≢◌, ◌⊎◌, ℕ, List, length, Bool, true, false, ◌&&◌, nat_eq, nat_le, Option, Some, None, if◌then◌else◌}
use Rattle.nal_rules.specs.Verdicts.{IsVerdict}
use Rattle.nal_rules.specs.declared.verdicts.Verdict.{Verdict}
use Rattle.object_table.specs.Objects.{number_of}
use Rattle.proof_store.specs.Cases.{number_of as case_number}
use Rattle.policy_history.specs.declared.events.Refusal.{Refusal}
use Rattle.policy_history.specs.Events.{EventTree}
use Rattle.policy_history.specs.Judged.{case_at, object_region, region_in, store_region}
use Rattle.policy_history.specs.Machine.{refusal_of}
use Rattle.cache_machine.specs.declared.stages.Kept.{Kept}
use Rattle.cache_machine.specs.declared.stages.Place.{Place}
use Rattle.cache_machine.specs.States.{ActorTree, MachineState, StageTree, resting, looked, counted, half, missed, raised, holding, allowed}
use Rattle.cache_machine.specs.Moves.{ActTree, MoveTree, write, look, count, snap, answer, fill, run, raise, object, store, idle, goes, tells, fills, raises, writes, policy, slot_at, region_at, place_in, after_verdict, kept_of}

-- ---- Look

-- the word of the place's slot is copied
abbrev pub looked_at : MachineState → Option Place → MoveTree
looked_at s None = idle
looked_at s (Some place) = goes (looked place (slot_at s place.case))

abbrev pub look_move : MachineState → ℕ → StageTree → List ℕ → List ℕ → MoveTree
look_move s p (resting kept) op name = looked_at s (place_in (policy s) p op name)
look_move s p _ op name = idle

-- ---- Count and Object

abbrev pub count_move : MachineState → StageTree → MoveTree
count_move s (looked place slot) = goes (counted place slot (length s.entries))
count_move s _ = idle

abbrev pub object_move : MachineState → StageTree → MoveTree
object_move s (counted place slot at) = goes (half place slot at (region_at s (object_region place.object)))
object_move s _ = idle

-- ---- Store

-- the verdict that a slot's word gives for a case, where it keeps one of this very case, at a point to which both regions' words are at most equal
abbrev pub hit_in : Option Kept → ℕ → ℕ → ℕ → Option Verdict
hit_in None case first second = None
hit_in (Some kept) case first second = if nat_eq kept.case case && (nat_le first kept.point && nat_le second kept.point) then Some kept.verdict else None

abbrev pub found_move : ℕ → ℕ → Option Verdict → MoveTree
found_move a at None = goes missed
found_move a at (Some verdict) = tells (record { actor = a; at = at; hit = true; verdict = verdict }) (after_verdict verdict None)

abbrev pub store_move : MachineState → ℕ → ℕ → StageTree → MoveTree
store_move s a p (half place slot at word) = found_move a at (hit_in slot place.case word (region_at s (store_region p)))
store_move s a p _ = idle

-- ---- Raise and Write

-- an event that is accepted and touches a region raises it
abbrev pub raised_move : EventTree → Option Refusal → Option ℕ → MoveTree
raised_move e None (Some region) = raises region e
raised_move e None None = idle
raised_move e (Some refusal) region = idle

-- an event that is accepted and touches no region is written at once
abbrev pub written_move : EventTree → Option Refusal → Option ℕ → MoveTree
written_move e None None = writes e
written_move e None (Some region) = idle
written_move e (Some refusal) region = idle

abbrev pub raise_free : MachineState → ActorTree → EventTree → Option ℕ → MoveTree
raise_free s x e None = raised_move e (refusal_of s.head (policy s) x.session x.principal e) (region_in (policy s) x.principal e)
raise_free s x e (Some holder) = idle

abbrev pub raise_move : MachineState → ActorTree → StageTree → EventTree → MoveTree
raise_move s x (resting kept) e = raise_free s x e s.holder
raise_move s x _ e = idle

abbrev pub write_free : MachineState → ActorTree → EventTree → Option ℕ → MoveTree
write_free s x e None = written_move e (refusal_of s.head (policy s) x.session x.principal e) (region_in (policy s) x.principal e)
write_free s x e (Some holder) = idle

-- a raised actor writes the event that it raised a region for, and no other
abbrev pub IsRaisedWritten : EventTree → EventTree → MoveTree → Type 0
IsRaisedWritten e own move = ((e ≡ own) × (move ≡ writes e)) ⊎ ((e ≢ own) × (move ≡ idle))

abbrev pub IsWritten : MachineState → ActorTree → StageTree → EventTree → MoveTree → Type 0
IsWritten s x (raised own) e move = IsRaisedWritten e own move
IsWritten s x (resting kept) e move = move ≡ write_free s x e s.holder
IsWritten s x _ e move = move ≡ idle

-- ---- Snap, Answer, Fill and Run

abbrev pub snapped_at : MachineState → ℕ → List ℕ → Option ℕ → MoveTree
snapped_at s p op None = idle
snapped_at s p op (Some n) = goes (holding (case_at s.head (policy s) p op n) (case_number (policy s).cases p op n) (length s.entries))

-- the case is copied where nobody holds the lock and an object has the name
abbrev pub snap_free : MachineState → ℕ → List ℕ → List ℕ → Option ℕ → MoveTree
snap_free s p op name None = snapped_at s p op (number_of (policy s).objects name)
snap_free s p op name (Some holder) = idle

abbrev pub snap_move : MachineState → ℕ → StageTree → List ℕ → List ℕ → MoveTree
snap_move s p (resting kept) op name = snap_free s p op name s.holder
snap_move s p missed op name = snap_free s p op name s.holder
snap_move s p _ op name = idle

-- the verdict of the case that is held, with these answers, is told
abbrev pub IsAnswered : ℕ → StageTree → List Bool → MoveTree → Type 0
IsAnswered a (holding c number at) answers move =
    (verdict : Verdict) × IsVerdict c answers verdict × (move ≡ tells (record { actor = a; at = at; hit = false; verdict = verdict }) (after_verdict verdict (kept_of c number at verdict)))
IsAnswered a _ answers move = move ≡ idle

abbrev pub fill_move : StageTree → MoveTree
fill_move (allowed (Some kept)) = fills kept (allowed None)
fill_move (resting (Some kept)) = fills kept (resting None)
fill_move _ = idle

abbrev pub run_move : StageTree → MoveTree
run_move (allowed kept) = goes (resting None)
run_move _ = idle

-- ---- All acts

-- an act of this actor, in this stage, comes to this
abbrev pub ComesTo : MachineState → ℕ → ActorTree → StageTree → ActTree → MoveTree → Type 0
ComesTo s a x stage (write e) move = IsWritten s x stage e move
ComesTo s a x stage (look op name) move = move ≡ look_move s x.principal stage op name
ComesTo s a x stage count move = move ≡ count_move s stage
ComesTo s a x stage (snap op name) move = move ≡ snap_move s x.principal stage op name
ComesTo s a x stage (answer answers) move = IsAnswered a stage answers move
ComesTo s a x stage fill move = move ≡ fill_move stage
ComesTo s a x stage run move = move ≡ run_move stage
ComesTo s a x stage (raise e) move = move ≡ raise_move s x stage e
ComesTo s a x stage object move = move ≡ object_move s stage
ComesTo s a x stage store move = move ≡ store_move s a x.principal stage
