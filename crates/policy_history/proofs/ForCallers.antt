-- What other crates may cite of the laws of the policy machine.
use Rattle.std.proofs.Common.{◌≡◌, ◌<◌, ◌≤◌, ℕ, Bool, List, [], ◌∷◌, ◌++◌, length, false, Some, None, IsOk}
use Rattle.std.specs.List.{flat_map, slice_get}
use Rattle.object_table.specs.Objects.{number_of}
use Rattle.nal_rules.specs.Verdicts.{CaseTree, IsVerdict}
use Rattle.nal_rules.specs.declared.verdicts.Verdict.{Verdict}
use Rattle.proof_store.specs.Cases.{CaseRow, number_of as case_number}
use Rattle.policy_history.specs.declared.heads.Head.{Head}
use Rattle.policy_history.specs.declared.events.Refusal.{Refusal}
use Rattle.policy_history.specs.Events.{EntryTree, EventTree, name_of}
use Rattle.policy_history.specs.Judged.{IsLasting}
use Rattle.policy_history.specs.Laws.{CasesStay, PlainTests, RightStays}
use Rattle.policy_history.specs.Machine.{IsAccepted, IsLegal, after, applies, refusal_of, replay}
use Rattle.policy_history.specs.PolicyLines.{entry_line}
use Rattle.policy_history.specs.States.{State, empty_state}
use Rattle.policy_history.specs.Values.{decision}
use Rattle.policy_history.proofs.Acceptance as acceptance
use Rattle.policy_history.proofs.Bounds as bounds
use Rattle.policy_history.proofs.Keeping as keeping
use Rattle.policy_history.proofs.Lasting as lasting
use Rattle.policy_history.proofs.Limits as limits
use Rattle.policy_history.proofs.LineBytes as bytes
use Rattle.policy_history.proofs.RightLaw as right
use Rattle.policy_history.proofs.Soundness as soundness
use Rattle.policy_history.proofs.Staying as staying
-- objects and case numbers stay, a row is of one triple, and what an accepted entry leaves; what each accepted change keeps, all keep
pub use Rattle.policy_history.proofs.Staying.{objects_stay, case_numbers_stay, kept_by_all}
pub use Rattle.policy_history.proofs.Changed.{same_triple}
pub use Rattle.policy_history.proofs.Soundness.{accepted_after, replay_accepted}
-- a change of a table counts no entry and no byte; when a principal has used up what it may add, and the journal is full; and no
-- event is refused as not recorded
pub use Rattle.policy_history.proofs.Acceptance.{changed_bytes, changed_entries, fitting, full_of, never_unrecorded, quota_of, unspent}
-- there are at most 262,144 cases
pub use Rattle.policy_history.proofs.Bounds.{cases_bounded}
-- the beginnings of a legal list
pub use Rattle.policy_history.proofs.Replaying.{accepted_at, take_one_more}
-- what a change of a table leaves of what is found in it, and an option that is not missing
pub use Rattle.policy_history.proofs.RowLaws.{find_alter, find_is, find_put, find_take_out}
pub use Rattle.policy_history.proofs.Changed.{some_where}

-- no refusal applies to an event that is accepted
pub none_applies : (h : Head) (s : State) (session p : ℕ) (e : EventTree) → refusal_of h s session p e ≡ None → (refusal : Refusal) → applies h s session p e refusal ≡ false
none_applies = acceptance.none_applies

-- what the tests of terms, formulas and proofs say
pub plain_tests : PlainTests
plain_tests = limits.plain_tests

-- one more entry
pub replay_more : (h : Head) (es : List EntryTree) (e : EntryTree) → replay h (es ++ e ∷ []) ≡ after h (replay h es) e
replay_more h es e = soundness.replay_more h (empty_state h) es e

-- the lines of a legal list are at most 33,554,432 bytes together
pub lines_bounded : (h : Head) (es : List EntryTree) → IsLegal h es
    → length (flat_map (λ (e : EntryTree). entry_line e.session (name_of h.principals e.principal) e.event) es) ≤ 33554432
lines_bounded = bytes.lines_bounded

-- an event of which a number is told is accepted
pub accepted_where : (h : Head) (s : State) (session p : ℕ) (e : EventTree) → IsOk (decision h s session p e) → refusal_of h s session p e ≡ None
accepted_where = keeping.accepted_where

-- a legal list, and one more entry that is accepted behind it
pub legal_more : (h : Head) (es : List EntryTree) (e : EntryTree) → IsLegal h es → IsAccepted h (replay h es) e → IsLegal h (es ++ e ∷ [])
legal_more h es e = soundness.legal_more h (empty_state h) es e

-- a verdict that rests on goal, proof and labels alone stays right
pub right_stays : RightStays
right_stays = right.right_stays

-- a case keeps its subject, operation and object
pub cases_stay : CasesStay
cases_stay = staying.cases_stay

-- an object that has a number is one of 65,536
pub object_there : (h : Head) (es : List EntryTree) (name : List ℕ) (k : ℕ) → number_of (replay h es).objects name ≡ Some k → k < 65536
object_there = bounds.object_there

-- a case that has a number is the row in this place, of the subject, the operation and the object, one of 262,144
pub case_there : (h : Head) (es : List EntryTree) (subject : ℕ) (op : List ℕ) (object k : ℕ) → case_number (replay h es).cases subject op object ≡ Some k
    → (row : CaseRow) × (slice_get (replay h es).cases k ≡ Some row) × (row.0 ≡ subject) × (row.1 ≡ op) × (row.2 ≡ object) × (k < 262144)
case_there = bounds.case_there

-- a verdict that lasts rests on no answer
pub lasting_alone : (c : CaseTree) (answers : List Bool) (verdict : Verdict) → IsLasting c verdict → IsVerdict c answers verdict → IsVerdict c [] verdict
lasting_alone = lasting.lasting_alone
