-- The laws of the policy machine.
use Rattle.std.specs.Prelude.{◌≡◌, ◌≢◌, ◌<◌, ◌≤◌, ◌↔◌, ℕ, List, [], ◌∷◌, ◌++◌, length, true, false, Some, None, Ok, codes, slice_get, IsTrue, All}
use Rattle.nal_term.specs.Trees.{TermTree, FormulaTree}
use Rattle.nal_term.specs.Free.{IsClosed, IsClosedBut, IsClosedTerm}
use Rattle.nal_parse.specs.Canonical.{FormulaFits, TermFits}
use Rattle.proof_lines.specs.Lines.{LineTree}
use Rattle.proof_text.specs.CanonicalProof.{ProofFits}
use Rattle.object_table.specs.Objects.{number_of}
use Rattle.proof_store.specs.Cases.{CaseRow, number_of as case_number}
use Rattle.label_store.specs.LabelRows.{LabelRow}
use Rattle.nal_rules.specs.declared.verdicts.Verdict.{Verdict}
use Rattle.policy_history.specs.declared.heads.Head.{Head}
use Rattle.policy_history.specs.declared.events.Refusal.{Refusal}
use Rattle.policy_history.specs.declared.events.Refusal.TheVariants.{NoSuchPrincipal, NotYourPrincipal, NoSuchLabel, NotHolder, NoSuchObject, NameTaken, NotOwner, NoGoal, NoSuchProof, NoBinding, BadPort, BadFormula, BadProof, Quota, JournalFull, ObjectsFull, CasesFull, NotRecorded}
use Rattle.policy_history.specs.Events.{EventTree, EntryTree}
use Rattle.policy_history.specs.States.{State}
use Rattle.policy_history.specs.Machine.{applies, refusal_of, step, replay, is_stated, is_statement, is_goal_formula, is_proof}
use Rattle.policy_history.specs.Judged.{IsRight, IsUntouched, object_region, store_region}

-- the number of a refusal
abbrev pub refusal_number : Refusal → ℕ
refusal_number NoSuchPrincipal = 4
refusal_number NotYourPrincipal = 5
refusal_number NoSuchLabel = 6
refusal_number NotHolder = 7
refusal_number NoSuchObject = 8
refusal_number NameTaken = 9
refusal_number NotOwner = 10
refusal_number NoGoal = 11
refusal_number NoSuchProof = 12
refusal_number NoBinding = 13
refusal_number BadPort = 14
refusal_number BadFormula = 15
refusal_number BadProof = 16
refusal_number Quota = 17
refusal_number ObjectsFull = 18
refusal_number CasesFull = 19
refusal_number NotRecorded = 20
refusal_number JournalFull = 22

-- the order in which the refusals of an event are tried: that of their numbers, but `JournalFull` comes behind `Quota`
abbrev pub refusal_rank : Refusal → ℕ
refusal_rank JournalFull = 18
refusal_rank ObjectsFull = 19
refusal_rank CasesFull = 20
refusal_rank NotRecorded = 21
refusal_rank refusal = refusal_number refusal

-- an event is refused with the first refusal in this order that applies to it, and with no other
abbrev pub FirstRefusal : Type 0
FirstRefusal =
    (h : Head) (s : State) (session p : ℕ) (e : EventTree) (refusal : Refusal)
    → (refusal_of h s session p e ≡ Some refusal)
    ↔ ((applies h s session p e refusal ≡ true) × ((other : Refusal) → refusal_rank other < refusal_rank refusal → applies h s session p e other ≡ false))

-- an event is accepted exactly where no refusal applies to it
abbrev pub AcceptedElse : Type 0
AcceptedElse =
    (h : Head) (s : State) (session p : ℕ) (e : EventTree)
    → (refusal_of h s session p e ≡ None) ↔ ((refusal : Refusal) → applies h s session p e refusal ≡ false)

-- the journal is full before there are as many cases as there may be
abbrev pub CasesNeverFull : Type 0
CasesNeverFull = (h : Head) (es : List EntryTree) (session p : ℕ) (e : EventTree) → refusal_of h (replay h es) session p e ≢ Some CasesFull

-- what the tests of terms, formulas and proofs say
pub record PlainTests : Type 0 where
  pub terms : (t : TermTree) → IsTrue (is_stated (Some t)) ↔ (TermFits t × IsClosedTerm t)
  pub formulas : (f : FormulaTree) → IsTrue (is_statement (Some f)) ↔ (FormulaFits f × IsClosed f)
  pub goals : (f : FormulaTree) → IsTrue (is_goal_formula (Some f)) ↔ (FormulaFits f × IsClosedBut (codes "subject") f)
  pub proofs : (ls : List LineTree) → IsTrue (is_proof (Some ls)) ↔ ProofFits ls

-- one more entry that is accepted leads to the state that its step gives
abbrev pub ReplayIsByStep : Type 0
ReplayIsByStep =
    (h : Head) (es : List EntryTree) (e : EntryTree) (n : ℕ) (s : State) → e.principal < length h.principals
    → step h (replay h es) e.session e.principal e.event ≡ Ok (n, s) → replay h (es ++ e ∷ []) ≡ s

-- the rows of two cases are of the same subject, operation and object
pub record SameTriple (row other : CaseRow) : Type 0 where
  pub subject : row.0 ≡ other.0
  pub op : row.1 ≡ other.1
  pub object : row.2 ≡ other.2

-- an object keeps its number, whatever follows
abbrev pub ObjectsStay : Type 0
ObjectsStay =
    (h : Head) (es more : List EntryTree) (name : List ℕ) (k : ℕ)
    → number_of (replay h es).objects name ≡ Some k → number_of (replay h (es ++ more)).objects name ≡ Some k

-- a subject, an operation and an object keep their case number, whatever follows
abbrev pub CaseNumbersStay : Type 0
CaseNumbersStay =
    (h : Head) (es more : List EntryTree) (subject : ℕ) (op : List ℕ) (object k : ℕ)
    → case_number (replay h es).cases subject op object ≡ Some k → case_number (replay h (es ++ more)).cases subject op object ≡ Some k

-- a case keeps its subject, operation and object, whatever follows
abbrev pub CasesStay : Type 0
CasesStay =
    (h : Head) (es more : List EntryTree) (k : ℕ) (row : CaseRow) → slice_get (replay h es).cases k ≡ Some row
    → (later : CaseRow) × (slice_get (replay h (es ++ more)).cases k ≡ Some later) × SameTriple row later

-- the number of a label is at most the number of entries
abbrev pub LabelNumbers : Type 0
LabelNumbers = (h : Head) (es : List EntryTree) → All (λ (row : LabelRow). row.0 ≤ length es) (replay h es).labels

-- A verdict that was right after the first entries is right at the end of the history, where no later entry touches
-- the region of the case's object or that of its subject. The history may be any list of entries.
abbrev pub RightStays : Type 0
RightStays =
    (h : Head) (es more : List EntryTree) (k : ℕ) (verdict : Verdict) (right : IsRight h es k verdict)
    → IsUntouched h (es ++ more) (length es) (object_region right.row.2)
    → IsUntouched h (es ++ more) (length es) (store_region right.row.0)
    → IsRight h (es ++ more) k verdict
