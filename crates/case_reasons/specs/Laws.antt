-- What an explained call has to do with a record of it.
use Rattle.std.specs.Prelude.{◌≡◌, ◌↔◌, ℕ, List, [], Bool, Option, Some, None, length, take}
use Rattle.nal_term.specs.Trees.{formula_tree}
use Rattle.proof_lines.specs.Lines.{line_trees}
use Rattle.nal_rules.specs.Asking.{Asked, IsAsked}
use Rattle.object_table.specs.Objects.{number_of}
use Rattle.policy_history.specs.declared.heads.Head.{Head}
use Rattle.policy_history.specs.Events.{EntryTree}
use Rattle.policy_history.specs.Judged.{case_at}
use Rattle.policy_history.specs.Machine.{replay}
use Rattle.audit_check.specs.declared.records.Answers.TheVariants.{Known as GivenAnswers}
use Rattle.audit_check.specs.declared.records.Record.{Record}
use Rattle.audit_check.specs.declared.records.Recorded.{Recorded}
use Rattle.audit_check.specs.declared.records.Recorded.TheVariants.{NoObject as NoSuchObject, Told}
use Rattle.audit_check.specs.Records.{IsRightRecord}
use Rattle.case_reasons.specs.declared.explanations.Explained.{Explained}
use Rattle.case_reasons.specs.declared.explanations.Explained.TheVariants.{NoObject, Known}
use Rattle.case_reasons.specs.declared.explanations.Explanation.{Explanation}
use Rattle.case_reasons.specs.declared.explanations.GoalReason.{GoalReason}
use Rattle.case_reasons.specs.declared.explanations.ProofReason.{ProofReason}
use Rattle.case_reasons.specs.Explanations.{IsExplained}

-- what a record of an explained call tells
abbrev pub recorded_of : Explained → Recorded
recorded_of NoObject = NoSuchObject
recorded_of (Known x) = Told x.verdict

-- the record is of this call at this point, with these answers
pub record IsRecordOf (point p : ℕ) (op object : List ℕ) (answers : List Bool) (r : Record) : Type 0 where
  pub at : r.at ≡ point
  pub principal : r.principal ≡ p
  pub op_is : r.op ≡ op
  pub object_is : r.object ≡ object
  pub answers_are : r.answers ≡ GivenAnswers answers

-- just as many answers are given as are asked for; none where no object has the name
abbrev pub AreAsked : Head → List EntryTree → ℕ → List ℕ → List Bool → Option ℕ → Type 0
AreAsked h es p op answers None = answers ≡ []
AreAsked h es p op answers (Some number) = (asks : List Asked) × IsAsked (case_at h (replay h es) p op number) answers asks × (length asks ≡ length answers)

-- a record of a call that is explained at a point of a history is right there where it tells what the explanation does, and only then
abbrev pub ExplainedAreRecorded : Type 0
ExplainedAreRecorded =
    (h : Head) (es : List EntryTree) (point p : ℕ) (op object : List ℕ) (answers : List Bool) (x : Explained) (r : Record)
    → IsExplained h (take point es) p op object answers x → IsRecordOf point p op object answers r
    → AreAsked h (take point es) p op answers (number_of (replay h (take point es)).objects object)
    → IsRightRecord h es r ↔ (r.verdict ≡ recorded_of x)

-- two explanations tell the same of a goal: the entry and the formula
abbrev pub SameGoal : Option GoalReason → Option GoalReason → Type 0
SameGoal None None = Unit {0}
SameGoal (Some a) (Some b) = (a.entry ≡ b.entry) × (formula_tree a.goal ≡ formula_tree b.goal)
SameGoal _ _ = ⊥

-- and of a proof: the entry, the lines, and the reason of each
abbrev pub SameProof : Option ProofReason → Option ProofReason → Type 0
SameProof None None = Unit {0}
SameProof (Some a) (Some b) = (a.entry ≡ b.entry) × (line_trees a.proof ≡ line_trees b.proof) × (a.lines.items ≡ b.lines.items)
SameProof _ _ = ⊥

-- two explanations tell the same
pub record SameExplanation (a b : Explanation) : Type 0 where
  pub verdict : a.verdict ≡ b.verdict
  pub object_reason : a.object ≡ b.object
  pub goal_reason : SameGoal a.goal b.goal
  pub proof_reason : SameProof a.proof b.proof

abbrev pub SameExplained : Explained → Explained → Type 0
SameExplained NoObject NoObject = Unit {0}
SameExplained (Known a) (Known b) = SameExplanation a b
SameExplained _ _ = ⊥

-- a call has one explanation with these answers
abbrev pub OneExplanation : Type 0
OneExplanation =
    (h : Head) (es : List EntryTree) (p : ℕ) (op object : List ℕ) (answers : List Bool) (x y : Explained)
    → IsExplained h es p op object answers x → IsExplained h es p op object answers y → SameExplained x y
