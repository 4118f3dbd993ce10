-- Why a call has its verdict at the end of a history.
use Rattle.std.specs.Prelude.{◌≡◌, ℕ, List, Bool, Option, Some, None}
use Rattle.proof_lines.specs.Lines.{line_trees}
use Rattle.nal_rules.specs.Verdicts.{IsVerdict}
use Rattle.object_table.specs.Objects.{number_of}
use Rattle.policy_history.specs.declared.heads.Head.{Head}
use Rattle.policy_history.specs.Events.{EntryTree}
use Rattle.policy_history.specs.Judged.{case_at, proof_for}
use Rattle.policy_history.specs.Machine.{replay}
use Rattle.case_reasons.specs.declared.explanations.Explained.{Explained}
use Rattle.case_reasons.specs.declared.explanations.Explained.TheVariants.{NoObject, Known}
use Rattle.case_reasons.specs.declared.explanations.Explanation.{Explanation}
use Rattle.case_reasons.specs.declared.explanations.ProofReason.{ProofReason}
use Rattle.case_reasons.specs.LineReasons.{AreLineReasons}
use Rattle.case_reasons.specs.Origins.{IsGoalReason, IsObjectReason, IsRegisteredBy}

-- what is told of the caller's proof: the entry that registered it, and on what each of its lines rests; or that there is none
abbrev pub IsProofReason : Head → List EntryTree → ℕ → List ℕ → List ℕ → ℕ → List Bool → Option ProofReason → Type 0
IsProofReason h es p op object number answers None = proof_for (replay h es) p op number ≡ None
IsProofReason h es p op object number answers (Some r) =
    IsRegisteredBy h es p op object number r × AreLineReasons h es p (case_at h (replay h es) p op number) answers (line_trees r.proof) r.lines.items

-- the verdict on the case of principal p with these answers, a missing one being No, and what it comes from; the object has this number
pub record IsExplanation (h : Head) (es : List EntryTree) (p : ℕ) (op object : List ℕ) (answers : List Bool) (number : ℕ) (x : Explanation) : Type 0 where
  pub verdict : IsVerdict (case_at h (replay h es) p op number) answers x.verdict
  pub object_reason : IsObjectReason h es object number x.object
  pub goal_reason : IsGoalReason h es p op object number x.goal
  pub proof_reason : IsProofReason h es p op object number answers x.proof

-- why principal p gets its verdict on this operation and the object with this name
abbrev pub IsExplained : Head → List EntryTree → ℕ → List ℕ → List ℕ → List Bool → Explained → Type 0
IsExplained h es p op object answers NoObject = number_of (replay h es).objects object ≡ None
IsExplained h es p op object answers (Known x) = (number : ℕ) × (number_of (replay h es).objects object ≡ Some number) × IsExplanation h es p op object answers number x
