-- Laws of records.
use Rattle.std.specs.Prelude.{◌≡◌, ◌≢◌, ◌↔◌, ◌++◌, ◌∷◌, ℕ, List, [], Bool, true, false, Some, filter, length, replicate}
use Rattle.nal_term.specs.Trees.{FormulaTree}
use Rattle.proof_lines.specs.Lines.{LineTree}
use Rattle.nal_rules.specs.Asking.{lines_of}
use Rattle.nal_rules.specs.Derivation.{Derives}
use Rattle.nal_rules.specs.Faults.{formulas_where, is_ask}
use Rattle.nal_rules.specs.Verdicts.{CaseTree, IsVerdict}
use Rattle.nal_rules.specs.declared.verdicts.Cause.TheVariants.{AuthorityNo}
use Rattle.nal_rules.specs.declared.verdicts.Verdict.{Verdict}
use Rattle.nal_rules.specs.declared.verdicts.Verdict.TheVariants.{Allowed, Denied}
use Rattle.audit_check.specs.declared.records.Answers.{Answers}
use Rattle.audit_check.specs.declared.records.Answers.TheVariants.{Known, Unknown}
use Rattle.audit_check.specs.declared.records.Recorded.TheVariants.{Told, Down}
use Rattle.audit_check.specs.Records.{IsRightOf, yes_before}

-- a Yes for each ask line
abbrev pub all_yes : CaseTree → List Bool
all_yes c = replicate (length (filter is_ask (lines_of c))) true

-- What comes of answers that are not known. `Allowed` is right where it is the verdict with each answer Yes; that authority k said
-- No where it is the verdict with that No and a Yes before for each ask; that it was down where it is with these Yes; and every
-- other verdict where it is without an answer.
pub record UnknownAnswers : Type 0 where
  pub allowed : (c : CaseTree) → IsRightOf c Unknown (Told Allowed) ↔ IsVerdict c (all_yes c) Allowed
  pub refused : (c : CaseTree) (k : ℕ) → IsRightOf c Unknown (Told (Denied (AuthorityNo k))) ↔ IsVerdict c (yes_before (lines_of c) k ++ false ∷ []) (Denied (AuthorityNo k))
  pub down : (c : CaseTree) (k : ℕ) → IsRightOf c Unknown (Down k) ↔ IsRightOf c (Known (yes_before (lines_of c) k)) (Down k)
  pub other : (c : CaseTree) (verdict : Verdict) → verdict ≢ Allowed → ((k : ℕ) → verdict ≢ Denied (AuthorityNo k))
      → IsRightOf c Unknown (Told verdict) ↔ IsRightOf c (Known []) (Told verdict)

-- where a recorded `Allowed` is right, the goal follows from the labels of the case and the formulas of its ask lines
abbrev pub RightAllowedDerives : Type 0
RightAllowedDerives =
    (c : CaseTree) (given : Answers) → IsRightOf c given (Told Allowed)
    → (goal : FormulaTree) × (proof : List LineTree) × (c.goal ≡ Some goal) × (c.proof ≡ Some proof) × Derives c.labels (formulas_where is_ask proof) goal
