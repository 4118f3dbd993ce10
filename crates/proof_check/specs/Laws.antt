-- The laws of proofs, and of cases that are allowed.
use Rattle.std.specs.Prelude.{◌≡◌, ◌≢◌, ℕ, List, [], Bool, true, Some, All}
use Rattle.nal_term.specs.Trees.{FormulaTree}
use Rattle.proof_lines.specs.Lines.{LineTree}
use Rattle.nal_rules.specs.Derivation.{Derives}
use Rattle.nal_rules.specs.Faults.{IsFaultless, formulas_where, is_ask, is_label}
use Rattle.nal_rules.specs.Asking.{Asked, IsAsked}
use Rattle.nal_rules.specs.Verdicts.{CaseTree, IsVerdict}
use Rattle.nal_rules.specs.declared.verdicts.Verdict.TheVariants.{Allowed}

-- where no line of a proof has a fault, its goal follows from its label lines and its ask lines
abbrev pub FaultlessProofsDerive : Type 0
FaultlessProofsDerive =
    (lines : List LineTree) (goal : FormulaTree) → lines ≢ [] → ((k : ℕ) → IsFaultless lines goal k)
    → Derives (formulas_where is_label lines) (formulas_where is_ask lines) goal

-- what an allowed case has: its goal follows from its labels and from the formulas of its proof's ask lines, and all
-- that was asked was answered Yes
pub record IsSupported (c : CaseTree) (asks : List Asked) : Type 0 where
  pub goal : FormulaTree
  pub proof : List LineTree
  pub goal_is : c.goal ≡ Some goal
  pub proof_is : c.proof ≡ Some proof
  pub derived : Derives c.labels (formulas_where is_ask proof) goal
  pub affirmed : All (λ (a : Asked). a.affirmed ≡ true) asks

-- a case that is allowed has it
abbrev pub AllowedCasesDerive : Type 0
AllowedCasesDerive = (c : CaseTree) (answers : List Bool) (asks : List Asked) → IsVerdict c answers Allowed → IsAsked c answers asks → IsSupported c asks
