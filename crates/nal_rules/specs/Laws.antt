-- The laws of derivations.
use Rattle.std.specs.Prelude.{◌≡◌, ℕ, List, Bool, true, Contains, All}
use Rattle.nal_term.specs.Trees.{TermTree, FormulaTree, falsum, atom}
use Rattle.proof_lines.specs.Lines.{LineTree}
use Rattle.nal_rules.specs.Derivation.{Derives}
use Rattle.nal_rules.specs.Faults.{HasFault, HasLowestFault, IsFaultless, IsSays}
use Rattle.nal_rules.specs.Valuation.{truth_of}
use Rattle.nal_rules.specs.Verdicts.{CaseTree, IsVerdict}
use Rattle.nal_rules.specs.declared.verdicts.Fault.{Fault}
use Rattle.nal_rules.specs.declared.verdicts.Verdict.{Verdict}
use Rattle.nal_rules.specs.OneName.{HasOneNameScopes, IsOneNameFaultless, OneNameDerives}

-- what is in the first list is in the second
abbrev pub IsPartOf : List FormulaTree → List FormulaTree → Type 0
IsPartOf fs gs = (f : FormulaTree) → Contains fs f → Contains gs f

-- what follows from labels and answers follows from more of them
abbrev pub Weakening : Type 0
Weakening =
    (labels more_labels answers more_answers : List FormulaTree) (f : FormulaTree) → IsPartOf labels more_labels → IsPartOf answers more_answers
    → Derives labels answers f → Derives more_labels more_answers f

-- what follows from statements of principals alone is true where all that is said is
abbrev pub Soundness : Type 0
Soundness =
    (labels answers : List FormulaTree) (f : FormulaTree) → All IsSays labels → All IsSays answers → Derives labels answers f → truth_of f ≡ true

-- no falsehood follows from statements of principals alone
abbrev pub Consistency : Type 0
Consistency =
    (labels answers : List FormulaTree) → All IsSays labels → All IsSays answers → ¬ Derives labels answers falsum

-- no atom follows from statements of principals alone
abbrev pub NoAtomFollows : Type 0
NoAtomFollows =
    (labels answers : List FormulaTree) (p : List ℕ) (ts : List TermTree) → All IsSays labels → All IsSays answers → ¬ Derives labels answers (atom p ts)

-- what follows by the older rules follows by these
abbrev pub OlderDerivationsStand : Type 0
OlderDerivationsStand =
    (labels answers : List FormulaTree) (f : FormulaTree) → OneNameDerives labels answers f → Derives labels answers f

-- a proof whose scopes are of one name, and that has no fault under the older rules, has none under these
abbrev pub OlderProofsStand : Type 0
OlderProofsStand =
    (proof : List LineTree) (goal : FormulaTree) → All (λ l. HasOneNameScopes l.formula) proof → ((k : ℕ) → IsOneNameFaultless proof goal k)
    → (k : ℕ) → IsFaultless proof goal k

-- a line has one fault
abbrev pub OneFault : Type 0
OneFault = (proof : List LineTree) (goal : FormulaTree) (k : ℕ) (a b : Fault) → HasFault proof goal k a → HasFault proof goal k b → a ≡ b

-- a proof has one lowest fault
abbrev pub OneLowestFault : Type 0
OneLowestFault =
    (proof : List LineTree) (goal : FormulaTree) (j k : ℕ) (a b : Fault) → HasLowestFault proof goal j a → HasLowestFault proof goal k b → (j ≡ k) × (a ≡ b)

-- a case has one verdict
abbrev pub OneVerdict : Type 0
OneVerdict = (c : CaseTree) (answers : List Bool) (v w : Verdict) → IsVerdict c answers v → IsVerdict c answers w → v ≡ w
