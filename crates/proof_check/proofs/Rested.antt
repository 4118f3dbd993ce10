-- Formulas on whose hypotheses a line rests.
use Rattle.std.proofs.Common.{◌≡◌, ℕ, ◌<◌, List, [], ◌∷◌, ◌++◌, Option, Some, None}
use Rattle.std.specs.List.{Contains}
use Rattle.nal_term.specs.Trees.{FormulaTree}
use Rattle.proof_lines.specs.Lines.{LineTree}
use Rattle.nal_rules.specs.Derivation.{TakesOut, nothing, takes, leaves}
use Rattle.nal_rules.specs.Faults.{line_at, formula_at, supports_of, RestsOn, through}

-- the formula is that of a hypothesis on which line j rests, and which is not discharged
abbrev pub IsRested : List LineTree → ℕ → Option ℕ → FormulaTree → Type 0
IsRested lines j discharged g = (h : ℕ) × RestsOn lines j h × (formula_at lines h ≡ Some g) × (discharged ≡ Some h → ⊥)

-- each of the formulas is
abbrev pub AreRested : List LineTree → ℕ → Option ℕ → List FormulaTree → Type 0
AreRested lines j discharged [] = Unit {0}
AreRested lines j discharged (g ∷ gs) = IsRested lines j discharged g × AreRested lines j discharged gs

pub rested_append : (lines : List LineTree) (j : ℕ) (discharged : Option ℕ) (xs ys : List FormulaTree) → AreRested lines j discharged xs → AreRested lines j discharged ys → AreRested lines j discharged (xs ++ ys)
rested_append lines j discharged [] ys a b = b
rested_append lines j discharged (x ∷ xs) ys a b = (a.0, rested_append lines j discharged xs ys a.1 b)

-- what a line rests on through a reference, it rests on
pub rested_through : (lines : List LineTree) (k : ℕ) (l : LineTree) → line_at lines k ≡ Some l → (j : ℕ) (discharged : Option ℕ) → Contains (supports_of l.rule l.refs) (j, discharged) → j < k
    → (xs : List FormulaTree) → AreRested lines j discharged xs → AreRested lines k None xs
rested_through lines k l stands j discharged named earlier [] a = tt
rested_through lines k l stands j discharged named earlier (x ∷ xs) ((h, rests, reads, kept), a) =
    ((h, through stands named earlier rests kept, reads, (λ e. cc e)), rested_through lines k l stands j discharged named earlier xs a)

-- what is left where the formula of a hypothesis is taken out rests on others
pub rested_taken : (lines : List LineTree) (j h : ℕ) (a : FormulaTree) → formula_at lines h ≡ Some a → {xs ys : List FormulaTree} → TakesOut a xs ys → AreRested lines j None xs → AreRested lines j (Some h) ys
rested_taken lines j h a reads nothing r = tt
rested_taken lines j h a reads (takes t) r = rested_taken lines j h a reads t r.1
rested_taken lines j h a reads (leaves n t) ((i, rests, other, kept), r) =
    ((i, rests, other, (λ e. n (cc (e, reads, other)))), rested_taken lines j h a reads t r)
