-- Lines fit where the first does and the others do.
use Rattle.std.proofs.Common.{◌≡◌, ◌↔◌, zero, suc, List, ◌∷◌, Bool, false, IsTrue, All, arith}
use Rattle.std.proofs.lemmas.List.Elements.{All-cons}
use Rattle.proof_lines.specs.declared.lines.Line.{Line}
use Rattle.proof_lines.specs.Lines.{line_tree, line_trees}
use Rattle.proof_text.specs.CanonicalProof.{LineFits}

pub first_fits : (x : Line) (xs all : List Line) (b : Bool) → all ≡ x ∷ xs → LineFits (line_tree x) → (IsTrue b ↔ All LineFits (line_trees xs)) → IsTrue b ↔ All LineFits (line_trees all)
first_fits x xs all b e first rest = rw e (
  (λ h. All-cons LineFits (line_tree x) (line_trees xs) first (rest.0 h)),
  (λ h. rest.1 (λ k d i. h (suc k) d (omega arith))),
)

pub first_unfit : (x : Line) (xs all : List Line) (b : Bool) → all ≡ x ∷ xs → b ≡ false → (IsTrue b ↔ LineFits (line_tree x)) → IsTrue b ↔ All LineFits (line_trees all)
first_unfit x xs all b e refused first = rw e (
  (λ h. cc),
  (λ h. first.1 (h zero (line_tree x) (omega arith))),
)
