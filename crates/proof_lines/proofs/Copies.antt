-- What lists of lines with the same plain values have in common.
use Rattle.std.proofs.Common.{◌≡◌, ◌≤◌, ℕ, zero, suc, List, [], ◌∷◌, length, All, take, take_all, refl, ap, ◌∙◌, arith}
use Rattle.proof_lines.specs.declared.lines.Line.{Line}
use Rattle.proof_lines.specs.Lines.{HasRuleForm, LineTree, line_tree, line_trees}

pub same_length : (xs ys : List Line) → line_trees xs ≡ line_trees ys → length xs ≡ length ys
same_length [] [] e = refl
same_length (x ∷ xs) (y ∷ ys) e = ap suc (same_length xs ys (others e))
  where
    others : {t u : LineTree} {ts us : List LineTree} → t ∷ ts ≡ u ∷ us → ts ≡ us
    others e = cc
same_length [] (y ∷ ys) e = cc
same_length (x ∷ xs) [] e = cc

-- the form of a line is that of its plain value
pub same_form : (xs ys : List Line) → line_trees xs ≡ line_trees ys → All (λ l. HasRuleForm (line_tree l)) ys → All (λ l. HasRuleForm (line_tree l)) xs
same_form [] ys e all k d h = absurd (omega arith)
same_form (x ∷ xs) [] e all k d h = cc
same_form (x ∷ xs) (y ∷ ys) e all zero d h = let q : line_tree x ≡ line_tree y = cc in rw q (all zero y (omega arith))
same_form (x ∷ xs) (y ∷ ys) e all (suc k) d h = same_form xs ys (let q : line_trees xs ≡ line_trees ys = cc in q) (λ j b i. all (suc j) b (omega arith)) k d (omega arith)

-- a copy of all lines has the form of a proof
pub copied : (xs ys : List Line) (i : ℕ) → line_trees xs ≡ line_trees (take i ys) → length ys ≤ i → (length ys ≤ 256) × All (λ l. HasRuleForm (line_tree l)) ys
    → (length xs ≤ 256) × All (λ l. HasRuleForm (line_tree l)) xs
copied xs ys i e h all =
    let q : line_trees xs ≡ line_trees ys = e ∙ ap line_trees (take_all i ys h) in
    (omega (arith, same_length xs ys q, all.0), same_form xs ys q all.1)
