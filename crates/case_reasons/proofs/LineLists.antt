-- One line's reason more.
use Rattle.std.proofs.Common.{◌≡◌, ◌<◌, ◌≤◌, ◌+◌, ◌++◌, ⊎_elim, ℕ, zero, suc, List, [], ◌∷◌, length, get_or, Some, refl, sym, ap, ◌∙◌, subst, length-append, arith}
use Rattle.std.specs.List.{slice_get}
use Rattle.std.specs.Option.{option_map}
use Rattle.std.proofs.lemmas.Bool.{cases_lt}
use Rattle.std.proofs.lemmas.Option.{slice_get-map, slice_get_read, slice_get_within}
use Rattle.proof_lines.specs.declared.lines.Line.{Line}
use Rattle.proof_lines.specs.Lines.{LineTree, line_tree, line_trees}
use Rattle.nal_rules.specs.Faults.{line_at}

-- the line that is read at a place
pub line_here : (xs all : List Line) (i : ℕ) (x : Line) → xs ≡ all → i < length xs → x ≡ get_or xs i x → line_at (line_trees all) (i + 1) ≡ Some (line_tree x)
line_here xs all i x same within read =
    let number : i + 1 ≡ suc i = omega arith in
    ap (line_at (line_trees all)) number ∙ slice_get-map line_tree all i ∙ ap (option_map line_tree) (ap (λ (ys : List Line). slice_get ys i) (sym same) ∙ slice_get_read xs (length xs) i x refl within read)

module _ {X : Type 0} where
  before_last : (xs : List X) (x : X) (i : ℕ) → i < length xs → slice_get (xs ++ x ∷ []) i ≡ slice_get xs i
  before_last [] x i within = absurd (omega (arith, within))
  before_last (y ∷ xs) x zero within = refl
  before_last (y ∷ xs) x (suc i) within = before_last xs x i (omega (arith, within))

  at_last : (xs : List X) (x : X) → slice_get (xs ++ x ∷ []) (length xs) ≡ Some x
  at_last [] x = refl
  at_last (y ∷ xs) x = at_last xs x

  -- what holds of each, and of one more
  pub each_more : (Fact : ℕ → LineTree → X → Type 0) (lines : List LineTree) (xs : List X) (x : X) (line : LineTree) (n : ℕ) → length xs ≡ n → slice_get lines n ≡ Some line → Fact (n + 1) line x
      → ((i : ℕ) (l : LineTree) (y : X) → slice_get lines i ≡ Some l → slice_get xs i ≡ Some y → Fact (i + 1) l y)
      → (i : ℕ) (l : LineTree) (y : X) → slice_get lines i ≡ Some l → slice_get (xs ++ x ∷ []) i ≡ Some y → Fact (i + 1) l y
  each_more Fact lines xs x line n count here fact each i l y stands at = ⊎_elim earlier (λ (high : n ≤ i). now (omega (arith, high, most))) (cases_lt i n)
    where
      more : length (xs ++ x ∷ []) ≡ length xs + 1
      more = length-append xs (x ∷ [])

      most : i < n + 1
      most = let within = slice_get_within (xs ++ x ∷ []) i y at in let longer = more in omega (arith, within, longer, count)

      earlier : i < n → Fact (i + 1) l y
      earlier low = each i l y stands (sym (before_last xs x i (omega (arith, low, count))) ∙ at)

      same_some : {A : Type 0} {p q : A} → Some p ≡ Some q → p ≡ q
      same_some s = cc

      now : i ≡ n → Fact (i + 1) l y
      now same =
          let line_is : line ≡ l = same_some (sym here ∙ ap (slice_get lines) (sym same) ∙ stands) in
          let item_is : x ≡ y = same_some (sym (at_last xs x) ∙ ap (slice_get (xs ++ x ∷ [])) (count ∙ sym same) ∙ at) in
          subst (λ (z : X). Fact (i + 1) l z) item_is (subst (λ (z : LineTree). Fact (i + 1) z x) line_is (subst (λ (j : ℕ). Fact (j + 1) line x) (sym same) fact))
