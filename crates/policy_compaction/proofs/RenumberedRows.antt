-- Rows of labels under their new numbers.
use Rattle.std.proofs.Common.{◌≡◌, ◌<◌, ◌≤◌, ◌⊎◌, inl, inr, ℕ, Bool, true, false, cond, List, [], ◌∷◌, filter, map, nat_eq, Option, Some, None, option_map, refl, sym, ap, ◌∙◌, subst, arith}
use Rattle.std.specs.Cmp.{unsigned_Decides}
use Rattle.std.specs.List.{All, find}
use Rattle.std.proofs.lemmas.Bool.{cases_lt, eq-eqb, ne_eqb}
use Rattle.std.proofs.lemmas.List.Elements.{All-head, All-tail}
use Rattle.nal_term.specs.Trees.{FormulaTree}
use Rattle.label_store.specs.LabelRows.{LabelRow, has_number, holder_of, labels_of}
use Rattle.policy_history.specs.Rows.{alter}
use Rattle.policy_compaction.specs.Kept.{Numbered, new_number}
use Rattle.case_reasons.proofs.ForCallers.{alter_by, find_by}

-- label k has a new number of its own, which is no greater than k
pub record IsPlaced (ks : List Numbered) (k : ℕ) : Type 0 where
  pub low : new_number ks k ≤ k
  pub above : (j : ℕ) → j < k → new_number ks j < new_number ks k

abbrev pub renumbered_row : List Numbered → LabelRow → LabelRow
renumbered_row ks row = (new_number ks row.0, row.1, row.2)

-- a row that is given to q
abbrev pub given : ℕ → LabelRow → LabelRow
given q row = (row.0, q, row.2)

-- it is a label of p
abbrev is_of : ℕ → LabelRow → Bool
is_of p row = nat_eq p row.1

module _ (ks : List Numbered) where
  abbrev new : ℕ → ℕ
  new = new_number ks

  abbrev pub IsPlacedRow : LabelRow → Type 0
  IsPlacedRow row = IsPlaced ks row.0

  -- two labels have one new number where they are one
  same_new : (k j : ℕ) → IsPlaced ks k → IsPlaced ks j → (b : Bool) → nat_eq k j ≡ b → nat_eq (new k) (new j) ≡ b
  same_new k j a c true e = eq-eqb (new k) (new j) (ap new ((unsigned_Decides k j).0 e))
  same_new k j a c false e = ne_eqb (new k) (new j) (λ same. of same (cases_lt k j))
    where
      of : new k ≡ new j → (k < j) ⊎ (j ≤ k) → ⊥
      of same (inl low) = let up = c.above k low in absurd (omega (arith, up, same))
      of same (inr high) = either same (cases_lt j k) high
        where
          either : new k ≡ new j → (j < k) ⊎ (k ≤ j) → j ≤ k → ⊥
          either same (inl low) high = let up = a.above j low in absurd (omega (arith, up, same))
          either same (inr low) high = let one : k ≡ j = omega (arith, low, high) in absurd (cc (eq-eqb k j one, e))

  pub find_renumbered : (k : ℕ) → IsPlaced ks k → (rows : List LabelRow) → All IsPlacedRow rows
      → find (has_number (new k)) (map (renumbered_row ks) rows) ≡ option_map (renumbered_row ks) (find (has_number k) rows)
  find_renumbered k placed [] all = refl
  find_renumbered k placed (row ∷ rows) all = of (has_number k row) refl (find_renumbered k placed rows (All-tail IsPlacedRow row rows all))
    where
      of : (b : Bool) → has_number k row ≡ b → find (has_number (new k)) (map (renumbered_row ks) rows) ≡ option_map (renumbered_row ks) (find (has_number k) rows)
          → find (has_number (new k)) (map (renumbered_row ks) (row ∷ rows)) ≡ option_map (renumbered_row ks) (find (has_number k) (row ∷ rows))
      of true e rest =
          find_by (has_number (new k)) (renumbered_row ks row) (map (renumbered_row ks) rows) true (same_new k row.0 placed (All-head IsPlacedRow row rows all) true e)
          ∙ ap (option_map (renumbered_row ks)) (sym (find_by (has_number k) row rows true e))
      of false e rest =
          find_by (has_number (new k)) (renumbered_row ks row) (map (renumbered_row ks) rows) false (same_new k row.0 placed (All-head IsPlacedRow row rows all) false e)
          ∙ rest ∙ ap (option_map (renumbered_row ks)) (sym (find_by (has_number k) row rows false e))

  pub holder_renumbered : (k : ℕ) → IsPlaced ks k → (rows : List LabelRow) → All IsPlacedRow rows → holder_of (map (renumbered_row ks) rows) (new k) ≡ holder_of rows k
  holder_renumbered k placed rows all = ap (option_map (λ (row : LabelRow). row.1)) (find_renumbered k placed rows all) ∙ one (find (has_number k) rows)
    where
      one : (o : Option LabelRow) → option_map (λ (row : LabelRow). row.1) (option_map (renumbered_row ks) o) ≡ option_map (λ (row : LabelRow). row.1) o
      one None = refl
      one (Some row) = refl

  pub alter_renumbered : (k q : ℕ) → IsPlaced ks k → (rows : List LabelRow) → All IsPlacedRow rows
      → alter (has_number (new k)) (given q) (map (renumbered_row ks) rows) ≡ map (renumbered_row ks) (alter (has_number k) (given q) rows)
  alter_renumbered k q placed [] all = refl
  alter_renumbered k q placed (row ∷ rows) all = of (has_number k row) refl (alter_renumbered k q placed rows (All-tail IsPlacedRow row rows all))
    where
      of : (b : Bool) → has_number k row ≡ b → alter (has_number (new k)) (given q) (map (renumbered_row ks) rows) ≡ map (renumbered_row ks) (alter (has_number k) (given q) rows)
          → alter (has_number (new k)) (given q) (map (renumbered_row ks) (row ∷ rows)) ≡ map (renumbered_row ks) (alter (has_number k) (given q) (row ∷ rows))
      of true e rest =
          alter_by (has_number (new k)) (given q) (renumbered_row ks row) (map (renumbered_row ks) rows) true (same_new k row.0 placed (All-head IsPlacedRow row rows all) true e)
          ∙ ap (map (renumbered_row ks)) (sym (alter_by (has_number k) (given q) row rows true e))
      of false e rest =
          alter_by (has_number (new k)) (given q) (renumbered_row ks row) (map (renumbered_row ks) rows) false (same_new k row.0 placed (All-head IsPlacedRow row rows all) false e)
          ∙ ap (λ (ys : List LabelRow). renumbered_row ks row ∷ ys) rest ∙ ap (map (renumbered_row ks)) (sym (alter_by (has_number k) (given q) row rows false e))

  -- who holds what does not rest on the numbers
  pub labels_renumbered : (p : ℕ) (rows : List LabelRow) → labels_of (map (renumbered_row ks) rows) p ≡ labels_of rows p
  labels_renumbered p [] = refl
  labels_renumbered p (row ∷ rows) = of (nat_eq p row.1) (labels_renumbered p rows)
    where
      of : (b : Bool) → labels_of (map (renumbered_row ks) rows) p ≡ labels_of rows p
          → map (λ (x : LabelRow). x.2) (cond b (renumbered_row ks row ∷ filter (is_of p) (map (renumbered_row ks) rows)) (filter (is_of p) (map (renumbered_row ks) rows)))
          ≡ map (λ (x : LabelRow). x.2) (cond b (row ∷ filter (is_of p) rows) (filter (is_of p) rows))
      of true rest = ap (λ (fs : List FormulaTree). row.2 ∷ fs) rest
      of false rest = rest

-- what is found is placed
pub found_placed : (ks : List Numbered) (k : ℕ) (rows : List LabelRow) (row : LabelRow) → All (IsPlacedRow ks) rows → find (has_number k) rows ≡ Some row → IsPlaced ks k
found_placed ks k [] row all found = absurd (cc found)
found_placed ks k (x ∷ rows) row all found = of (has_number k x) refl (found_placed ks k rows row (All-tail (IsPlacedRow ks) x rows all))
  where
    of : (b : Bool) → has_number k x ≡ b → (find (has_number k) rows ≡ Some row → IsPlaced ks k) → IsPlaced ks k
    of true e rest = subst (IsPlaced ks) (sym ((unsigned_Decides k x.0).0 e)) (All-head (IsPlacedRow ks) x rows all)
    of false e rest = rest (sym (find_by (has_number k) x rows false e) ∙ found)
