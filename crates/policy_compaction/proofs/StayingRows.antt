-- Which rows of labels stay, where an entry says a label, gives one away or deletes one.
use Rattle.std.proofs.Common.{◌≡◌, ◌≤◌, ◌||◌, ℕ, Bool, true, false, cond, not, List, [], ◌∷◌, ◌++◌, filter, refl, sym, ap, ◌∙◌, subst, arith}
use Rattle.std.specs.Cmp.{unsigned_Decides}
use Rattle.std.specs.List.{All, list_any}
use Rattle.std.proofs.lemmas.Bool.{eq-eqb, ne_eqb}
use Rattle.std.proofs.lemmas.List.{append-nil}
use Rattle.std.proofs.lemmas.List.Elements.{filter-append}
use Rattle.label_store.specs.LabelRows.{LabelRow, has_number}
use Rattle.policy_history.specs.Events.{EntryTree, delete}
use Rattle.policy_history.specs.Rows.{alter, take_out}
use Rattle.policy_history.proofs.Soundness.{all_alter}
use Rattle.label_holdings.proofs.ForCallers.{AreFrom}
use Rattle.policy_compaction.specs.Kept.{Numbered}
use Rattle.policy_compaction.specs.Slots.{deletes}
use Rattle.policy_compaction.proofs.Led.{stays}
use Rattle.policy_compaction.proofs.MovedEntries.{entry_of}
use Rattle.policy_compaction.proofs.RenumberedRows.{IsPlacedRow, given}
use Rattle.policy_compaction.proofs.RowFilters.{alter_kept, alter_left, filter_by}

-- a row of this number stays where no later entry deletes this label
pub row_stays : (later : List EntryTree) (k : ℕ) (b : Bool) → not (list_any (deletes k) later) ≡ b → (row : LabelRow) → has_number k row ≡ true → stays later row ≡ b
row_stays later k b e row has = subst (λ (n : ℕ). not (list_any (deletes n) later) ≡ b) ((unsigned_Decides k row.0).0 has) e

-- ---- A label that is said

module _ (later : List EntryTree) (row : LabelRow) (rows : List LabelRow) where
  pub said_kept : stays later row ≡ true → filter (stays later) (rows ++ row ∷ []) ≡ filter (stays later) rows ++ row ∷ []
  said_kept kept = filter-append (stays later) rows (row ∷ []) ∙ ap (λ (ys : List LabelRow). filter (stays later) rows ++ ys) (filter_by (stays later) row [] true kept)

  pub said_left : stays later row ≡ false → filter (stays later) (rows ++ row ∷ []) ≡ filter (stays later) rows
  said_left left =
      filter-append (stays later) rows (row ∷ []) ∙ ap (λ (ys : List LabelRow). filter (stays later) rows ++ ys) (filter_by (stays later) row [] false left)
      ∙ append-nil (filter (stays later) rows)

-- ---- A label that is given away

module _ (later : List EntryTree) (k q : ℕ) (rows : List LabelRow) where
  pub given_kept : not (list_any (deletes k) later) ≡ true
      → filter (stays later) (alter (has_number k) (given q) rows) ≡ alter (has_number k) (given q) (filter (stays later) rows)
  given_kept kept = alter_kept (stays later) (has_number k) (given q) (row_stays later k true kept) (row_stays later k true kept) rows

  pub given_left : not (list_any (deletes k) later) ≡ false → filter (stays later) (alter (has_number k) (given q) rows) ≡ filter (stays later) rows
  given_left left = alter_left (stays later) (has_number k) (given q) (row_stays later k false left) (row_stays later k false left) rows

pub given_placed : (ks : List Numbered) (k q : ℕ) (rows : List LabelRow) → All (IsPlacedRow ks) rows → All (IsPlacedRow ks) (alter (has_number k) (given q) rows)
given_placed ks k q rows all = all_alter (IsPlacedRow ks) (has_number k) (given q) (λ row placed. placed) rows all

-- ---- A label that is deleted

module _ (later : List EntryTree) (session p k : ℕ) where
  abbrev deletion : List EntryTree
  deletion = entry_of session p (delete k) ∷ later

  -- a row of another number stays as it would
  apart : (row : LabelRow) → (row.0 ≡ k → ⊥) → stays deletion row ≡ stays later row
  apart row other = ap (λ (b : Bool). not (b || list_any (deletes row.0) later)) (ne_eqb row.0 k other)

  above : (es : List EntryTree) (low : ℕ) (rows : List LabelRow) → k ≤ low → AreFrom es low rows → filter (stays deletion) rows ≡ filter (stays later) rows
  above es low [] high from = refl
  above es low (row ∷ rows) high (up, r, rest) =
      filter_by (stays deletion) row rows (stays later row) (apart row (λ e. absurd (omega (arith, e, up, high))))
      ∙ ap (λ (ys : List LabelRow). cond (stays later row) (row ∷ ys) ys) (above es row.0 rows (omega (arith, high, up)) rest)

  pub deleted_left : (es : List EntryTree) (low : ℕ) (rows : List LabelRow) → AreFrom es low rows → filter (stays deletion) rows ≡ filter (stays later) (take_out (has_number k) rows)
  deleted_left es low [] from = refl
  deleted_left es low (row ∷ rows) (up, r, rest) = of (has_number k row) refl (deleted_left es row.0 rows rest)
    where
      of : (b : Bool) → has_number k row ≡ b → filter (stays deletion) rows ≡ filter (stays later) (take_out (has_number k) rows)
          → filter (stays deletion) (row ∷ rows) ≡ filter (stays later) (take_out (has_number k) (row ∷ rows))
      of true e next =
          let same : k ≡ row.0 = (unsigned_Decides k row.0).0 e in
          rw e (filter_by (stays deletion) row rows false (ap (λ (b : Bool). not (b || list_any (deletes row.0) later)) (eq-eqb row.0 k (sym same)))
          ∙ above es row.0 rows (omega (arith, same)) rest)
      of false e next =
          rw e (filter_by (stays deletion) row rows (stays later row) (apart row (λ same. absurd (cc (e, eq-eqb k row.0 (sym same)))))
          ∙ ap (λ (ys : List LabelRow). cond (stays later row) (row ∷ ys) ys) next)
