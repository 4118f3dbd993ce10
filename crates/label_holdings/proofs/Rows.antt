-- The rows of labels: their numbers rise, and each is what the entry of its number said.
use Rattle.std.proofs.Common.{◌≡◌, ◌<◌, ◌≤◌, ◌+◌, ℕ, zero, suc, List, [], ◌∷◌, ◌++◌, length, Bool, true, false, cond, Option, Some, None, option_map, refl, ap, ◌∙◌, subst, arith}
use Rattle.std.specs.Cmp.{unsigned_Decides}
use Rattle.std.specs.List.{find, slice_get}
use Rattle.std.proofs.lemmas.Bool.{ne_eqb}
use Rattle.std.proofs.lemmas.List.Folds.{find-append}
use Rattle.nal_term.specs.Trees.{FormulaTree}
use Rattle.label_store.specs.LabelRows.{LabelRow, has_number}
use Rattle.policy_history.specs.Events.{EntryTree}
use Rattle.policy_history.specs.Rows.{alter, take_out}
use Rattle.label_holdings.specs.Entries.{entry_at}
use Rattle.label_holdings.specs.Holdings.{label_of}
use Rattle.label_holdings.proofs.Places.{entry_last, entry_more, entry_within}

pub same_number : (k : ℕ) (row : LabelRow) → has_number k row ≡ true → k ≡ row.0
same_number k row e = (unsigned_Decides k row.0).0 e

pub number_passes : (k : ℕ) (row : LabelRow) → k ≡ row.0 → has_number k row ≡ true
number_passes k row e = (unsigned_Decides k row.0).1 e

pub other_number : (k : ℕ) (row : LabelRow) → (k ≡ row.0 → ⊥) → has_number k row ≡ false
other_number k row apart = ne_eqb k row.0 apart

-- the row is what the entry of its number said
pub record IsFrom (es : List EntryTree) (row : LabelRow) : Type 0 where
  pub entry : EntryTree
  pub stands : entry_at es row.0 ≡ Some entry
  pub said : label_of entry.event ≡ Some row.2

-- the numbers rise, the first from above `low`, and each row is from its entry
abbrev pub AreFrom : List EntryTree → ℕ → List LabelRow → Type 0
AreFrom es low [] = Unit {0}
AreFrom es low (row ∷ rows) = (low < row.0) × IsFrom es row × AreFrom es row.0 rows

-- ---- What an entry does to the rows

lower : (es : List EntryTree) (low under : ℕ) (rows : List LabelRow) → under ≤ low → AreFrom es low rows → AreFrom es under rows
lower es low under [] h from = tt
lower es low under (row ∷ rows) h (up, r, rest) = (omega (arith, h, up), r, rest)

from_more : (es : List EntryTree) (e : EntryTree) (row : LabelRow) → IsFrom es row → IsFrom (es ++ e ∷ []) row
from_more es e row r = record { entry = r.entry; stands = entry_more es row.0 e r.entry r.stands; said = r.said }

pub rows_more : (es : List EntryTree) (e : EntryTree) (low : ℕ) (rows : List LabelRow) → AreFrom es low rows → AreFrom (es ++ e ∷ []) low rows
rows_more es e low [] from = tt
rows_more es e low (row ∷ rows) (up, r, rest) = (up, from_more es e row r, rows_more es e row.0 rows rest)

pub rows_said : (es : List EntryTree) (e : EntryTree) (low p : ℕ) (f : FormulaTree) (rows : List LabelRow) → low ≤ length es → label_of e.event ≡ Some f
    → AreFrom es low rows → AreFrom (es ++ e ∷ []) low (rows ++ (length es + 1, p, f) ∷ [])
rows_said es e low p f [] h said from = (omega (arith, h), record { entry = e; stands = entry_last es e; said = said }, tt)
rows_said es e low p f (row ∷ rows) h said (up, r, rest) =
    (up, from_more es e row r, rows_said es e row.0 p f rows (entry_within es row.0 r.entry r.stands).1 said rest)

pub rows_given : (es : List EntryTree) (low k q : ℕ) (rows : List LabelRow) → AreFrom es low rows → AreFrom es low (alter (has_number k) (λ (row : LabelRow). (row.0, q, row.2)) rows)
rows_given es low k q [] from = tt
rows_given es low k q (row ∷ rows) (up, r, rest) = of (has_number k row) refl (rows_given es row.0 k q rows rest)
  where
    of : (b : Bool) → has_number k row ≡ b → AreFrom es row.0 (alter (has_number k) (λ (row : LabelRow). (row.0, q, row.2)) rows)
        → AreFrom es low (alter (has_number k) (λ (row : LabelRow). (row.0, q, row.2)) (row ∷ rows))
    of true e later = rw e (up, record { entry = r.entry; stands = r.stands; said = r.said }, rest)
    of false e later = rw e (up, r, later)

pub rows_deleted : (es : List EntryTree) (low k : ℕ) (rows : List LabelRow) → AreFrom es low rows → AreFrom es low (take_out (has_number k) rows)
rows_deleted es low k [] from = tt
rows_deleted es low k (row ∷ rows) (up, r, rest) = of (has_number k row) refl (rows_deleted es row.0 k rows rest)
  where
    of : (b : Bool) → has_number k row ≡ b → AreFrom es row.0 (take_out (has_number k) rows) → AreFrom es low (take_out (has_number k) (row ∷ rows))
    of true e later = rw e (lower es row.0 low rows (omega (arith, up)) rest)
    of false e later = rw e (up, r, later)

-- ---- What is found by a number

pub none_below : (es : List EntryTree) (low k : ℕ) (rows : List LabelRow) → k ≤ low → AreFrom es low rows → find (has_number k) rows ≡ None
none_below es low k [] h from = refl
none_below es low k (row ∷ rows) h (up, r, rest) =
    let other = other_number k row (λ e. absurd (omega (arith, h, up, e))) in
    rw other (none_below es row.0 k rows (omega (arith, h, up)) rest)

find_past : (k : ℕ) (row : LabelRow) (rows : List LabelRow) (o : Option LabelRow) → has_number k row ≡ false → find (has_number k) rows ≡ o → find (has_number k) (row ∷ rows) ≡ o
find_past k row rows o e later = rw e later

pub none_deleted : (es : List EntryTree) (low k : ℕ) (rows : List LabelRow) → AreFrom es low rows → find (has_number k) (take_out (has_number k) rows) ≡ None
none_deleted es low k [] from = refl
none_deleted es low k (row ∷ rows) (up, r, rest) = of (has_number k row) refl (none_deleted es row.0 k rows rest)
  where
    of : (b : Bool) → has_number k row ≡ b → find (has_number k) (take_out (has_number k) rows) ≡ None → find (has_number k) (take_out (has_number k) (row ∷ rows)) ≡ None
    of true e later = rw e (none_below es row.0 k rows (let same = same_number k row e in omega (arith, same)) rest)
    of false e later = rw e (find_past k row (take_out (has_number k) rows) None e later)

-- the row that was changed is found by its number
pub found_given : (k q : ℕ) (rows : List LabelRow)
    → find (has_number k) (alter (has_number k) (λ (row : LabelRow). (row.0, q, row.2)) rows) ≡ option_map (λ (row : LabelRow). (row.0, q, row.2)) (find (has_number k) rows)
found_given k q [] = refl
found_given k q (row ∷ rows) = of (has_number k row) refl (found_given k q rows)
  where
    of : (b : Bool) → has_number k row ≡ b → find (has_number k) (alter (has_number k) (λ (row : LabelRow). (row.0, q, row.2)) rows) ≡ option_map (λ (row : LabelRow). (row.0, q, row.2)) (find (has_number k) rows)
        → find (has_number k) (alter (has_number k) (λ (row : LabelRow). (row.0, q, row.2)) (row ∷ rows)) ≡ option_map (λ (row : LabelRow). (row.0, q, row.2)) (find (has_number k) (row ∷ rows))
    of true e later = rw e (rw e refl)
    of false e later = rw e (find_past k row (alter (has_number k) (λ (row : LabelRow). (row.0, q, row.2)) rows) (option_map (λ (row : LabelRow). (row.0, q, row.2)) (find (has_number k) rows)) e later)

pub none_above : (es : List EntryTree) (low k : ℕ) (rows : List LabelRow) → length es < k → AreFrom es low rows → find (has_number k) rows ≡ None
none_above es low k [] h from = refl
none_above es low k (row ∷ rows) h (up, r, rest) =
    let within = entry_within es row.0 r.entry r.stands in
    rw (other_number k row (λ e. absurd (omega (arith, h, within.1, e)))) (none_above es row.0 k rows h rest)

-- one row more
pub found_past : (k : ℕ) (row : LabelRow) (rows : List LabelRow) → has_number k row ≡ false → find (has_number k) (rows ++ row ∷ []) ≡ find (has_number k) rows
found_past k row [] e = rw e refl
found_past k row (x ∷ rows) e = ap (cond (has_number k x) (Some x)) (found_past k row rows e)

pub found_last : (k : ℕ) (row : LabelRow) (rows : List LabelRow) → has_number k row ≡ true → find (has_number k) rows ≡ None → find (has_number k) (rows ++ row ∷ []) ≡ Some row
found_last k row rows e none = find-append (has_number k) rows (row ∷ []) ∙ rw (none, e) refl

-- a row is from its entry, and is found by its number
pub row_at : (es : List EntryTree) (low : ℕ) (rows : List LabelRow) (k : ℕ) (row : LabelRow) → AreFrom es low rows → slice_get rows k ≡ Some row → (low < row.0) × IsFrom es row × (find (has_number row.0) rows ≡ Some row)
row_at es low [] k row from at = absurd (cc at)
row_at es low (r ∷ rows) zero row (up, f, rest) at =
    let same : r ≡ row = cc at in
    subst (λ (x : LabelRow). (low < x.0) × IsFrom es x × (find (has_number x.0) (r ∷ rows) ≡ Some x)) same (up, f, rw (number_passes r.0 r refl) refl)
row_at es low (r ∷ rows) (suc k) row (up, f, rest) at =
    let later = row_at es r.0 rows k row rest at in
    (omega (arith, up, later.0), later.1, rw (other_number row.0 r (λ e. absurd (omega (arith, e, later.0)))) later.2)
