-- The counts of the marks are the new numbers.
use Rattle.std.proofs.Common.{◌≡◌, ◌<◌, ◌≤◌, ◌+◌, ◌-◌, ℕ, zero, suc, Bool, true, false, cond, List, [], ◌∷◌, length, get_or, refl, ap, ◌∙◌, arith}
use Rattle.policy_history.specs.Events.{EntryTree}
use Rattle.policy_compaction.specs.Kept.{Numbered, kept, matters, new_number}
use Rattle.policy_compaction.specs.Inner.Marking.{counted, counts_from, marks_from, marks_of}
use Rattle.policy_compaction.proofs.NewNumbers.{Counts, counts, none_new}

pub length-marks : (n : ℕ) (es : List EntryTree) → length (marks_from n es) ≡ length es
length-marks n [] = refl
length-marks n (e ∷ es) = ap suc (length-marks (n + 1) es)

pub length-counts : (n : ℕ) (bs : List Bool) → length (counts_from n bs) ≡ length bs
length-counts n [] = refl
length-counts n (b ∷ bs) = ap suc (length-counts (counted n b) bs)

counted_is : (c : ℕ) (m : Bool) → counted c m ≡ c + cond m 1 0
counted_is c true = refl
counted_is c false = omega arith

here : (ks : List Numbered) (c n : ℕ) (m : Bool) → c ≡ new_number ks n → new_number ks (n + 1) ≡ new_number ks n + cond m 1 0 → counted c m ≡ new_number ks (n + 1)
here ks c n m before step = let one = counted_is c m in omega (arith, one, step, before)

counts_are : (ks : List Numbered) (c n : ℕ) (es : List EntryTree) → c ≡ new_number ks n → Counts ks n es → (i d : ℕ) → i < length es
    → get_or (counts_from c (marks_from n es)) i d ≡ new_number ks (n + i + 1)
counts_are ks c n [] before steps i d within = absurd (omega (arith, within))
counts_are ks c n (e ∷ es) before steps zero d within = here ks c n (matters (n + 1) e es) before steps.0 ∙ ap (new_number ks) (let p : n + 1 ≡ n + 0 + 1 = omega arith in p)
counts_are ks c n (e ∷ es) before steps (suc i) d within =
    counts_are ks (counted c (matters (n + 1) e es)) (n + 1) es (here ks c n (matters (n + 1) e es) before steps.0) steps.1 i d (omega (arith, within))
    ∙ ap (new_number ks) (let p : n + 1 + i + 1 ≡ n + suc i + 1 = omega arith in p)

-- the count at a place is the new number of the label with the next number
pub new_number_at : (es : List EntryTree) (all : List ℕ) → all ≡ counts_from 0 (marks_of es) → (i d : ℕ) → i < length es
    → get_or all i d ≡ new_number (kept es) (i + 1)
new_number_at es all are i d within =
    let none = none_new es in
    ap (λ cs. get_or cs i d) are ∙ counts_are (kept es) 0 0 es (omega (arith, none)) (counts es) i d within
    ∙ ap (new_number (kept es)) (let p : 0 + i + 1 ≡ i + 1 = omega arith in p)

-- for a number from 1
pub moved_number : (es : List EntryTree) (all : List ℕ) → all ≡ counts_from 0 (marks_of es) → (k : ℕ) → 0 < k → k ≤ length es → get_or all (k - 1) 0 ≡ new_number (kept es) k
moved_number es all are k some most =
    let place : k - 1 + 1 ≡ k = omega (arith, some) in
    new_number_at es all are (k - 1) 0 (omega (arith, some, most)) ∙ ap (new_number (kept es)) place

pub length-kept_counts : (es : List EntryTree) (all : List ℕ) → all ≡ counts_from 0 (marks_of es) → length all ≡ length es
length-kept_counts es all are = ap length are ∙ length-counts 0 (marks_of es) ∙ length-marks 0 es
