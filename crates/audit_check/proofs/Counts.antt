-- Counting ask lines, and lists of Yes.
use Rattle.std.proofs.Common.{◌≡◌, ◌≤◌, ◌<◌, ◌+◌, ◌-◌, ◌⊎◌, inl, inr, ℕ, zero, suc, List, [], ◌∷◌, length, filter, take, min, Bool, true, cond, Some, refl, sym, ap, ◌∙◌, arith}
use Rattle.std.specs.List.{All, slice_get}
use Rattle.std.specs.Prelude.{replicate}
use Rattle.std.proofs.lemmas.List.Filters.{length-filter_more}
use Rattle.std.proofs.lemmas.Option.{get_or_from_slice_get, slice_get-map, slice_get_within}
use Rattle.std.proofs.lemmas.List.Elements.{All-nil, All-cons, All-tail}
use Rattle.proof_lines.specs.declared.lines.Line.{Line}
use Rattle.proof_lines.specs.Lines.{LineTree, line_tree, line_trees}
use Rattle.nal_rules.specs.Faults.{is_ask}
use Rattle.nal_rules.specs.Verdicts.{ask_place}
use Rattle.std.proofs.Math.Seq.{take-length}
use Rattle.std.proofs.lemmas.Bool.{cases_lt}

-- one line more
pub one_more : (lines : List Line) (i : ℕ) (l : Line) → slice_get lines i ≡ Some l
    → length (filter is_ask (take (i + 1) (line_trees lines))) ≡ length (filter is_ask (take i (line_trees lines))) + cond (is_ask (line_tree l)) 1 0
one_more lines i l at =
    let there : slice_get (line_trees lines) i ≡ Some (line_tree l) = slice_get-map line_tree lines i ∙ rw at refl in
    let within = slice_get_within (line_trees lines) i (line_tree l) there in
    let more = length-filter_more is_ask (line_trees lines) i (line_tree l) within in
    rw (get_or_from_slice_get (line_trees lines) i (line_tree l) (line_tree l) there) at more

pub all_taken : (lines : List Line) (i : ℕ) → length lines ≤ i → take i (line_trees lines) ≡ line_trees lines
all_taken [] zero h = refl
all_taken [] (suc i) h = refl
all_taken (l ∷ lines) zero h = absurd (omega (arith, h))
all_taken (l ∷ lines) (suc i) h = ap (λ (ls : List LineTree). line_tree l ∷ ls) (all_taken lines i (omega (arith, h)))

pub taken : (lines : List Line) (i : ℕ) → line_trees (take i lines) ≡ take i (line_trees lines)
taken [] zero = refl
taken [] (suc i) = refl
taken (l ∷ lines) zero = refl
taken (l ∷ lines) (suc i) = ap (λ (ls : List LineTree). line_tree l ∷ ls) (taken lines i)

pub all_true : (answers : List Bool) (n : ℕ) → length answers ≡ n → All (λ b. b ≡ true) answers → answers ≡ replicate n true
all_true [] zero n all = refl
all_true [] (suc n) l all = absurd (omega (arith, l))
all_true (b ∷ answers) zero l all = absurd (omega (arith, l))
all_true (b ∷ answers) (suc n) l all =
    let first : b ≡ true = all 0 true (omega arith) in
    rw first (ap (λ (bs : List Bool). true ∷ bs) (all_true answers n (omega (arith, l)) (All-tail (λ b. b ≡ true) b answers all)))

pub replicate_true : (n : ℕ) → All (λ b. b ≡ true) (replicate n true)
replicate_true zero = All-nil (λ b. b ≡ true)
replicate_true (suc n) = All-cons (λ b. b ≡ true) true (replicate n true) refl (replicate_true n)

take_min : (lines : List Line) (k : ℕ) → line_trees (take (min k (length lines)) lines) ≡ take k (line_trees lines)
take_min lines k = of (cases_lt k (length lines))
  where
    of : (k < length lines) ⊎ (length lines ≤ k) → line_trees (take (min k (length lines)) lines) ≡ take k (line_trees lines)
    of (inl low) = let least : min k (length lines) ≡ k = omega (arith, low) in rw least (taken lines k)
    of (inr high) = let least : min k (length lines) ≡ length lines = omega (arith, high) in rw (least, take-length) (sym (all_taken lines k high))

-- how many ask lines stand before one
pub place_is : (lines : List Line) (n : ℕ) → (n ≡ 0 → ⊥) → length (filter is_ask (line_trees (take (min (n - 1) (length lines)) lines))) ≡ ask_place (line_trees lines) n
place_is lines zero some = absurd (some refl)
place_is lines (suc k) some =
    let before : suc k - 1 ≡ k = omega arith in
    rw before (ap (λ (ls : List LineTree). length (filter is_ask ls)) (take_min lines k))
