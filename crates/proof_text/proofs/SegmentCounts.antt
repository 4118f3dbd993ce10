-- How many segments a text has, and where they stand.
use Rattle.std.proofs.Common.{◌≡◌, ◌≤◌, ◌+◌, ℕ, zero, suc, List, [], ◌∷◌, length, count_by, cond, if◌then◌else◌, zero-add, Bool, true, false, refl, sym, ◌∙◌, arith}
use Rattle.std.proofs.lemmas.List.{length-map}
use Rattle.std.proofs.lemmas.List.Sums.{sum_by-cons, count_by-le-length}
use Rattle.std.proofs.lemmas.Bool.Decides.{nat_tests}
use Rattle.proof_text.specs.ProofText.{segments, pieces, with_first, trimmed, is_cut}
use Rattle.proof_text.specs.Places.{line_feeds_before, end_place, end_segment_of}

length-with_first : (b : ℕ) (ps : List (List ℕ)) → 1 ≤ length ps → length (with_first b ps) ≡ length ps
length-with_first b [] h = absurd (omega arith)
length-with_first b (p ∷ ps) h = refl

step : (b : ℕ) (t : Bool) (ps : List (List ℕ)) → 1 ≤ length ps → length (if t then [] ∷ ps else with_first b ps) ≡ cond t 1 0 + length ps
step b true ps h = omega arith
step b false ps h = length-with_first b ps h ∙ sym (zero-add (length ps))

length-pieces : (bs : List ℕ) → length (pieces bs) ≡ count_by is_cut bs + 1
length-pieces [] = refl
length-pieces (b ∷ bs) =
    let i = length-pieces bs in
    let q = sum_by-cons (λ x. cond (is_cut x) 1 0) b bs in
    let s = step b (is_cut b) (pieces bs) (omega (arith, i)) in
    omega (arith, s, q, i)

-- one segment more than cuts
pub length_segments : (bs : List ℕ) → length (segments bs) ≡ count_by is_cut bs + 1
length_segments bs = length-map (pieces bs) trimmed ∙ length-pieces bs

-- no more line feeds than bytes
pub line_feeds_bounded : (k : ℕ) (bs : List ℕ) → line_feeds_before k bs ≤ length bs
line_feeds_bounded zero bs = omega arith
line_feeds_bounded (suc k) [] = omega arith
line_feeds_bounded (suc k) (b ∷ bs) =
    let i = line_feeds_bounded k bs in
    let j = line_feeds_bounded (suc k) bs in
    grind (arith, nat_tests)

-- the end stands among the segments, or after them
pub end_bounded : (n : ℕ) (ss : List (List ℕ)) → end_place n ss ≤ n + length ss
end_bounded n [] = omega arith
end_bounded n (s ∷ ss) = let i = end_bounded (n + 1) ss in grind (arith, nat_tests)

pub end_segment_bounded : (bs : List ℕ) → end_segment_of bs ≤ length bs + 1
end_segment_bounded bs =
    let e = end_bounded 0 (segments bs) in
    let l = length_segments bs in
    let c = count_by-le-length is_cut bs in
    omega arith
