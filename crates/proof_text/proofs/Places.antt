-- One byte more of the definitions that count to a place.
use Rattle.std.proofs.Common.{◌≡◌, ℕ, zero, suc, ◌+◌, ◌-◌, ◌<◌, ◌≤◌, ◌==◌, List, [], ◌∷◌, length, drop, get_or, Bool, true, false, cond, refl, ◌∙◌, arith}
use Rattle.std.proofs.lemmas.List.{at_drop_all}
use Rattle.proof_text.specs.ProofText.{bracket_length}
use Rattle.std.specs.List.{prefix_len}
use Rattle.nal_parse.specs.Tokens.{is_blank}
use Rattle.proof_text.specs.Places.{column_from, line_feeds_before}

pub line_feeds_none : (bs : List ℕ) → line_feeds_before 0 bs ≡ 0
line_feeds_none bs = refl

abbrev line_feeds_step : ℕ → ℕ → List ℕ → ℕ
line_feeds_step k b bs =
    cond (b == 10) (line_feeds_before (k - 1) bs + 1) (cond (b == 59) (line_feeds_before (k - 1) bs) (line_feeds_before k bs))

line_feeds_cons : (k b : ℕ) (bs : List ℕ) → 0 < k → line_feeds_before k (b ∷ bs) ≡ line_feeds_step k b bs
line_feeds_cons zero b bs h = absurd (omega arith)
line_feeds_cons (suc k) b bs h = let e : suc k - 1 ≡ k = omega arith in rw e

pub line_feeds_more : (k : ℕ) (bs : List ℕ) (i : ℕ) → 0 < k → i < length bs → line_feeds_before k (drop i bs) ≡ cond (get_or bs i 0 == 10) (line_feeds_before (k - 1) (drop (i + 1) bs) + 1) (cond (get_or bs i 0 == 59) (line_feeds_before (k - 1) (drop (i + 1) bs)) (line_feeds_before k (drop (i + 1) bs)))
line_feeds_more k [] i h l = absurd (omega arith)
line_feeds_more k (b ∷ bs) zero h l = line_feeds_cons k b bs h
line_feeds_more k (b ∷ bs) (suc i) h l = let e : suc i + 1 ≡ suc (i + 1) = omega arith in rw e (line_feeds_more k bs i h (omega arith))

pub line_feeds_all : (k : ℕ) (bs : List ℕ) (i : ℕ) → length bs ≤ i → line_feeds_before k (drop i bs) ≡ 0
line_feeds_all zero bs i l = refl
line_feeds_all (suc k) bs i l = at_drop_all (line_feeds_before (suc k)) bs i l

pub bracket_more_quoted : (bs : List ℕ) (i : ℕ) → i < length bs → bracket_length true (drop i bs) ≡ cond (get_or bs i 0 == 34) (bracket_length false (drop (i + 1) bs) + 1) (bracket_length true (drop (i + 1) bs) + 1)
bracket_more_quoted [] i l = absurd (omega arith)
bracket_more_quoted (b ∷ bs) zero l = refl
bracket_more_quoted (b ∷ bs) (suc i) l = let e : suc i + 1 ≡ suc (i + 1) = omega arith in rw e (bracket_more_quoted bs i (omega arith))

pub bracket_more : (bs : List ℕ) (i : ℕ) → i < length bs → bracket_length false (drop i bs) ≡ cond (get_or bs i 0 == 93) 0 (cond (get_or bs i 0 == 34) (bracket_length true (drop (i + 1) bs) + 1) (bracket_length false (drop (i + 1) bs) + 1))
bracket_more [] i l = absurd (omega arith)
bracket_more (b ∷ bs) zero l = refl
bracket_more (b ∷ bs) (suc i) l = let e : suc i + 1 ≡ suc (i + 1) = omega arith in rw e (bracket_more bs i (omega arith))

pub bracket_all : (q : Bool) (bs : List ℕ) (i : ℕ) → length bs ≤ i → bracket_length q (drop i bs) ≡ 0
bracket_all true bs i l = at_drop_all (bracket_length true) bs i l
bracket_all false bs i l = at_drop_all (bracket_length false) bs i l

pub column_here : (n : ℕ) (bs : List ℕ) → column_from n 0 bs ≡ n + prefix_len is_blank bs
column_here n bs = refl

abbrev column_step : ℕ → ℕ → ℕ → List ℕ → ℕ
column_step n k b bs =
    cond (b == 10) (column_from 0 (k - 1) bs) (cond (b == 59) (column_from (n + 1) (k - 1) bs) (column_from (n + 1) k bs))

column_cons : (n k b : ℕ) (bs : List ℕ) → 0 < k → column_from n k (b ∷ bs) ≡ column_step n k b bs
column_cons n zero b bs h = absurd (omega arith)
column_cons n (suc k) b bs h = let e : suc k - 1 ≡ k = omega arith in rw e

pub column_more : (n k : ℕ) (bs : List ℕ) (i : ℕ) → 0 < k → i < length bs → column_from n k (drop i bs) ≡ cond (get_or bs i 0 == 10) (column_from 0 (k - 1) (drop (i + 1) bs)) (cond (get_or bs i 0 == 59) (column_from (n + 1) (k - 1) (drop (i + 1) bs)) (column_from (n + 1) k (drop (i + 1) bs)))
column_more n k [] i h l = absurd (omega arith)
column_more n k (b ∷ bs) zero h l = column_cons n k b bs h
column_more n k (b ∷ bs) (suc i) h l = let e : suc i + 1 ≡ suc (i + 1) = omega arith in rw e (column_more n k bs i h (omega arith))

pub column_end : (n : ℕ) (bs : List ℕ) (i : ℕ) → length bs ≤ i → column_from n 0 (drop i bs) ≡ n
column_end n bs i l = at_drop_all (column_from n zero) bs i l ∙ omega arith

pub column_beyond : (n k : ℕ) (bs : List ℕ) (i : ℕ) → 0 < k → length bs ≤ i → column_from n k (drop i bs) ≡ 0
column_beyond n zero bs i h l = absurd (omega arith)
column_beyond n (suc k) bs i h l = at_drop_all (column_from n (suc k)) bs i l
