-- How a text is cut into whole lines and a last one.
use Rattle.std.proofs.Common.{◌≡◌, ◌≢◌, ◌+◌, ◌⊎◌, ◌==◌, ◌&&◌, Bool, true, false, not, if◌then◌else◌, take, drop, IsTrue, ℕ, List, [], ◌∷◌, ◌++◌, length, codes, inl, inr, refl, sym, ap, ◌∙◌, subst, arith, append_assoc, append-nil, take_all}
use Rattle.std.proofs.Math.Seq.{drop-append-add, take-append_seam}
use Rattle.std.specs.List.{list_all}
use Rattle.std.proofs.lemmas.Bool.{and_parts}
use Rattle.std.proofs.lemmas.List.{drop_all}
use Rattle.proof_text.specs.Laws.{IsOneLine}
use Rattle.text_lines.specs.Lines.{after_line, first_line, line_length}
use Rattle.journal_text.specs.CutPolicies.{AreWholeLines, IsCutInto, IsKept}

-- ---- One way to cut

-- what has no line feed holds none
pub feed_within : (xs ys : List ℕ) → IsOneLine (xs ++ 10 ∷ ys) → ⊥
feed_within [] ys one = cc one
feed_within (x ∷ xs) ys one = feed_within xs ys (and_parts (not (x == 10)) (list_all (λ b. not (b == 10)) (xs ++ 10 ∷ ys)) one).1

one_seam : (xs ys a b : List ℕ) → xs ++ 10 ∷ a ≡ ys ++ 10 ∷ b → IsOneLine a → IsOneLine b → (xs ≡ ys) × (a ≡ b)
one_seam [] [] a b same one two = (refl, cc)
one_seam [] (y ∷ ys) a b same one two =
    let tails : a ≡ ys ++ 10 ∷ b = cc in
    absurd (feed_within ys b (subst IsOneLine tails one))
one_seam (x ∷ xs) [] a b same one two =
    let tails : xs ++ 10 ∷ a ≡ b = cc in
    absurd (feed_within xs a (subst IsOneLine (sym tails) two))
one_seam (x ∷ xs) (y ∷ ys) a b same one two =
    let heads : x ≡ y = cc in
    let tails : xs ++ 10 ∷ a ≡ ys ++ 10 ∷ b = cc in
    let h = one_seam xs ys a b tails one two in
    (ap (λ z. z ∷ xs) heads ∙ ap (λ t. y ∷ t) h.0, h.1)

-- whole lines before a last one, joined at their last line feed
at_seam : (before last : List ℕ) → (before ++ 10 ∷ []) ++ last ≡ before ++ 10 ∷ last
at_seam before last = append_assoc before (10 ∷ []) last

pub one_cut : (text a x b y : List ℕ) → IsCutInto text a x → IsCutInto text b y → (a ≡ b) × (x ≡ y)
one_cut text a x b y p q = of p.whole q.whole
  where
    whole_text : (before : List ℕ) → a ≡ before ++ 10 ∷ [] → text ≡ before ++ 10 ∷ x
    whole_text before e = p.parts ∙ ap (λ l. l ++ x) e ∙ at_seam before x

    other_text : (before : List ℕ) → b ≡ before ++ 10 ∷ [] → text ≡ before ++ 10 ∷ y
    other_text before e = q.parts ∙ ap (λ l. l ++ y) e ∙ at_seam before y

    of : AreWholeLines a → AreWholeLines b → (a ≡ b) × (x ≡ y)
    of (inl none) (inl nil) = (none ∙ sym nil, sym (ap (λ l. l ++ x) none) ∙ sym p.parts ∙ q.parts ∙ ap (λ l. l ++ y) nil)
    of (inl none) (inr (before, e)) =
        let all : x ≡ before ++ 10 ∷ y = sym (ap (λ l. l ++ x) none) ∙ sym p.parts ∙ other_text before e in
        absurd (feed_within before y (subst IsOneLine all p.unfed))
    of (inr (before, e)) (inl none) =
        let all : y ≡ before ++ 10 ∷ x = sym (ap (λ l. l ++ y) none) ∙ sym q.parts ∙ whole_text before e in
        absurd (feed_within before x (subst IsOneLine all q.unfed))
    of (inr (before, e)) (inr (other, f)) =
        let h = one_seam before other x y (sym (whole_text before e) ∙ other_text other f) p.unfed q.unfed in
        (e ∙ ap (λ l. l ++ 10 ∷ []) h.0 ∙ sym f, h.1)

pub one_kept : (text kept other : List ℕ) → IsKept text kept → IsKept text other → kept ≡ other
one_kept text kept other p q = of p.choice q.choice
  where
    same : (p.lines ≡ q.lines) × (p.last ≡ q.last)
    same = one_cut text p.lines p.last q.lines q.last p.cut q.cut

    of : ((p.last ≡ codes "end") × (kept ≡ text)) ⊎ ((p.last ≢ codes "end") × (kept ≡ p.lines)) → ((q.last ≡ codes "end") × (other ≡ text)) ⊎ ((q.last ≢ codes "end") × (other ≡ q.lines)) → kept ≡ other
    of (inl a) (inl b) = a.1 ∙ sym b.1
    of (inl a) (inr b) = absurd (b.0 (sym same.1 ∙ a.0))
    of (inr a) (inl b) = absurd (a.0 (same.1 ∙ b.0))
    of (inr a) (inr b) = a.1 ∙ same.0 ∙ sym b.1

-- ---- Each text is cut

is_feed : (b : ℕ) → not (b == 10) ≡ false → b ≡ 10
is_feed b e = grind arith

pub record IsSplit (text : List ℕ) : Type 0 where
  pub lines : List ℕ
  pub last : List ℕ
  pub cut : IsCutInto text lines last

more_whole : (b : ℕ) (lines : List ℕ) → AreWholeLines lines → lines ≢ [] → AreWholeLines (b ∷ lines)
more_whole b lines (inl none) some = absurd (some none)
more_whole b lines (inr (before, e)) some = inr (b ∷ before, ap (λ t. b ∷ t) e)

-- a byte more in front
ahead : (b : ℕ) (bs lines last : List ℕ) (t : Bool) → not (b == 10) ≡ t → IsCutInto bs lines last → IsSplit (b ∷ bs)
ahead b bs [] last true is cut =
    record { lines = []; last = b ∷ bs; cut = record { parts = refl; whole = inl refl; unfed = rw (is, cut.parts) cut.unfed } }
ahead b bs [] last false is cut =
    record { lines = b ∷ []; last = bs; cut = record { parts = refl; whole = inr ([], ap (λ x. x ∷ []) (is_feed b is)); unfed = rw cut.parts cut.unfed } }
ahead b bs (x ∷ xs) last t is cut = record {
  lines = b ∷ x ∷ xs;
  last = last;
  cut = record { parts = ap (λ t. b ∷ t) cut.parts; whole = more_whole b (x ∷ xs) cut.whole (λ e. cc); unfed = cut.unfed };
}

pub split_of : (text : List ℕ) → IsSplit text
split_of [] = record { lines = []; last = []; cut = record { parts = refl; whole = inl refl; unfed = refl } }
split_of (b ∷ bs) = let s = split_of bs in ahead b bs s.lines s.last (not (b == 10)) refl s.cut

-- ---- Whole lines, from the first on

pub whole_append : (xs ys : List ℕ) → AreWholeLines xs → AreWholeLines ys → AreWholeLines (xs ++ ys)
whole_append xs ys x (inl none) = subst AreWholeLines (sym (ap (λ t. xs ++ t) none ∙ append-nil xs)) x
whole_append xs ys x (inr (before, e)) = inr (xs ++ before, ap (λ t. xs ++ t) e ∙ sym (append_assoc xs before (10 ∷ [])))

-- whole lines of which there are some begin with one
pub record IsLineAhead (lines : List ℕ) : Type 0 where
  pub line : List ℕ
  pub rest : List ℕ
  pub one : IsOneLine line
  pub whole : AreWholeLines rest
  pub parts : lines ≡ line ++ 10 ∷ rest

pub line_ahead : (before : List ℕ) → IsLineAhead (before ++ 10 ∷ [])
line_ahead [] = record { line = []; rest = []; one = refl; whole = inl refl; parts = refl }
line_ahead (b ∷ bs) = of (not (b == 10)) refl (line_ahead bs)
  where
    of : (t : Bool) → not (b == 10) ≡ t → IsLineAhead (bs ++ 10 ∷ []) → IsLineAhead (b ∷ bs ++ 10 ∷ [])
    of true is later = record { line = b ∷ later.line; rest = later.rest; one = rw is later.one; whole = later.whole; parts = ap (λ t. b ∷ t) later.parts }
    of false is later = record { line = []; rest = bs ++ 10 ∷ []; one = refl; whole = inr (bs, refl); parts = ap (λ x. x ∷ (bs ++ 10 ∷ [])) (is_feed b is) }

-- ---- The first line

feed_at : (line rest : List ℕ) → IsOneLine line → line_length (line ++ 10 ∷ rest) ≡ length line
feed_at [] rest one = refl
feed_at (b ∷ bs) rest one = passing (not (b == 10)) one (feed_at bs rest)
  where
    passing : (t : Bool) → IsTrue (t && list_all (λ c. not (c == 10)) bs) → (IsOneLine bs → line_length (bs ++ 10 ∷ rest) ≡ length bs)
        → (if t then 1 + line_length (bs ++ 10 ∷ rest) else 0) ≡ length (b ∷ bs)
    passing true later longer = omega (arith, longer later)
    passing false later longer = cc

pub first_is : (line rest : List ℕ) → IsOneLine line → first_line (line ++ 10 ∷ rest) ≡ line
first_is line rest one = ap (λ n. take n (line ++ 10 ∷ rest)) (feed_at line rest one) ∙ take-append_seam line (10 ∷ rest)

pub after_is : (line rest : List ℕ) → IsOneLine line → after_line (line ++ 10 ∷ rest) ≡ rest
after_is line rest one = ap (λ n. drop (n + 1) (line ++ 10 ∷ rest)) (feed_at line rest one) ∙ drop-append-add line (10 ∷ rest) 1

line_all : (line : List ℕ) → IsOneLine line → line_length line ≡ length line
line_all [] one = refl
line_all (b ∷ bs) one = passing (not (b == 10)) one (line_all bs)
  where
    passing : (t : Bool) → IsTrue (t && list_all (λ c. not (c == 10)) bs) → (IsOneLine bs → line_length bs ≡ length bs) → (if t then 1 + line_length bs else 0) ≡ length (b ∷ bs)
    passing true later longer = omega (arith, longer later)
    passing false later longer = cc

-- a line without its line feed is the first, and nothing follows it
pub first_alone : (line : List ℕ) → IsOneLine line → first_line line ≡ line
first_alone line one = ap (λ n. take n line) (line_all line one) ∙ take_all (length line) line (omega arith)

pub after_alone : (line : List ℕ) → IsOneLine line → after_line line ≡ []
after_alone line one = ap (λ n. drop (n + 1) line) (line_all line one) ∙ drop_all (length line + 1) line (omega arith)
