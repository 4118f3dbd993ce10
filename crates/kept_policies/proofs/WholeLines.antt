-- Whole lines in front of a text are kept.
use Rattle.std.proofs.Common.{◌≡◌, ◌≢◌, ◌+◌, ◌⊎◌, ℕ, List, [], ◌∷◌, ◌++◌, codes, inl, inr, sym, ap, ◌∙◌, subst, append_assoc, append-nil}
use Rattle.proof_text.specs.Laws.{IsOneLine}
use Rattle.journal_text.specs.CutPolicies.{IsKept}
use Rattle.journal_text.proofs.LawsForCallers.{feed_within}

-- a last line that is cut off leaves them whole
seam : (before more lines last : List ℕ) → (before ++ 10 ∷ []) ++ more ≡ lines ++ last → IsOneLine last
    → (some : List ℕ) × (lines ≡ (before ++ 10 ∷ []) ++ some) × (more ≡ some ++ last)
seam before more [] last is one = absurd (feed_within before more (subst IsOneLine (sym is ∙ append_assoc before (10 ∷ []) more) one))
seam [] more (y ∷ ys) last is one =
    let first : y ≡ 10 = cc in
    let tails : more ≡ ys ++ last = cc in
    (ys, ap (λ z. z ∷ ys) first, tails)
seam (b ∷ bs) more (y ∷ ys) last is one =
    let first : y ≡ b = cc in
    let tails : (bs ++ 10 ∷ []) ++ more ≡ ys ++ last = cc in
    let (some, parts, rest) = seam bs more ys last tails one in
    (some, ap (λ z. z ∷ ys) first ∙ ap (λ t. b ∷ t) parts, rest)

-- so of a text that begins with them they are kept, and a front of what is behind them
pub kept_behind : (lines more kept : List ℕ) → (before : List ℕ) × (lines ≡ before ++ 10 ∷ []) → IsKept (lines ++ more) kept
    → (part : List ℕ) × (missing : List ℕ) × (kept ≡ lines ++ part) × (more ≡ part ++ missing)
kept_behind lines more kept (before, fed) keeps = of keeps.choice
  where
    of : ((keeps.last ≡ codes "end") × (kept ≡ lines ++ more)) ⊎ ((keeps.last ≢ codes "end") × (kept ≡ keeps.lines))
        → (part : List ℕ) × (missing : List ℕ) × (kept ≡ lines ++ part) × (more ≡ part ++ missing)
    of (inl (is, all)) = (more, [], all, sym (append-nil more))
    of (inr (differs, all)) =
        let (part, parts, rest) = seam before more keeps.lines keeps.last (sym (ap (λ l. l ++ more) fed) ∙ keeps.cut.parts) keeps.cut.unfed in
        (part, keeps.last, all ∙ parts ∙ sym (ap (λ l. l ++ part) fed), rest)
