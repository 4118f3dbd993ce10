-- With what the lines of a policy begin: that of an entry with a digit, and those of a head with a letter.
use Rattle.std.proofs.Common.{◌≡◌, ◌<◌, ◌/◌, ◌%◌, ◌==◌, ◌⊎◌, Bool, true, false, if◌then◌else◌, ℕ, zero, suc, List, [], ◌∷◌, ◌++◌, codes, drop, inl, inr, refl, sym, ap, ◌∙◌, subst, arith}
use Rattle.std.specs.Fmt.{decimal, digit_glyph, digits, digits_onto}
use Rattle.std.proofs.lemmas.List.{take-append-drop}
use Rattle.policy_history.specs.declared.heads.Head.{Head}
use Rattle.policy_history.specs.Events.{EntryTree, name_of}
use Rattle.policy_history.specs.PolicyLines.{event_text, spaced}
use Rattle.policy_history.specs.PolicyTexts.{line_of}
use Rattle.text_lines.specs.Lines.{first_line, line_length}
use Rattle.kept_policies.specs.Kept.{IsNextLine}

-- ---- A number begins with a digit

-- the text has a first byte, and this is below the letters
abbrev BeginsLow : List ℕ → Type 0
BeginsLow bytes = (b : ℕ) × (rest : List ℕ) × (bytes ≡ b ∷ rest) × (b < 58)

low_append : (xs ys : List ℕ) → BeginsLow xs → BeginsLow (xs ++ ys)
low_append xs ys (b, rest, is, low) = (b, rest ++ ys, ap (λ l. l ++ ys) is, low)

both_low : (t : Bool) (xs ys : List ℕ) → BeginsLow xs → BeginsLow ys → BeginsLow (if t then xs else ys)
both_low true xs ys x y = x
both_low false xs ys x y = y

glyph_low : (n : ℕ) → digit_glyph false (n % 10) < 58
glyph_low n = grind arith

glyph_first : (n : ℕ) (after : List ℕ) → BeginsLow (digit_glyph false (n % 10) ∷ after)
glyph_first n after = (digit_glyph false (n % 10), after, refl, glyph_low n)

digits_low : (k n : ℕ) (after : List ℕ) → BeginsLow (digits_onto (suc k) 10 false n after)
digits_low zero n after = both_low (n / 10 == 0) _ _ (glyph_first n after) (glyph_first n after)
digits_low (suc k) n after = both_low (n / 10 == 0) _ _ (glyph_first n after) (digits_low k (n / 10) (digit_glyph false (n % 10) ∷ after))

decimal_low : (n : ℕ) → BeginsLow (decimal n)
unfolding digits
decimal_low n = digits_low 63 n []

entry_low : (h : Head) (e : EntryTree) → BeginsLow (line_of h e)
entry_low h e =
    let rest = spaced (name_of h.principals e.principal) (event_text e.event) in
    let number = low_append (decimal e.session) (codes " ") (decimal_low e.session) in
    low_append (spaced (decimal e.session) rest) (10 ∷ []) (low_append (decimal e.session ++ codes " ") rest number)

-- ---- So no next line begins as one of a head does

-- with a `p` or an `a`
abbrev pub IsHeadByte : ℕ → Type 0
IsHeadByte b = (b ≡ 112) ⊎ (b ≡ 97)

low_other : (b : ℕ) → b < 58 → IsHeadByte b → ⊥
low_other b low (inl p) = omega (arith, low, p)
low_other b low (inr a) = omega (arith, low, a)

end_other : IsHeadByte 101 → ⊥
end_other (inl p) = omega (arith, p)
end_other (inr a) = omega (arith, a)

next_byte : (h : Head) (line : List ℕ) → IsNextLine h line → (b : ℕ) × (rest : List ℕ) × (line ≡ b ∷ rest) × (IsHeadByte b → ⊥)
next_byte h line (inl (e, is)) = let (b, rest, begins, low) = entry_low h e in (b, rest, is ∙ begins, low_other b low)
next_byte h line (inr is) = (101, 110 ∷ 100 ∷ 10 ∷ [], is, end_other)

-- nor does the first line of a text that such a line begins, or that is a front of one
pub no_head_byte : (h : Head) (line after part missing : List ℕ) (b : ℕ) (bs : List ℕ) → IsNextLine h line → line ++ after ≡ part ++ missing
    → first_line part ≡ b ∷ bs → IsHeadByte b → ⊥
no_head_byte h line after part missing b bs next is first byte =
    let (c, rest, begins, other) = next_byte h line next in
    let left = drop (line_length part) part in
    let whole : part ≡ b ∷ bs ++ left = sym (take-append-drop (line_length part) part) ∙ ap (λ l. l ++ left) first in
    let both : c ∷ rest ++ after ≡ b ∷ bs ++ left ++ missing = sym (ap (λ l. l ++ after) begins) ∙ is ∙ ap (λ l. l ++ missing) whole in
    let same : c ≡ b = cc both in
    other (subst IsHeadByte (sym same) byte)
