-- The line of a kept entry is no longer than it was.
use Rattle.std.proofs.Common.{◌≡◌, ◌≤◌, ◌+◌, ◌/◌, ◌%◌, ◌==◌, ℕ, zero, suc, Bool, true, false, cond, List, [], ◌∷◌, ◌++◌, length, refl, ap, ◌∙◌, arith, length-append}
use Rattle.std.specs.Cmp.{unsigned_Decides}
use Rattle.std.specs.Fmt.{decimal, digits, digit_glyph, digits_onto}
use Rattle.std.specs.Prelude.{codes}
use Rattle.policy_history.specs.Events.{transfer}
use Rattle.policy_history.specs.PolicyLines.{entry_line, event_text, spaced}

-- digits before a list make it no shorter
onto_least : (k n : ℕ) (acc : List ℕ) → length acc ≤ length (digits_onto k 10 false n acc)
onto_least zero n acc = omega arith
onto_least (suc k) n acc = of (n / 10 == 0) (onto_least k (n / 10) (digit_glyph false (n % 10) ∷ acc))
  where
    of : (b : Bool) → suc (length acc) ≤ length (digits_onto k 10 false (n / 10) (digit_glyph false (n % 10) ∷ acc))
        → length acc ≤ length (cond b (digit_glyph false (n % 10) ∷ acc) (digits_onto k 10 false (n / 10) (digit_glyph false (n % 10) ∷ acc)))
    of true more = omega arith
    of false more = omega (arith, more)

onto_shorter : (k m n : ℕ) (xs ys : List ℕ) → m ≤ n → length xs ≤ length ys → length (digits_onto k 10 false m xs) ≤ length (digits_onto k 10 false n ys)
onto_shorter zero m n xs ys low short = short
onto_shorter (suc k) m n xs ys low short =
    of (m / 10 == 0) refl (n / 10 == 0) refl (λ h. onto_shorter k (m / 10) (n / 10) (digit_glyph false (m % 10) ∷ xs) (digit_glyph false (n % 10) ∷ ys) h (omega (arith, short)))
  where
    x : ℕ
    x = digit_glyph false (m % 10)

    y : ℕ
    y = digit_glyph false (n % 10)

    of : (a : Bool) → (m / 10 == 0) ≡ a → (b : Bool) → (n / 10 == 0) ≡ b
        → (m / 10 ≤ n / 10 → length (digits_onto k 10 false (m / 10) (x ∷ xs)) ≤ length (digits_onto k 10 false (n / 10) (y ∷ ys)))
        → length (cond a (x ∷ xs) (digits_onto k 10 false (m / 10) (x ∷ xs))) ≤ length (cond b (y ∷ ys) (digits_onto k 10 false (n / 10) (y ∷ ys)))
    of true e true f rest = omega (arith, short)
    of true e false f rest = let more = onto_least k (n / 10) (y ∷ ys) in omega (arith, short, more)
    of false e true f rest =
        let none : n / 10 ≡ 0 = (unsigned_Decides (n / 10) 0).0 f in
        let nothing : m / 10 ≡ 0 = omega (arith, low, none) in
        absurd (cc (e, (unsigned_Decides (m / 10) 0).1 nothing))
    of false e false f rest = rest (omega (arith, low))

decimal_shorter : (m n : ℕ) → m ≤ n → length (decimal m) ≤ length (decimal n)
unfolding digits
decimal_shorter m n low = onto_shorter 64 m n [] [] low (omega arith)

-- two texts with a space between them
length-spaced : (xs ys : List ℕ) → length (spaced xs ys) ≡ length xs + 1 + length ys
length-spaced xs ys =
    let outer : length (spaced xs ys) ≡ length (xs ++ codes " ") + length ys = length-append (xs ++ codes " ") ys in
    let inner : length (xs ++ codes " ") ≡ length xs + 1 = length-append xs (codes " ") in
    omega (arith, outer, inner)

-- a transfer of a label with a lower number has no longer a line
pub line_shorter : (session : ℕ) (name to : List ℕ) (m n : ℕ) → m ≤ n → length (entry_line session name (transfer m to)) ≤ length (entry_line session name (transfer n to))
line_shorter session name to m n low =
    let few = decimal_shorter m n low in
    let a = whole m in
    let b = whole n in
    omega (arith, few, a, b)
  where
    whole : (k : ℕ) → length (entry_line session name (transfer k to)) ≡ length (decimal session) + 1 + (length name + 1 + (length (codes "transfer") + 1 + (length (decimal k) + 1 + length to))) + 1
    whole k =
        let rest = event_text (transfer k to) in
        length-append (spaced (decimal session) (spaced name rest)) (10 ∷ [])
        ∙ ap (λ n. n + 1) (length-spaced (decimal session) (spaced name rest) ∙ ap (λ n. length (decimal session) + 1 + n) (length-spaced name rest
        ∙ ap (λ n. length name + 1 + n) (length-spaced (codes "transfer") (spaced (decimal k) to) ∙ ap (λ n. length (codes "transfer") + 1 + n) (length-spaced (decimal k) to))))
