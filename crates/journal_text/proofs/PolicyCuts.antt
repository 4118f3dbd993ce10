-- How the words of a policy's lines are cut, and what their bytes are.
use Rattle.std.proofs.Common.{◌≡◌, ◌≢◌, ◌<◌, ◌≤◌, ◌+◌, ◌%◌, ◌^◌, ℕ, List, [], ◌∷◌, length, true, not, ◌&&◌, nat_le, IsTrue, refl, ap, ◌∙◌, subst, arith}
use Rattle.std.specs.List.{All, list_all}
use Rattle.std.specs.Fmt.{decimal}
use Rattle.std.proofs.lemmas.List.Elements.{All-nil, All-cons, All-head, All-tail, All-append}
use Rattle.std.proofs.lemmas.Bool.{and_parts}
use Rattle.std.proofs.lemmas.Fmt.{decimal_by_steps, decimal_nonempty}
use Rattle.nal_term.specs.Names.{IsName, is_letter, is_reserved, is_word, is_word_byte}
use Rattle.policy_history.specs.PolicyLines.{spaced}
use Rattle.journal_text.specs.Inner.PolicyReading.{IsUnspaced}

abbrev IsNoSpace : ℕ → Type 0
IsNoSpace b = b ≢ 32

-- bytes are cut at their first space in one way
pub cut_same : (a b c d : List ℕ) → spaced a b ≡ spaced c d → IsUnspaced a → IsUnspaced c → (a ≡ c) × (b ≡ d)
cut_same [] b [] d e p q = (refl, cc)
cut_same [] b (y ∷ c) d e p q = absurd (All-head IsNoSpace y c q (cc))
cut_same (x ∷ a) b [] d e p q = absurd (All-head IsNoSpace x a p (cc))
cut_same (x ∷ a) b (y ∷ c) d e p q =
    let heads : x ≡ y = cc in
    let tails : spaced a b ≡ spaced c d = cc in
    let h = cut_same a b c d tails (All-tail IsNoSpace x a p) (All-tail IsNoSpace y c q) in
    (ap (λ z. z ∷ a) heads ∙ ap (λ t. y ∷ t) h.0, h.1)

-- what holds of each byte holds in a weaker form
weaker : (P Q : ℕ → Type 0) → ((b : ℕ) → P b → Q b) → (bs : List ℕ) → All P bs → All Q bs
weaker P Q h bs all = λ k d below. h _ (all k d below)

-- the bytes of names and numbers are digits, letters or `_`, and those of a number are digits
abbrev pub IsHigh : ℕ → Type 0
IsHigh b = 48 ≤ b

abbrev IsDigit : ℕ → Type 0
IsDigit b = (48 ≤ b) × (b < 58)

digits : (n : ℕ) → n < 2 ^ 64 → All IsDigit (decimal n)
digits n below = decimal_by_steps (λ k ds. All IsDigit ds)
    (λ k low. All-cons IsDigit (48 + k) [] (omega arith, omega (arith, low)) (All-nil IsDigit))
    (λ k ds high front. All-append IsDigit ds ((48 + k % 10) ∷ []) front (All-cons IsDigit (48 + k % 10) [] (omega arith, omega arith) (All-nil IsDigit)))
    n below

pub number_high : (n : ℕ) → n < 2 ^ 64 → All IsHigh (decimal n)
number_high n below = weaker IsDigit IsHigh (λ b h. h.0) (decimal n) (digits n below)

word_byte_high : (b : ℕ) → is_word_byte b ≡ true → 48 ≤ b
word_byte_high b h = grind arith

letter_high : (b : ℕ) → is_letter b ≡ true → 48 ≤ b
letter_high b h = grind arith

word_bytes_high : (bs : List ℕ) → IsTrue (list_all is_word_byte bs) → All IsHigh bs
word_bytes_high [] h = All-nil IsHigh
word_bytes_high (b ∷ bs) h =
    let r = and_parts (is_word_byte b) (list_all is_word_byte bs) h in
    All-cons IsHigh b bs (word_byte_high b r.0) (word_bytes_high bs r.1)

pub name_high : (x : List ℕ) → IsName x → All IsHigh x
name_high [] h = All-nil IsHigh
name_high (b ∷ bs) h =
    let w = and_parts (is_word (b ∷ bs) && nat_le (length (b ∷ bs)) 64) (not (is_reserved (b ∷ bs))) h in
    let r = and_parts (is_word (b ∷ bs)) (nat_le (length (b ∷ bs)) 64) w.0 in
    let l = and_parts (is_letter b) (list_all is_word_byte bs) r.0 in
    All-cons IsHigh b bs (letter_high b l.0) (word_bytes_high bs l.1)

high_unspaced : (bs : List ℕ) → All IsHigh bs → IsUnspaced bs
high_unspaced = weaker IsHigh IsNoSpace (λ b h e. absurd (omega (arith, h, e)))

pub name_unspaced : (x : List ℕ) → IsName x → IsUnspaced x
name_unspaced x h = high_unspaced x (name_high x h)

pub number_unspaced : (n : ℕ) → n < 2 ^ 64 → IsUnspaced (decimal n)
number_unspaced n below = high_unspaced (decimal n) (number_high n below)

-- a text that begins with a number begins with a digit
first_digit : (ds : List ℕ) (rest : List ℕ) (b : ℕ) (bs : List ℕ) → 0 < length ds → All IsDigit ds → spaced ds rest ≡ b ∷ bs → b < 58
first_digit [] rest b bs some all e = absurd (omega arith)
first_digit (d ∷ ds) rest b bs some all e = let same : d ≡ b = cc in let h = (All-head IsDigit d ds all).1 in subst (λ x. x < 58) same h

pub number_first : (n : ℕ) (rest : List ℕ) (b : ℕ) (bs : List ℕ) → n < 2 ^ 64 → spaced (decimal n) rest ≡ b ∷ bs → b < 58
number_first n rest b bs below e = first_digit (decimal n) rest b bs (decimal_nonempty n below) (digits n below) e
