-- The bytes that names, quoted texts and secrets are made of.
use Rattle.std.specs.Prelude.{ℕ, List, [], ◌∷◌, length, Bool, false, not, nat_le, ◌&&◌, ◌||◌, ◌==◌, IsTrue}
use Rattle.std.specs.List.{list_all, list_any}
use Rattle.std.specs.Str.{bytes_eq}
use Rattle.std.specs.Prelude.{codes}

-- A to Z or a to z
abbrev pub is_letter : ℕ → Bool
is_letter b = (nat_le 65 b && nat_le b 90) || (nat_le 97 b && nat_le b 122)

-- 0 to 9
abbrev pub is_digit : ℕ → Bool
is_digit b = nat_le 48 b && nat_le b 57

-- a letter, a digit or `_`: what may stand in a word after its first letter
abbrev pub is_word_byte : ℕ → Bool
is_word_byte b = is_letter b || is_digit b || b == 95

-- the words that have a meaning of their own in a formula, and so name nothing
abbrev pub reserved_words : List (List ℕ)
reserved_words =
    codes "says" ∷ codes "speaksfor" ∷ codes "on" ∷ codes "and" ∷ codes "or" ∷ codes "not" ∷ codes "forall"
    ∷ codes "exists" ∷ codes "true" ∷ codes "false" ∷ []

-- one of the reserved words
abbrev pub is_reserved : List ℕ → Bool
is_reserved bs = list_any (λ w. bytes_eq bs w) reserved_words

-- a word: a letter, then letters, digits and `_`
abbrev pub is_word : List ℕ → Bool
is_word [] = false
is_word (b ∷ bs) = is_letter b && list_all is_word_byte bs

-- a name: a word of at most 64 bytes that is not reserved
abbrev pub is_name : List ℕ → Bool
is_name bs = is_word bs && nat_le (length bs) 64 && not (is_reserved bs)

-- the bytes are a name
abbrev pub IsName : List ℕ → Type 0
IsName bs = IsTrue (is_name bs)

-- a byte of a quoted text: 0x20 to 0x7E, but no quotation mark, semicolon or backslash
abbrev pub is_text_byte : ℕ → Bool
is_text_byte b = nat_le 32 b && nat_le b 126 && not (b == 34) && not (b == 59) && not (b == 92)

-- what stands between the quotation marks of a quoted text: at most 256 such bytes
abbrev pub is_text : List ℕ → Bool
is_text bs = list_all is_text_byte bs && nat_le (length bs) 256

-- the bytes are those of a quoted text
abbrev pub IsText : List ℕ → Type 0
IsText bs = IsTrue (is_text bs)
