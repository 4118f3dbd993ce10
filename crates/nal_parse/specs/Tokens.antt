-- The tokens of a formula's text. Each is as long as possible, and blanks may stand before it.
use Rattle.std.specs.Prelude.{ℕ, ◌+◌, ◌-◌, ◌*◌, ◌^◌, List, [], ◌∷◌, length, take, drop, Bool, not, nat_lt, ◌&&◌, ◌||◌, ◌==◌, codes, Option, Some, None, if◌then◌else◌}
use Rattle.std.specs.List.{list_all, prefix_len}
use Rattle.std.specs.Str.{bytes_eq}
use Rattle.nal_term.specs.Names.{is_letter, is_digit, is_word_byte, is_name, is_text}
use Rattle.nal_parse.specs.declared.tokens.Keyword.{Keyword}
use Rattle.nal_parse.specs.declared.tokens.Keyword.TheVariants.{Says, SpeaksFor, On, And, Or, Not, Forall, Exists, True, False}
use Rattle.nal_parse.specs.declared.tokens.Token.{Token}
use Rattle.nal_parse.specs.declared.tokens.Token.TheVariants as rust

-- a token: a reserved word, a name, a number, a variable without its `?`, a quoted text without its
-- quotation marks, a sign, the end of the text, or what is no token: a malformed name, number or text, or a
-- byte that begins none
pub data Lexeme : Type 0 where
  keyword : Keyword → Lexeme
  name : List ℕ → Lexeme
  number : ℕ → Lexeme
  variable : List ℕ → Lexeme
  quoted : List ℕ → Lexeme
  opens : Lexeme
  closes : Lexeme
  comma : Lexeme
  dot : Lexeme
  colon : Lexeme
  equal : Lexeme
  less : Lexeme
  at_most : Lexeme
  arrow : Lexeme
  end : Lexeme
  bad_name : Lexeme
  bad_number : Lexeme
  bad_text : Lexeme
  unknown : Lexeme

-- the lexeme of a token of the program
abbrev pub lexeme_of : Token → Lexeme
lexeme_of (rust.Keyword k) = keyword k
lexeme_of (rust.Name x) = name x.now
lexeme_of (rust.Number n) = number n
lexeme_of (rust.Variable x) = variable x.now
lexeme_of (rust.Quoted x) = quoted x.now
lexeme_of rust.Open = opens
lexeme_of rust.Close = closes
lexeme_of rust.Comma = comma
lexeme_of rust.Dot = dot
lexeme_of rust.Colon = colon
lexeme_of rust.Equal = equal
lexeme_of rust.Less = less
lexeme_of rust.AtMost = at_most
lexeme_of rust.Arrow = arrow
lexeme_of rust.End = end
lexeme_of rust.BadName = bad_name
lexeme_of rust.BadNumber = bad_number
lexeme_of rust.BadText = bad_text
lexeme_of rust.Unknown = unknown

-- a blank: space or tab
abbrev pub is_blank : ℕ → Bool
is_blank b = b == 32 || b == 9

-- the text from its first byte that is no blank
abbrev pub after_blanks : List ℕ → List ℕ
after_blanks bs = drop (prefix_len is_blank bs) bs

-- how many letters, digits and `_` the text begins with
abbrev pub run_length : List ℕ → ℕ
run_length bs = prefix_len is_word_byte bs

-- the reserved word that these bytes are
abbrev pub keyword_of : List ℕ → Option Keyword
keyword_of w =
    if bytes_eq w (codes "says") then Some Says else
    (if bytes_eq w (codes "speaksfor") then Some SpeaksFor else
    (if bytes_eq w (codes "on") then Some On else
    (if bytes_eq w (codes "and") then Some And else
    (if bytes_eq w (codes "or") then Some Or else
    (if bytes_eq w (codes "not") then Some Not else
    (if bytes_eq w (codes "forall") then Some Forall else
    (if bytes_eq w (codes "exists") then Some Exists else
    (if bytes_eq w (codes "true") then Some True else
    (if bytes_eq w (codes "false") then Some False else None)))))))))

-- what a word spells
abbrev pub word_lexeme : List ℕ → Lexeme
word_lexeme w = of_keyword (keyword_of w) w
  where
    of_keyword : Option Keyword → List ℕ → Lexeme
    of_keyword None w = if is_name w then name w else bad_name
    of_keyword (Some k) w = keyword k

-- the number that decimal digits write after those of n
abbrev pub value_after : ℕ → List ℕ → ℕ
value_after n [] = n
value_after n (d ∷ ds) = value_after (n * 10 + (d - 48)) ds

-- the number that decimal digits write
abbrev pub value_of_digits : List ℕ → ℕ
value_of_digits ds = value_after 0 ds

-- digits without a leading zero whose number fits 64 bits
abbrev pub is_number : List ℕ → Bool
is_number [] = Bool.false
is_number (d ∷ ds) =
    list_all is_digit (d ∷ ds) && (not (d == 48) || length ds == 0) && nat_lt (value_of_digits (d ∷ ds)) (2 ^ 64)

-- what a run of letters, digits and `_` that begins with a digit spells
abbrev pub number_lexeme : List ℕ → Lexeme
number_lexeme w = if is_number w then number (value_of_digits w) else bad_number

-- what the bytes after a `?` spell: a variable where a name follows directly
abbrev pub variable_lexeme : List ℕ → Lexeme
variable_lexeme w = if is_name w then variable w else bad_name

-- how many bytes stand before the next quotation mark, or to the end
abbrev pub quoted_length : List ℕ → ℕ
quoted_length bs = prefix_len (λ b. not (b == 34)) bs

-- a lexeme and the text after it
abbrev pub Cut : Type 0
Cut = Lexeme × List ℕ

-- a quoted text, cut after its closing quotation mark
abbrev pub cut_quoted : List ℕ → Cut
cut_quoted bs =
    let n = quoted_length bs in
    if nat_lt n (length bs) && is_text (take n bs) then (quoted (take n bs), drop (n + 1) bs) else (bad_text, bs)

-- a sign, the longest that fits; `b` is the first byte and `bs` what follows it
abbrev pub cut_sign : ℕ → List ℕ → Cut
cut_sign b bs =
    if b == 40 then (opens, bs) else
    (if b == 41 then (closes, bs) else
    (if b == 44 then (comma, bs) else
    (if b == 46 then (dot, bs) else
    (if b == 58 then (colon, bs) else
    (if b == 60 then (if starts_with_byte 61 bs then (at_most, drop 1 bs) else (less, bs)) else
    (if b == 61 then (if starts_with_byte 62 bs then (arrow, drop 1 bs) else (equal, bs)) else (unknown, bs)))))))
  where
    starts_with_byte : ℕ → List ℕ → Bool
    starts_with_byte c [] = Bool.false
    starts_with_byte c (d ∷ ds) = d == c

-- the token at the first byte of a text that begins with no blank
abbrev pub cut : List ℕ → Cut
cut [] = (end, [])
cut (b ∷ bs) =
    if is_letter b then (word_lexeme (take (run_length (b ∷ bs)) (b ∷ bs)), drop (run_length (b ∷ bs)) (b ∷ bs)) else
    (if is_digit b then (number_lexeme (take (run_length (b ∷ bs)) (b ∷ bs)), drop (run_length (b ∷ bs)) (b ∷ bs)) else
    (if b == 63 then (variable_lexeme (take (run_length bs) bs), drop (run_length bs) bs) else
    (if b == 34 then cut_quoted bs else cut_sign b bs)))

-- the next token of a text, and what follows it
unfoldable pub next_cut : List ℕ → Cut
next_cut bs = cut (after_blanks bs)
