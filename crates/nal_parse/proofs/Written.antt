-- What is written of a token is cut as that token.
use Rattle.std.proofs.Common.{◌≡◌, ◌<◌, ◌+◌, ◌^◌, ℕ, suc, List, [], ◌∷◌, ◌++◌, length, take, drop, length-append, get_or, Bool, true, false, not, ◌&&◌, ◌||◌, ◌==◌, nat_le, nat_lt, IsTrue, None, codes, refl, ap, ◌∙◌, arith, if◌then◌else◌}
use Rattle.std.specs.List.{list_all, prefix_len}
use Rattle.std.specs.Str.{bytes_eq}
use Rattle.std.specs.Fmt.{decimal}
use Rattle.std.proofs.Math.Seq.{take-append_seam, drop-append_seam, drop-append-add}
use Rattle.std.specs.Int.{IsInRange}
use Rattle.std.proofs.lemmas.Bool.{lt-ltb}
use Rattle.std.proofs.lemmas.Fmt.{decimal_nonempty, first_decimal, decimal_digit, digits_decimal, digits_value-decimal}
use Rattle.std.proofs.lemmas.Str.Parse.{IsDigitsTest, IsNumeralModel, numerals_by_fold}
use Rattle.nal_term.specs.Names.{is_letter, is_digit, is_word_byte, is_word, is_reserved, is_text_byte, IsName, IsText}
use Rattle.nal_parse.specs.declared.tokens.Keyword.{Keyword}
use Rattle.nal_parse.specs.Tokens.{Lexeme, Cut, next_cut, cut, is_blank, after_blanks, run_length, keyword_of, word_lexeme, number_lexeme, variable_lexeme, is_number, value_after, quoted_length, cut_quoted}
use Rattle.nal_parse.specs.Tokens as lexeme

-- no letter, digit or `_` stands in front
abbrev pub Breaks : List ℕ → Type 0
Breaks tail = run_length tail ≡ 0

-- a run of passing bytes ends where the next ones begin with none
pub prefix_len-run : (p : ℕ → Bool) (xs tail : List ℕ) → IsTrue (list_all p xs) → prefix_len p tail ≡ 0 → prefix_len p (xs ++ tail) ≡ length xs
prefix_len-run p [] tail all stop = stop
prefix_len-run p (x ∷ xs) tail all stop = passing (p x) all (λ h. prefix_len-run p xs tail h stop)
  where
    passing : (b : Bool) → IsTrue (b && list_all p xs) → (IsTrue (list_all p xs) → prefix_len p (xs ++ tail) ≡ length xs) → (if b then 1 + prefix_len p (xs ++ tail) else 0) ≡ length (x ∷ xs)
    passing true all' longer = omega (arith, longer all')
    passing false all' longer = cc

pub both : (a b : Bool) → IsTrue (a && b) → (a ≡ true) × IsTrue b
both true b h = (refl, h)
both false b h = cc

neither : (a b : Bool) → IsTrue (not (a || b)) → (a ≡ false) × IsTrue (not b)
neither true b h = cc
neither false b h = (refl, h)

-- a letter or a digit is no blank
letter-blank : (b : ℕ) → is_letter b ≡ true → is_blank b ≡ false
letter-blank b h = grind arith

letter-word : (b : ℕ) → is_letter b ≡ true → is_word_byte b ≡ true
letter-word b h = rw h refl

pub digit-blank : (b : ℕ) → is_digit b ≡ true → is_blank b ≡ false
digit-blank b h = grind arith

digit-letter : (b : ℕ) → is_digit b ≡ true → is_letter b ≡ false
digit-letter b h = grind arith

pub digit-word : (b : ℕ) → is_digit b ≡ true → is_word_byte b ≡ true
digit-word b h = rw (digit-letter b h, h) refl

-- a text that begins with no blank is cut as it stands
cut_here : (b : ℕ) (bs : List ℕ) → is_blank b ≡ false → next_cut (b ∷ bs) ≡ cut (b ∷ bs)
unfolding next_cut
cut_here b bs h = rw h refl

-- blanks in front change nothing
pub after_space : (bs : List ℕ) → next_cut (32 ∷ bs) ≡ next_cut bs
unfolding next_cut
after_space bs = ap cut (ap (λ n. drop n (32 ∷ bs)) (let e : 1 + prefix_len is_blank bs ≡ suc (prefix_len is_blank bs) = omega arith in e))

-- what stands at a letter is a word
cut_letter : (b : ℕ) (bs : List ℕ) → is_letter b ≡ true
    → cut (b ∷ bs) ≡ (word_lexeme (take (run_length (b ∷ bs)) (b ∷ bs)), drop (run_length (b ∷ bs)) (b ∷ bs))
cut_letter b bs h = rw h refl

-- a text is cut where its front ends
front_cut : (lexeme_of : List ℕ → Lexeme) (xs tail : List ℕ) (n : ℕ) → n ≡ length xs → ◌≡◌ {A = Cut} (lexeme_of (take n (xs ++ tail)), drop n (xs ++ tail)) (lexeme_of xs, tail)
front_cut lexeme_of xs tail n e = rw (e, take-append_seam xs tail, drop-append_seam xs tail) refl

-- a word that is written is cut whole
word_cut : (b : ℕ) (bs tail : List ℕ) → is_letter b ≡ true → IsTrue (list_all is_word_byte bs) → Breaks tail
    → next_cut (b ∷ bs ++ tail) ≡ (word_lexeme (b ∷ bs), tail)
word_cut b bs tail letter rest stop =
    let run : run_length (b ∷ bs ++ tail) ≡ length (b ∷ bs) = prefix_len-run is_word_byte (b ∷ bs) tail (rw (letter-word b letter) rest) stop in
    cut_here b (bs ++ tail) (letter-blank b letter) ∙ cut_letter b (bs ++ tail) letter ∙ front_cut word_lexeme (b ∷ bs) tail _ run

-- a name is no reserved word
name_no_keyword : (x : List ℕ) → IsTrue (not (is_reserved x)) → keyword_of x ≡ None
name_no_keyword x h =
    let a = neither (bytes_eq x (codes "says")) _ h in
    let b = neither (bytes_eq x (codes "speaksfor")) _ a.1 in
    let c = neither (bytes_eq x (codes "on")) _ b.1 in
    let d = neither (bytes_eq x (codes "and")) _ c.1 in
    let e = neither (bytes_eq x (codes "or")) _ d.1 in
    let f = neither (bytes_eq x (codes "not")) _ e.1 in
    let g = neither (bytes_eq x (codes "forall")) _ f.1 in
    let i = neither (bytes_eq x (codes "exists")) _ g.1 in
    let j = neither (bytes_eq x (codes "true")) _ i.1 in
    let k = neither (bytes_eq x (codes "false")) _ j.1 in
    rw (a.0, b.0, c.0, d.0, e.0, f.0, g.0, i.0, j.0, k.0) refl

-- what is no reserved word and a name spells the name
name_lexeme : (x : List ℕ) → IsName x → keyword_of x ≡ None → word_lexeme x ≡ lexeme.name x
name_lexeme x h none = rw (none, h) refl

pub name_cut : (x tail : List ℕ) → IsName x → Breaks tail → next_cut (x ++ tail) ≡ (lexeme.name x, tail)
name_cut [] tail h stop = cc
name_cut (b ∷ bs) tail h stop =
    let w = both (is_word (b ∷ bs) && nat_le (length (b ∷ bs)) 64) (not (is_reserved (b ∷ bs))) h in
    let r = both (is_word (b ∷ bs)) (nat_le (length (b ∷ bs)) 64) w.0 in
    let l = both (is_letter b) (list_all is_word_byte bs) r.0 in
    word_cut b bs tail l.0 l.1 stop ∙ ap (λ (k : Lexeme). (k, tail)) (name_lexeme (b ∷ bs) h (name_no_keyword (b ∷ bs) w.1))

-- the bytes of a name are those of words
pub name_bytes : (x : List ℕ) → IsName x → IsTrue (list_all is_word_byte x)
name_bytes [] h = cc
name_bytes (b ∷ bs) h =
    let w = both (is_word (b ∷ bs) && nat_le (length (b ∷ bs)) 64) (not (is_reserved (b ∷ bs))) h in
    let r = both (is_word (b ∷ bs)) (nat_le (length (b ∷ bs)) 64) w.0 in
    let l = both (is_letter b) (list_all is_word_byte bs) r.0 in
    rw (letter-word b l.0) l.1

-- a variable that is written is cut whole
pub variable_cut : (x tail : List ℕ) → IsName x → Breaks tail → next_cut (63 ∷ x ++ tail) ≡ (lexeme.variable x, tail)
variable_cut x tail h stop =
    let run : run_length (x ++ tail) ≡ length x = prefix_len-run is_word_byte x tail (name_bytes x h) stop in
    cut_here 63 (x ++ tail) refl ∙ front_cut variable_lexeme x tail _ run ∙ ap (λ (k : Lexeme). (k, tail)) (rw h refl)

-- no byte of a quoted text is a quotation mark
pub text_unquoted : (x : List ℕ) → IsTrue (list_all is_text_byte x) → IsTrue (list_all (λ b. not (b == 34)) x)
text_unquoted [] h = refl
text_unquoted (b ∷ bs) h =
    let l = both (is_text_byte b) (list_all is_text_byte bs) h in
    let v = both (nat_le 32 b && nat_le b 126 && not (b == 34) && not (b == 59)) (not (b == 92)) l.0 in
    let w = both (nat_le 32 b && nat_le b 126 && not (b == 34)) (not (b == 59)) v.0 in
    let q = both (nat_le 32 b && nat_le b 126) (not (b == 34)) w.0 in
    rw q.1 (text_unquoted bs l.1)

-- a text is cut where its quotation mark stands
closed_cut : (x tail : List ℕ) → IsText x → quoted_length (x ++ 34 ∷ tail) ≡ length x → cut_quoted (x ++ 34 ∷ tail) ≡ (lexeme.quoted x, tail)
closed_cut x tail h run =
    let longer : nat_lt (length x) (length (x ++ 34 ∷ tail)) ≡ true = lt-ltb _ _ (omega (arith, length-append x (34 ∷ tail))) in
    rw (run, longer, take-append_seam x (34 ∷ tail), h, drop-append-add x (34 ∷ tail) 1) refl

-- a quoted text that is written is cut after its closing quotation mark
pub quoted_cut : (x tail : List ℕ) → IsText x → next_cut (34 ∷ x ++ 34 ∷ tail) ≡ (lexeme.quoted x, tail)
quoted_cut x tail h =
    let l = both (list_all is_text_byte x) (nat_le (length x) 256) h in
    let run : quoted_length (x ++ 34 ∷ tail) ≡ length x = prefix_len-run (λ b. not (b == 34)) x (34 ∷ tail) (text_unquoted x l.0) refl in
    cut_here 34 (x ++ 34 ∷ tail) refl ∙ closed_cut x tail h run

digit_range : (c : ℕ) → is_digit c ≡ true → IsInRange 48 57 c
digit_range c h = grind arith

range_digit : (c : ℕ) → IsInRange 48 57 c → is_digit c ≡ true
range_digit c h = grind arith

pub digits_words : (ds : List ℕ) → IsTrue (list_all is_digit ds) → IsTrue (list_all is_word_byte ds)
digits_words [] h = refl
digits_words (d ∷ ds) h = let l = both (is_digit d) (list_all is_digit ds) h in rw (digit-word d l.0) (digits_words ds l.1)

no_leading_zero : (d : ℕ) (ds : List ℕ) (n : ℕ) → (0 < n → 48 < get_or (d ∷ ds) 0 0) → (n ≡ 0 → length (d ∷ ds) ≡ 1) → (not (d == 48) || length ds == 0) ≡ true
no_leading_zero d ds n first single = grind arith

-- digits are what the library's numerals are made of
digits_test : IsDigitsTest (λ ds. IsTrue (list_all is_digit ds))
digits_test = record {
  empty = refl;
  parts = λ c cs h. let l = both (is_digit c) (list_all is_digit cs) h in (digit_range c l.0, l.1);
  more = λ c cs k h. rw (range_digit c k) h;
}

pub own_numerals : IsNumeralModel (λ ds. IsTrue (list_all is_digit ds)) (value_after 0)
own_numerals = numerals_by_fold _ digits_test value_after (record { empty = λ n. refl; more = λ n c cs k. refl })

-- what stands at a digit is a number
cut_digit : (b : ℕ) (bs : List ℕ) → is_digit b ≡ true
    → cut (b ∷ bs) ≡ (number_lexeme (take (run_length (b ∷ bs)) (b ∷ bs)), drop (run_length (b ∷ bs)) (b ∷ bs))
cut_digit b bs h = rw (digit-letter b h, h) refl

-- digits that are no leading zero, and whose number fits, spell it
digits_lexeme : (d : ℕ) (ds : List ℕ) (n : ℕ) → IsTrue (list_all is_digit (d ∷ ds)) → ((not (d == 48) || length ds == 0) ≡ true) → value_after 0 (d ∷ ds) ≡ n → n < 2 ^ 64
    → number_lexeme (d ∷ ds) ≡ lexeme.number n
digits_lexeme d ds n all first value small =
    let fits : nat_lt n (2 ^ 64) ≡ true = lt-ltb _ _ small in
    rw (all, first, value, fits) refl

digits_cut : (ds tail : List ℕ) (n : ℕ) → 0 < length ds → IsTrue (list_all is_digit ds) → (0 < n → 48 < get_or ds 0 0) → (n ≡ 0 → length ds ≡ 1) → value_after 0 ds ≡ n → n < 2 ^ 64 → Breaks tail
    → next_cut (ds ++ tail) ≡ (lexeme.number n, tail)
digits_cut [] tail n some all first single value small stop = absurd (omega arith)
digits_cut (d ∷ ds) tail n some all first single value small stop =
    let l = both (is_digit d) (list_all is_digit ds) all in
    let run : run_length (d ∷ ds ++ tail) ≡ length (d ∷ ds) = prefix_len-run is_word_byte (d ∷ ds) tail (digits_words (d ∷ ds) all) stop in
    cut_here d (ds ++ tail) (digit-blank d l.0) ∙ cut_digit d (ds ++ tail) l.0 ∙ front_cut number_lexeme (d ∷ ds) tail _ run
    ∙ ap (λ (k : Lexeme). (k, tail)) (digits_lexeme d ds n all (no_leading_zero d ds n first single) value small)

-- what is written of a number is its digits, which write it
pub number_digits : (n : ℕ) → n < 2 ^ 64 → IsTrue (list_all is_digit (decimal n)) × (value_after 0 (decimal n) ≡ n)
number_digits n h = (digits_decimal own_numerals n h, digits_value-decimal own_numerals n h)

digits_number : (ds : List ℕ) (n : ℕ) → 0 < length ds → IsTrue (list_all is_digit ds) → (0 < n → 48 < get_or ds 0 0) → (n ≡ 0 → length ds ≡ 1) → value_after 0 ds ≡ n → n < 2 ^ 64 → IsTrue (is_number ds)
digits_number [] n some all first single value small = absurd (omega arith)
digits_number (d ∷ ds) n some all first single value small =
    let fits : nat_lt n (2 ^ 64) ≡ true = lt-ltb _ _ small in
    rw (all, no_leading_zero d ds n first single, value, fits) refl

pub number_is_number : (n : ℕ) → n < 2 ^ 64 → IsTrue (is_number (decimal n))
number_is_number n h =
    digits_number (decimal n) n (decimal_nonempty n h) (digits_decimal own_numerals n h) (λ some. first_decimal n some h)
    (λ e. rw (decimal_digit n (omega arith)) refl) (digits_value-decimal own_numerals n h) h

-- a number that is written is cut whole
pub number_cut : (n : ℕ) (tail : List ℕ) → n < 2 ^ 64 → Breaks tail → next_cut (decimal n ++ tail) ≡ (lexeme.number n, tail)
number_cut n tail h stop =
    digits_cut (decimal n) tail n (decimal_nonempty n h) (digits_decimal own_numerals n h) (λ some. first_decimal n some h)
    (λ e. rw (decimal_digit n (omega arith)) refl) (digits_value-decimal own_numerals n h) h stop

-- a sign that is written is cut as it
pub sign_cut : (b : ℕ) (bs : List ℕ) {c : Cut} → is_blank b ≡ false → cut (b ∷ bs) ≡ c → next_cut (b ∷ bs) ≡ c
sign_cut b bs h e = cut_here b bs h ∙ e

-- a reserved word with blanks round it is cut as it
pub keyword_cut : (b : ℕ) (bs tail : List ℕ) (k : Keyword) → is_letter b ≡ true → IsTrue (list_all is_word_byte bs) → word_lexeme (b ∷ bs) ≡ lexeme.keyword k
    → next_cut (32 ∷ b ∷ bs ++ 32 ∷ tail) ≡ (lexeme.keyword k, 32 ∷ tail)
keyword_cut b bs tail k letter rest e = after_space (b ∷ bs ++ 32 ∷ tail) ∙ word_cut b bs (32 ∷ tail) letter rest refl ∙ ap (λ (l : Lexeme). (l, 32 ∷ tail)) e

-- a reserved word in front is cut as it
pub first_keyword_cut : (b : ℕ) (bs tail : List ℕ) (k : Keyword) → is_letter b ≡ true → IsTrue (list_all is_word_byte bs) → word_lexeme (b ∷ bs) ≡ lexeme.keyword k → Breaks tail
    → next_cut (b ∷ bs ++ tail) ≡ (lexeme.keyword k, tail)
first_keyword_cut b bs tail k letter rest e stop = word_cut b bs tail letter rest stop ∙ ap (λ (l : Lexeme). (l, tail)) e

-- where nothing is left, the text ends
pub nothing_left : (next_cut []).0 ≡ lexeme.end
unfolding next_cut
nothing_left = refl
