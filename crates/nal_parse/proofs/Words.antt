-- A run of letters, digits and `_` that begins with a letter is a word, and a word that is not reserved is told to be a name by its length.
use Rattle.std.proofs.Common.{◌≡◌, ◌+◌, ℕ, suc, List, [], ◌∷◌, length, take, Bool, true, false, nat_le, codes, ◌&&◌, ◌||◌, Some, None, if◌then◌else◌, refl, arith}
use Rattle.std.specs.List.{list_all, prefix_len}
use Rattle.nal_term.specs.Names.{is_letter, is_name, is_reserved, is_word, is_word_byte}
use Rattle.std.specs.Str.{bytes_eq}
use Rattle.nal_parse.specs.declared.tokens.Keyword.{Keyword}
use Rattle.nal_parse.specs.declared.tokens.Keyword.TheVariants.{Says, SpeaksFor, On, And, Or, Not, Forall, Exists, True, False}
use Rattle.nal_parse.specs.Tokens.{keyword_of, run_length}

-- each byte of a run passes
run_passes : (p : ℕ → Bool) (bs : List ℕ) → list_all p (take (prefix_len p bs) bs) ≡ true
run_passes p [] = refl
run_passes p (b ∷ bs) = of (p b) refl (run_passes p bs)
  where
    of : (passes : Bool) → p b ≡ passes → list_all p (take (prefix_len p bs) bs) ≡ true → list_all p (take (if passes then 1 + prefix_len p bs else 0) (b ∷ bs)) ≡ true
    of true e others = let one : 1 + prefix_len p bs ≡ suc (prefix_len p bs) = omega arith in rw (one, e) others
    of false e others = refl

letter_passes : (b : ℕ) → is_letter b ≡ true → is_word_byte b ≡ true
letter_passes b e = rw e refl

pub run_is_word : (text : List ℕ) (b : ℕ) (bs : List ℕ) → text ≡ b ∷ bs → is_letter b ≡ true → is_word (take (run_length text) text) ≡ true
run_is_word text b bs is letter =
    let long : run_length (b ∷ bs) ≡ suc (run_length bs) = rw (letter_passes b letter) (omega arith) in
    rw (is, long, letter) (run_passes is_word_byte bs)

-- where no reserved word is found, none of them is the word
unfound : (a b c d e f g h i j : Bool) (q r s t u v w x y z : Keyword)
    → (if a then Some q else (if b then Some r else (if c then Some s else (if d then Some t else (if e then Some u else (if f then Some v else (if g then Some w else (if h then Some x else (if i then Some y else (if j then Some z else None)))))))))) ≡ None
    → (a || (b || (c || (d || (e || (f || (g || (h || (i || (j || false)))))))))) ≡ false
unfound true b c d e f g h i j q r s t u v w x y z n = absurd (cc n)
unfound false true c d e f g h i j q r s t u v w x y z n = absurd (cc n)
unfound false false true d e f g h i j q r s t u v w x y z n = absurd (cc n)
unfound false false false true e f g h i j q r s t u v w x y z n = absurd (cc n)
unfound false false false false true f g h i j q r s t u v w x y z n = absurd (cc n)
unfound false false false false false true g h i j q r s t u v w x y z n = absurd (cc n)
unfound false false false false false false true h i j q r s t u v w x y z n = absurd (cc n)
unfound false false false false false false false true i j q r s t u v w x y z n = absurd (cc n)
unfound false false false false false false false false true j q r s t u v w x y z n = absurd (cc n)
unfound false false false false false false false false false true q r s t u v w x y z n = absurd (cc n)
unfound false false false false false false false false false false q r s t u v w x y z n = refl

unreserved : (word : List ℕ) → keyword_of word ≡ None → is_reserved word ≡ false
unreserved word n =
    unfound (is (codes "says")) (is (codes "speaksfor")) (is (codes "on")) (is (codes "and")) (is (codes "or")) (is (codes "not")) (is (codes "forall")) (is (codes "exists")) (is (codes "true")) (is (codes "false"))
    Says SpeaksFor On And Or Not Forall Exists True False n
  where
    is : List ℕ → Bool
    is other = bytes_eq word other

pub unreserved_name : (word : List ℕ) → is_word word ≡ true → keyword_of word ≡ None → is_name word ≡ nat_le (length word) 64
unreserved_name word is n = rw (is, unreserved word n) (and_true (nat_le (length word) 64))
  where
    and_true : (b : Bool) → (b && true) ≡ b
    and_true true = refl
    and_true false = refl
