-- Numbers and texts in frames: how long they are, that bytes begin with one of them at most, and how they are read.
use Rattle.std.proofs.Common.{◌≡◌, ◌≢◌, ◌<◌, ◌≤◌, ◌+◌, ◌-◌, ◌^◌, ℕ, List, ◌++◌, length, take, drop, refl, sym, ap, ◌∙◌, arith, append_assoc, length-append, length-drop}
use Rattle.std.proofs.Math.Seq.{drop-append_seam, take-append_seam}
use Rattle.std.proofs.lemmas.List.{take-append-drop, take_all, length-take-le, get_or-take}
use Rattle.std.proofs.lemmas.Nat.{be_bytes_2, be_bytes_4, be_bytes_8}
use Rattle.std.proofs.lemmas.Grind.{common_steps}
use Rattle.std.specs.Int.{from_be_bytes, w16, w32, w64}
use Rattle.byteorder.specs.Endian.{big_bytes, big_number}
use Rattle.byteorder.specs.Numbers.{big_from-lt, big_from-take, big_number-reads_back, length-bytes_high_first}
use Rattle.session_wire.specs.Inner.Taking.{AreBytes}
use Rattle.session_wire.specs.Frames.{IsNumber64, IsShort, length_bytes, number_bytes, text_bytes}

-- fronts of one length are one, and so is what follows them
pub same_fronts : (a b x y : List ℕ) → length a ≡ length b → a ++ x ≡ b ++ y → (a ≡ b) × (x ≡ y)
same_fronts a b x y l e = (
  sym (take-append_seam a x) ∙ ap (take (length a)) e ∙ ap (λ (n : ℕ). take n (b ++ y)) l ∙ take-append_seam b y,
  sym (drop-append_seam a x) ∙ ap (drop (length a)) e ∙ ap (λ (n : ℕ). drop n (b ++ y)) l ∙ drop-append_seam b y,
)

-- bytes begin with one number of k bytes at most
one_number_in : (k n m : ℕ) (x y : List ℕ) → n < 256 ^ k → m < 256 ^ k → big_bytes k n ++ x ≡ big_bytes k m ++ y → (n ≡ m) × (x ≡ y)
one_number_in k n m x y n_fits m_fits e =
    let same : n ≡ m = sym (big_number-reads_back k n x n_fits) ∙ ap (big_number k) e ∙ big_number-reads_back k m y m_fits in
    (same, (same_fronts (big_bytes k n) (big_bytes k m) x y (length-bytes_high_first k n ∙ sym (length-bytes_high_first k m)) e).1)

pub length-length_bytes : (n : ℕ) → length (length_bytes n) ≡ 4
unfolding length_bytes
length-length_bytes n = length-bytes_high_first 4 n

pub length-number_bytes : (n : ℕ) → length (number_bytes n) ≡ 8
unfolding number_bytes
length-number_bytes n = length-bytes_high_first 8 n

pub length-text_bytes : (text : List ℕ) → length (text_bytes text) ≡ 2 + length text
unfolding text_bytes
length-text_bytes text = length-append (big_bytes 2 (length text)) text ∙ ap (λ (n : ℕ). n + length text) (length-bytes_high_first 2 (length text))

-- bytes begin with one length, one number and one text at most
pub one_length : (n m : ℕ) (x y : List ℕ) → n < 2 ^ 32 → m < 2 ^ 32 → length_bytes n ++ x ≡ length_bytes m ++ y → (n ≡ m) × (x ≡ y)
unfolding length_bytes
one_length n m x y n_fits m_fits e = one_number_in 4 n m x y n_fits m_fits e

pub one_number : (n m : ℕ) (x y : List ℕ) → IsNumber64 n → IsNumber64 m → number_bytes n ++ x ≡ number_bytes m ++ y → (n ≡ m) × (x ≡ y)
unfolding number_bytes
one_number n m x y n_fits m_fits e = one_number_in 8 n m x y n_fits m_fits e

pub one_text : (s t x y : List ℕ) → IsShort s → IsShort t → text_bytes s ++ x ≡ text_bytes t ++ y → (s ≡ t) × (x ≡ y)
unfolding text_bytes
one_text s t x y s_fits t_fits e =
    let heads = one_number_in 2 (length s) (length t) (s ++ x) (t ++ y) s_fits t_fits
    (sym (append_assoc (big_bytes 2 (length s)) s x) ∙ e ∙ append_assoc (big_bytes 2 (length t)) t y) in
    same_fronts s t x y heads.0 heads.1

-- the bytes at a front are bytes
front_bytes : (n : ℕ) (bytes : List ℕ) → n ≤ length bytes → AreBytes bytes → AreBytes (take n bytes)
front_bytes n bytes long are i = grind (arith, common_steps, are i, get_or-take n bytes i 0)

-- a number is the sum of its bytes, each by what it is worth
sum_4 : (xs : List ℕ) → big_number 4 xs ≡ from_be_bytes w32 xs
sum_4 xs = omega arith

sum_8 : (xs : List ℕ) → big_number 8 xs ≡ from_be_bytes w64 xs
sum_8 xs = omega arith

sum_2 : (xs : List ℕ) → big_number 2 xs ≡ from_be_bytes w16 xs
sum_2 xs = omega arith

-- the number that is read of the first bytes is the one that they spell
pub length_read : (bytes : List ℕ) → 4 ≤ length bytes → AreBytes bytes → length_bytes (big_number 4 bytes) ≡ take 4 bytes
unfolding length_bytes
length_read bytes long are = be_bytes_4 (take 4 bytes) (big_number 4 bytes) (length-take-le 4 bytes long) (front_bytes 4 bytes long are) (sym (big_from-take 0 4 4 bytes (omega arith)) ∙ sum_4 (take 4 bytes))

pub number_read : (bytes : List ℕ) → 8 ≤ length bytes → AreBytes bytes → number_bytes (big_number 8 bytes) ≡ take 8 bytes
unfolding number_bytes
number_read bytes long are = be_bytes_8 (take 8 bytes) (big_number 8 bytes) (length-take-le 8 bytes long) (front_bytes 8 bytes long are) (sym (big_from-take 0 8 8 bytes (omega arith)) ∙ sum_8 (take 8 bytes))

pub short_read : (bytes : List ℕ) → 2 ≤ length bytes → AreBytes bytes → big_bytes 2 (big_number 2 bytes) ≡ take 2 bytes
short_read bytes long are = be_bytes_2 (take 2 bytes) (big_number 2 bytes) (length-take-le 2 bytes long) (front_bytes 2 bytes long are) (sym (big_from-take 0 2 2 bytes (omega arith)) ∙ sum_2 (take 2 bytes))

-- the rest of bytes behind their first n
pub rest_of : (n : ℕ) (bytes : List ℕ) → n ≤ length bytes → take (length bytes - n) (drop n bytes) ≡ drop n bytes
rest_of n bytes long = take_all (length bytes - n) (drop n bytes) (omega (arith, length-drop n bytes))

-- a front that is known, and the rest
cut_at : (n : ℕ) (bytes front : List ℕ) → n ≤ length bytes → front ≡ take n bytes → bytes ≡ front ++ take (length bytes - n) (drop n bytes)
cut_at n bytes front long e =
    sym (take-append-drop n bytes) ∙ ap (λ (xs : List ℕ). xs ++ drop n bytes) (sym e) ∙ ap (λ (xs : List ℕ). front ++ xs) (sym (rest_of n bytes long))

-- fewer than eight bytes begin with no number
pub no_number : (bytes : List ℕ) → length bytes < 8 → (n : ℕ) (rest : List ℕ) → IsNumber64 n → bytes ≢ number_bytes n ++ rest
no_number bytes short n rest fits e = omega (arith, ap length e, length-append (number_bytes n) rest, length-number_bytes n)

-- eight bytes are a number
pub number_cut : (bytes : List ℕ) (n : ℕ) → AreBytes bytes → 8 ≤ length bytes → n ≡ big_number 8 bytes → bytes ≡ number_bytes n ++ take (length bytes - 8) (drop 8 bytes)
number_cut bytes n are long e = cut_at 8 bytes (number_bytes n) long (ap number_bytes e ∙ number_read bytes long are)

-- the first two bytes of a text are its length
text_told : (bytes text rest : List ℕ) → IsShort text → bytes ≡ text_bytes text ++ rest → big_number 2 bytes ≡ length text
unfolding text_bytes
text_told bytes text rest fits e =
    ap (big_number 2) (e ∙ append_assoc (big_bytes 2 (length text)) text rest) ∙ big_number-reads_back 2 (length text) (text ++ rest) fits

-- fewer than two bytes, or fewer than they tell, begin with no text
pub no_text_length : (bytes : List ℕ) → length bytes < 2 → (text rest : List ℕ) → IsShort text → bytes ≢ text_bytes text ++ rest
no_text_length bytes short text rest fits e = omega (arith, ap length e, length-append (text_bytes text) rest, length-text_bytes text)

pub no_text : (bytes : List ℕ) → 2 ≤ length bytes → length (take (length bytes - 2) (drop 2 bytes)) < big_number 2 bytes → (text rest : List ℕ) → IsShort text → bytes ≢ text_bytes text ++ rest
no_text bytes long less text rest fits e =
    let all = ap length (rest_of 2 bytes long) in
    omega (arith, ap length e, length-append (text_bytes text) rest, length-text_bytes text, text_told bytes text rest fits e, length-drop 2 bytes, all)

-- a length and as many bytes are a text
pub text_cut : (bytes : List ℕ) (n : ℕ) → AreBytes bytes → 2 ≤ length bytes → n ≡ big_number 2 bytes → n ≤ length (take (length bytes - 2) (drop 2 bytes))
    → IsShort (take n (take (length bytes - 2) (drop 2 bytes)))
    × (bytes ≡ text_bytes (take n (take (length bytes - 2) (drop 2 bytes))) ++ take (length (take (length bytes - 2) (drop 2 bytes)) - n) (drop n (take (length bytes - 2) (drop 2 bytes))))
unfolding text_bytes
text_cut bytes n are long e enough =
    let rest = take (length bytes - 2) (drop 2 bytes) in
    let text = take n rest in
    let size : length text ≡ n = length-take-le n rest enough in
    let small : big_number 2 bytes < 65536 = big_from-lt 0 2 bytes are in
    let head : big_bytes 2 (length text) ≡ take 2 bytes = ap (big_bytes 2) (size ∙ e) ∙ short_read bytes long are in (
      omega (arith, size, e, small),
      cut_at 2 bytes (big_bytes 2 (length text)) long head
          ∙ ap (λ (xs : List ℕ). big_bytes 2 (length text) ++ xs) (cut_at n rest text enough refl)
          ∙ sym (append_assoc (big_bytes 2 (length text)) text (take (length rest - n) (drop n rest))),
    )

-- eight bytes are one number
pub number_alone : (bytes : List ℕ) (n : ℕ) → AreBytes bytes → length bytes ≡ 8 → n ≡ big_number 8 bytes → number_bytes n ≡ bytes
number_alone bytes n are size e = ap number_bytes e ∙ number_read bytes (omega arith) are ∙ take_all 8 bytes (omega arith)
