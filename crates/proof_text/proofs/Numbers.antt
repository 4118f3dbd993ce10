-- A text begins with at most one list of so many numbers.
use Rattle.std.proofs.Common.{◌≡◌, ℕ, suc, ◌<◌, List, [], ◌∷◌, ◌++◌, length, refl, ap, subst, ◌∙◌, sym, arith}
use Rattle.nal_parse.specs.Tokens.{value_of_digits}
use Rattle.proof_text.specs.ProofText.{BeginsWithNumber, BeginsWithNumbers}
use Rattle.proof_text.specs.ProofText.BeginsWithNumbers.{none, number}
use Rattle.proof_text.specs.Inner.Reading.{Reads, NoForm}

pub number_same : (b : List ℕ) (n : ℕ) (r : List ℕ) (m : ℕ) (s : List ℕ) → BeginsWithNumber b n r → BeginsWithNumber b m s → (n ≡ m) × (r ≡ s)
number_same b n r m s h k = (h.3 ∙ (ap value_of_digits (h.1.0 ∙ sym k.1.0) ∙ sym k.3), h.1.1 ∙ sym k.1.1)

cons_same : {n m : ℕ} {ns ms : List ℕ} → n ≡ m → ns ≡ ms → n ∷ ns ≡ m ∷ ms
cons_same e f = cc

less : {i c : ℕ} → suc i < suc c → i < c
less h = omega arith

moved : {k : ℕ} {a b ns r : List ℕ} → a ≡ b → BeginsWithNumbers k a ns r → BeginsWithNumbers k b ns r
moved {k = k} {ns = ns} {r = r} e h = subst (λ x. BeginsWithNumbers k x ns r) e h

-- a number after numbers
pub numbers_push : {k n : ℕ} {ns b a r : List ℕ} → BeginsWithNumbers k b ns a → BeginsWithNumber a n r → BeginsWithNumbers (suc k) b (ns ++ n ∷ []) r
numbers_push none h = number h none
numbers_push (number g gs) h = number g (numbers_push gs h)

pub numbers_same : {k : ℕ} {b ns r ms s : List ℕ} → BeginsWithNumbers k b ns r → BeginsWithNumbers k b ms s → (ns ≡ ms) × (r ≡ s)
numbers_same none none = (refl, refl)
numbers_same (number {n = n} {bytes = b} {a = a} h hs) (number {n = m} {a = c} g gs) =
    let e = number_same b n a m c h g in
    let o = numbers_same hs (moved (sym e.1) gs) in
    (cons_same e.0 o.0, o.1)

-- where fewer numbers end, another begins
pub numbers_next : {i c : ℕ} {b ds a ns r : List ℕ} → BeginsWithNumbers i b ds a → BeginsWithNumbers c b ns r → i < c → (n : ℕ) × (s : List ℕ) × BeginsWithNumber a n s
numbers_next none none l = absurd (omega arith)
numbers_next none (number h hs) l = (_, _, h)
numbers_next (number g gs) none l = absurd (omega arith)
numbers_next (number {n = n} {bytes = b} {a = a} h hs) (number {n = m} {a = c} g gs) l =
    let e = number_same b n a m c h g in
    numbers_next hs (moved (sym e.1) gs) (less l)

pub numbers_length : {k : ℕ} {b ns r : List ℕ} → BeginsWithNumbers k b ns r → length ns ≡ k
numbers_length none = refl
numbers_length (number h hs) = ap suc (numbers_length hs)

pub numbers_read : (k : ℕ) (b ns r : List ℕ) → BeginsWithNumbers k b ns r → Reads (BeginsWithNumbers k b) ns r
numbers_read k b ns r h = record {
  form = h;
  only_value = λ v q g. (numbers_same g h).0;
  only_rest = λ v q g. (numbers_same g h).1;
}

pub numbers_stop : (i c : ℕ) (b ds a : List ℕ) → BeginsWithNumbers i b ds a → i < c → NoForm (BeginsWithNumber a) → NoForm (BeginsWithNumbers c b)
numbers_stop i c b ds a h l missing = λ ns r g. let w = numbers_next h g l in missing w.0 w.1 w.2
