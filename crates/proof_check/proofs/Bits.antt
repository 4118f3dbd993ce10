-- Sets of numbers of lines as bits.
use Rattle.std.proofs.Common.{◌≡◌, ℕ, zero, suc, ◌-◌, ◌*◌, ◌%◌, ◌^◌, ◌<◌, max, Bool, true, false, not, ◌&&◌, ◌||◌, nat_eq, nat_lt, if◌then◌else◌, refl, sym, ap, ◌∙◌, subst, arith}
use Rattle.std.specs.Int.{bit_at, w128}
use Rattle.std.specs.Int.RustNames.{bit_or, bit_and}
use Rattle.std.proofs.lemmas.Bool.{eqb-true, eq-eqb}
use Rattle.std.proofs.lemmas.Nat.Bits.{bit_at-lt, bit_at_or, bit_at_set_same, bit_at_set_other, bit_at_clear_same, bit_at_clear_other}
use Rattle.proof_check.specs.declared.line_sets.LineSet.{LineSet}
use Rattle.proof_check.specs.Inner.LineSets.{has_bit, holds}

by_equal : (k i : ℕ) (P : Bool → Type 0) → (k ≡ i → P true) → ((k ≡ i → ⊥) → P false) → P (nat_eq k i)
by_equal k i P same other = split (nat_eq k i) refl
  where
    split : (b : Bool) → nat_eq k i ≡ b → P b
    split true e = same (eqb-true k i e)
    split false e = other (λ s. let t = eq-eqb k i s in absurd (cc (e, t)))

greater_bit : (a b : ℕ) → a < 2 → b < 2 → nat_eq (max a b) 1 ≡ (nat_eq a 1 || nat_eq b 1)
greater_bit zero zero h k = refl
greater_bit zero (suc zero) h k = refl
greater_bit (suc zero) zero h k = refl
greater_bit (suc zero) (suc zero) h k = refl
greater_bit (suc (suc a)) b h k = absurd (omega (arith, h))
greater_bit zero (suc (suc b)) h k = absurd (omega (arith, k))
greater_bit (suc zero) (suc (suc b)) h k = absurd (omega (arith, k))

either_bit : (a b i : ℕ) → has_bit (bit_or a b) i ≡ (has_bit a i || has_bit b i)
either_bit a b i = ap (λ x. nat_eq x 1) (bit_at_or a b i) ∙ greater_bit (bit_at a i) (bit_at b i) (bit_at-lt a i) (bit_at-lt b i)

-- a word with one bit set
pub bit_set : (word place i : ℕ) → place < 128 → has_bit (bit_or word (1 * 2 ^ place % 2 ^ 128)) i ≡ (nat_eq place i || has_bit word i)
bit_set word place i h =
    by_equal place i (λ b. has_bit (bit_or word (1 * 2 ^ place % 2 ^ 128)) i ≡ (b || has_bit word i)) (λ s. subst (λ n. has_bit (bit_or word (1 * 2 ^ place % 2 ^ 128)) n ≡ true) s (ap (λ x. nat_eq x 1) (bit_at_set_same w128 word place h))) (λ n. ap (λ x. nat_eq x 1) (bit_at_set_other w128 word place h i (λ e. n (sym e))))

-- and with one cleared
pub bit_cleared : (word place i : ℕ) → place < 128 → i < 128 → has_bit (bit_and word (2 ^ 128 - 1 - 1 * 2 ^ place % 2 ^ 128)) i ≡ (not (nat_eq place i) && has_bit word i)
bit_cleared word place i h k =
    by_equal place i (λ b. has_bit (bit_and word (2 ^ 128 - 1 - 1 * 2 ^ place % 2 ^ 128)) i ≡ (not b && has_bit word i)) (λ s. subst (λ n. has_bit (bit_and word (2 ^ 128 - 1 - 1 * 2 ^ place % 2 ^ 128)) n ≡ false) s (ap (λ x. nat_eq x 1) (bit_at_clear_same w128 word place h))) (λ n. ap (λ x. nat_eq x 1) (bit_at_clear_other w128 word place h i k (λ e. n (sym e))))

in_parts : (b c x y z w : Bool) → (if b then x || z else (if c then y || w else false)) ≡ ((if b then x else (if c then y else false)) || (if b then z else (if c then w else false)))
in_parts true c x y z w = refl
in_parts false true x y z w = refl
in_parts false false x y z w = refl

-- what is in one set or in the other
pub holds_joined : (s t : LineSet) (h : ℕ) → holds record { low = bit_or s.low t.low; high = bit_or s.high t.high } h ≡ (holds s h || holds t h)
holds_joined s t zero = refl
holds_joined s t (suc k) =
    rw (either_bit s.low t.low k, either_bit s.high t.high (k - 128)) (in_parts (nat_lt k 128) (nat_lt k 256) (has_bit s.low k) (has_bit s.high (k - 128)) (has_bit t.low k) (has_bit t.high (k - 128)))
