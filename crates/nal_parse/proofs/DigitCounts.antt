-- How many digits a number has.
use Rattle.std.proofs.Common.{◌≡◌, ◌≤◌, ◌<◌, ◌+◌, ◌/◌, ◌%◌, ◌^◌, ◌∷◌, [], ℕ, length, refl, length-append}
use Rattle.std.specs.Fmt.{decimal}
use Rattle.std.proofs.lemmas.Fmt.{decimal_step, decimal_digit}

pub more_digits : (n : ℕ) → 10 ≤ n → n < 2 ^ 64 → length (decimal n) ≡ length (decimal (n / 10)) + 1
more_digits n h small = rw (decimal_step n h small, length-append (decimal (n / 10)) ((48 + n % 10) ∷ [])) refl

pub one_digit : (n : ℕ) → n < 10 → length (decimal n) ≡ 1
one_digit n h = rw (decimal_digit n h) refl
