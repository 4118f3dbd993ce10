-- What more digits do to a number.
use Rattle.std.proofs.Common.{ℕ, ◌+◌, ◌-◌, ◌*◌, ◌≤◌, List, [], ◌∷◌, arith}
use Rattle.nal_parse.specs.Tokens.{value_after}

-- more digits never make a number smaller
pub value_after_ge : (ds : List ℕ) (n : ℕ) → n ≤ value_after n ds
value_after_ge [] n = omega arith
value_after_ge (d ∷ ds) n = omega (arith, value_after_ge ds (n * 10 + (d - 48)))
