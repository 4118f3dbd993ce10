use Rattle.std.proofs.Common.{◌≡◌, List, [], ◌∷◌, arith, ℕ, length}
use Rattle.nal_parse.specs.Tokens.{value_after}
use Rattle.nal_parse.proofs.tokens.value_of_digits.Goals as goal

at_end : (rest : List ℕ) (all value : ℕ) → length rest ≡ 0 → value_after value rest ≡ all → value ≡ all
at_end [] all value h e = e
at_end (d ∷ ds) all value h e = absurd (omega arith)

pub returns-in-None : goal.returns-in-None
returns-in-None c =
    let e = at_end _ _ _ c.in-None.ensures.cases c.loop-first.invariant.1 in
    (omega (arith, c.loop-first.invariant.2, e), e)
