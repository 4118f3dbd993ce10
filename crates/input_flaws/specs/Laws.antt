-- The law of flaws.
use Rattle.std.specs.Prelude.{◌≡◌, ℕ, List}
use Rattle.run_streams.specs.Flaws.{FlawTree}
use Rattle.input_flaws.specs.LineFlaws.{IsFlawAt}

-- a line of a text has one flaw
abbrev pub OneFlaw : Type 0
OneFlaw = (formulas terms : List (List ℕ)) (text : List ℕ) (k : ℕ) (a b : FlawTree) → IsFlawAt formulas terms text k a
    → IsFlawAt formulas terms text k b → a ≡ b
