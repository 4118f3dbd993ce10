-- A valuation of formulas under which nothing that somebody says is questioned: what is said, each
-- delegation and each comparison is true, no atom is, the connectives are classical, and a quantified
-- formula is as true as its body.
use Rattle.std.specs.Prelude.{Bool, true, false, not, ◌&&◌, ◌||◌}
use Rattle.nal_term.specs.Trees.{FormulaTree, verum, falsum, atom, test, and, or, implies, forall, exists, says, speaks_for, speaks_for_on}

-- the truth value of the formula
abbrev pub truth_of : FormulaTree → Bool
truth_of verum = true
truth_of falsum = false
truth_of (atom p ts) = false
truth_of (test c t u) = true
truth_of (and a b) = truth_of a && truth_of b
truth_of (or a b) = truth_of a || truth_of b
truth_of (implies a b) = not (truth_of a) || truth_of b
truth_of (forall x a) = truth_of a
truth_of (exists x a) = truth_of a
truth_of (says p a) = true
truth_of (speaks_for p q) = true
truth_of (speaks_for_on p q s) = true
