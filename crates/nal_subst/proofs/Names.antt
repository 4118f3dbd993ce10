-- A name holds no variable, so that a substitution of a name captures none.
use Rattle.std.proofs.Common.{◌≢◌, refl, ℕ, List, Bool, true, false, Option, Some, None, option_map, if◌then◌else◌}
use Rattle.std.specs.Str.{bytes_eq}
use Rattle.nal_subst.specs.Substitution.{both, formula_with}
use Rattle.nal_term.specs.Free.{is_free_in}
use Rattle.nal_term.specs.Trees.{name, FormulaTree, verum, falsum, atom, test, and, or, implies, forall, exists, says, speaks_for, speaks_for_on}

both_defined : (make : FormulaTree → FormulaTree → FormulaTree) (p q : Option FormulaTree) → p ≢ None → q ≢ None → both make p q ≢ None
both_defined make None q d e n = d refl
both_defined make (Some a) None d e n = e refl
both_defined make (Some a) (Some b) d e n = absurd (cc n)

map_defined : (make : FormulaTree → FormulaTree) (p : Option FormulaTree) → p ≢ None → option_map make p ≢ None
map_defined make None d n = d refl
map_defined make (Some a) d n = absurd (cc n)

below_defined : (make : FormulaTree → FormulaTree) (a : FormulaTree) (r : Option FormulaTree) (same free : Bool) → r ≢ None →
    (if same then Some (make a) else option_map make (if free then r else Some a)) ≢ None
below_defined make a r true free d n = absurd (cc n)
below_defined make a r false true d n = map_defined make r d n
below_defined make a r false false d n = absurd (cc n)

pub name_defined : (x y : List ℕ) (f : FormulaTree) → formula_with x (name y) f ≢ None
name_defined x y verum n = absurd (cc n)
name_defined x y falsum n = absurd (cc n)
name_defined x y (atom p ts) n = absurd (cc n)
name_defined x y (test c u v) n = absurd (cc n)
name_defined x y (and a b) n = both_defined and _ _ (name_defined x y a) (name_defined x y b) n
name_defined x y (or a b) n = both_defined or _ _ (name_defined x y a) (name_defined x y b) n
name_defined x y (implies a b) n = both_defined implies _ _ (name_defined x y a) (name_defined x y b) n
name_defined x y (forall z a) n = below_defined (λ g. forall z g) a (formula_with x (name y) a) (bytes_eq x z) (is_free_in x a) (name_defined x y a) n
name_defined x y (exists z a) n = below_defined (λ g. exists z g) a (formula_with x (name y) a) (bytes_eq x z) (is_free_in x a) (name_defined x y a) n
name_defined x y (says u a) n = map_defined _ _ (name_defined x y a) n
name_defined x y (speaks_for u v) n = absurd (cc n)
name_defined x y (speaks_for_on u v s) n = absurd (cc n)
