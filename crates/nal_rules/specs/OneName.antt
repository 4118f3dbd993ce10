-- The older rules, whose scopes are of one name: a name stands for the list of it alone, and only an atom
-- of its predicate and a comparison with it are in its scope. All else is as in `Derivation` and `Faults`. A
-- delegation to a scope of several names may stand in a derivation, but hands nothing on.
use Rattle.std.specs.Prelude.{◌≡◌, ◌⊎◌, ℕ, List, [], ◌∷◌, Some}
use Rattle.nal_term.specs.Trees.{TermTree, name, FormulaTree, atom, test, and, or, implies, forall, exists, says, speaks_for_on}
use Rattle.proof_lines.specs.declared.rules.Rule.{Rule}
use Rattle.proof_lines.specs.declared.rules.Rule.TheVariants.{SfOnE}
use Rattle.proof_lines.specs.Lines.{LineTree}
use Rattle.nal_rules.specs.Derivation.{◌⊢◌}
use Rattle.nal_rules.specs.Faults.{Applies, formulas_at, line_at}
use Rattle.nal_rules.specs.declared.verdicts.Fault.{Fault}
use Rattle.nal_rules.specs.declared.verdicts.Fault.TheVariants.{OutOfScope}

-- the formula is in the scope of the name
abbrev pub IsInScopeOfName : List ℕ → FormulaTree → Type 0
IsInScopeOfName n (atom p ts) = p ≡ n
IsInScopeOfName n (test c t u) = (t ≡ name n) ⊎ (u ≡ name n)
IsInScopeOfName n _ = ⊥

-- what a scope covers by the older rules: it is of one name, and the formula is in the scope of that
abbrev pub CoversByName : List (List ℕ) → FormulaTree → Type 0
CoversByName s f = (n : List ℕ) × (s ≡ n ∷ []) × IsInScopeOfName n f

-- the formula follows by the older rules
abbrev pub OneNameDerives : List FormulaTree → List FormulaTree → FormulaTree → Type 0
OneNameDerives labels answers f = ◌⊢◌ CoversByName labels answers [] f

-- each scope in the formula is of one name
abbrev pub HasOneNameScopes : FormulaTree → Type 0
HasOneNameScopes (and a b) = HasOneNameScopes a × HasOneNameScopes b
HasOneNameScopes (or a b) = HasOneNameScopes a × HasOneNameScopes b
HasOneNameScopes (implies a b) = HasOneNameScopes a × HasOneNameScopes b
HasOneNameScopes (forall x a) = HasOneNameScopes a
HasOneNameScopes (exists x a) = HasOneNameScopes a
HasOneNameScopes (says p a) = HasOneNameScopes a
HasOneNameScopes (speaks_for_on p q s) = (n : List ℕ) × (s ≡ n ∷ [])
HasOneNameScopes _ = Unit {0}

-- what is handed on is not in the scope of the delegation, which is a name
abbrev pub IsOutOfScopeOfName : Rule → List FormulaTree → Type 0
IsOutOfScopeOfName SfOnE (f ∷ g ∷ []) = (p : TermTree) × (q : TermTree) × (n : List ℕ) × (a : FormulaTree) × (f ≡ speaks_for_on p q (n ∷ [])) × (g ≡ says p a) × ¬ IsInScopeOfName n a
IsOutOfScopeOfName _ premises = ⊥

-- the fault applies to line k, which is `l`, under the older rules
abbrev pub OneNameApplies : List LineTree → FormulaTree → ℕ → LineTree → Fault → Type 0
OneNameApplies proof goal k l OutOfScope = (premises : List FormulaTree) × (formulas_at proof l.refs ≡ Some premises) × IsOutOfScopeOfName l.rule premises
OneNameApplies proof goal k l fault = Applies proof goal k l fault

-- no fault applies to line k under the older rules
abbrev pub IsOneNameFaultless : List LineTree → FormulaTree → ℕ → Type 0
IsOneNameFaultless proof goal k = (l : LineTree) → line_at proof k ≡ Some l → (fault : Fault) → ¬ OneNameApplies proof goal k l fault
