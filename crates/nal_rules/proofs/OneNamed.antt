-- What the older rules allow, these allow.
use Rattle.std.proofs.Common.{◌≡◌, ℕ, List, [], ◌∷◌, Option, Some, None, option_map, option_and_then, zero, suc, arith as by_arith, refl, sym, subst, inl, inr}
use Rattle.std.specs.List.{All, Contains, slice_get}
use Rattle.std.proofs.lemmas.List.Elements.{All-head, All-tail}
use Rattle.nal_term.specs.Trees.{TermTree, FormulaTree, atom, test, speaks_for_on, says, verum, falsum, and, or, implies, forall, exists, speaks_for}
use Rattle.nal_rules.specs.Scope.{IsInScope, IsNameOf}
use Rattle.nal_rules.specs.Derivation.{◌⊢◌, Derivation, label, ask, hyp, true_i, and_i, and_l, and_r, or_l, or_r, or_e, imp_i, imp_e, false_e, forall_i, forall_e, exists_i, exists_e, eq_refl, eq_sym, eq_trans, arith, lt_trans, lt_le_trans, says_i, deduce, says_join, sf_refl, sf_trans, sf_sub, sf_e, sf_on_e, sf_weak, handoff, handoff_on}
use Rattle.proof_lines.specs.declared.rules.Rule.{Rule}
use Rattle.proof_lines.specs.declared.rules.Rule.TheVariants.{Label, Ask, Hyp, TrueI, AndI, AndL, AndR, OrL, OrR, OrE, ImpI, ImpE, FalseE, ForallI, ForallE, ExistsI, ExistsE, EqRefl, EqSym, EqTrans, Arith, LtTrans, SaysI, Deduce, SaysJoin, SfRefl, SfTrans, SfSub, SfE, SfOnE, SfWeak, Handoff, HandoffOn}
use Rattle.proof_lines.specs.Lines.{LineTree}
use Rattle.nal_rules.specs.Faults.{Applies, IsOutOfScope, formula_at, formulas_at}
use Rattle.nal_rules.specs.declared.verdicts.Fault.{Fault}
use Rattle.nal_rules.specs.declared.verdicts.Fault.TheVariants.{NoSuchRef, NotHyp, WrongShape, Capture, NotFresh, OutOfScope, NotTrue, TooManyAsks, NotAsk, NotClosed, StillOpen, NotGoal}
use Rattle.nal_rules.specs.OneName.{HasOneNameScopes, IsOutOfScopeOfName, OneNameApplies, IsInScopeOfName, CoversByName}

-- the one name of a scope is in it
only : (n : List ℕ) → Contains (n ∷ []) n
only n = (0, omega by_arith, refl)

-- what is in the scope of a name is in that of the list of it alone
pub in_scope : (n : List ℕ) (f : FormulaTree) → IsInScopeOfName n f → IsInScope (n ∷ []) f
in_scope n (atom p ts) e = subst (λ x. Contains (n ∷ []) x) (sym e) (only n)
in_scope n (test c t u) (inl e) = inl (subst (λ x. IsNameOf (n ∷ []) x) (sym e) (only n))
in_scope n (test c t u) (inr e) = inr (subst (λ x. IsNameOf (n ∷ []) x) (sym e) (only n))
in_scope n verum e = elim e [ ]
in_scope n falsum e = elim e [ ]
in_scope n (and a b) e = elim e [ ]
in_scope n (or a b) e = elim e [ ]
in_scope n (implies a b) e = elim e [ ]
in_scope n (forall x a) e = elim e [ ]
in_scope n (exists x a) e = elim e [ ]
in_scope n (says p a) e = elim e [ ]
in_scope n (speaks_for p q) e = elim e [ ]
in_scope n (speaks_for_on p q s) e = elim e [ ]

-- what a scope covers by the older rules is in it
covered : (s : List (List ℕ)) (f : FormulaTree) → CoversByName s f → IsInScope s f
covered s f (n, e, h) = subst (λ s. IsInScope s f) (sym e) (in_scope n f h)

pub derived : {labels answers xs : List FormulaTree} {f : FormulaTree} → ◌⊢◌ CoversByName labels answers xs f → Derivation labels answers xs f
derived (label h c) = label h c
derived (ask h c) = ask h c
derived hyp = hyp
derived true_i = true_i
derived (and_i d e) = and_i (derived d) (derived e)
derived (and_l d) = and_l (derived d)
derived (and_r d) = and_r (derived d)
derived (or_l d) = or_l (derived d)
derived (or_r d) = or_r (derived d)
derived (or_e d e s h t) = or_e (derived d) (derived e) s (derived h) t
derived (imp_i d t) = imp_i (derived d) t
derived (imp_e d e) = imp_e (derived d) (derived e)
derived (false_e d) = false_e (derived d)
derived (forall_i d n) = forall_i (derived d) n
derived (forall_e t d s) = forall_e t (derived d) s
derived (exists_i t d s) = exists_i t (derived d) s
derived (exists_e d e t n m) = exists_e (derived d) (derived e) t n m
derived eq_refl = eq_refl
derived (eq_sym d) = eq_sym (derived d)
derived (eq_trans d e) = eq_trans (derived d) (derived e)
derived (arith h) = arith h
derived (lt_trans d e) = lt_trans (derived d) (derived e)
derived (lt_le_trans d e) = lt_le_trans (derived d) (derived e)
derived (says_i d) = says_i (derived d)
derived (deduce d e) = deduce (derived d) (derived e)
derived (says_join d) = says_join (derived d)
derived sf_refl = sf_refl
derived (sf_trans d e) = sf_trans (derived d) (derived e)
derived sf_sub = sf_sub
derived (sf_e d e) = sf_e (derived d) (derived e)
derived (sf_on_e d e s) = sf_on_e (derived d) (derived e) (covered _ _ s)
derived (sf_weak d) = sf_weak (derived d)
derived (handoff d) = handoff (derived d)
derived (handoff_on d) = handoff_on (derived d)

-- a delegation in a formula whose scopes are of one name has such a scope
one_name : (f : FormulaTree) (p q : TermTree) (s : List (List ℕ)) → f ≡ speaks_for_on p q s → HasOneNameScopes f → (n : List ℕ) × (s ≡ n ∷ [])
one_name f p q s e h = subst (λ g. HasOneNameScopes g) e h

-- each formula to which references refer has scopes of one name, where those of all lines do
abbrev AreOneNamed : List FormulaTree → Type 0
AreOneNamed [] = Unit {0}
AreOneNamed (f ∷ fs) = HasOneNameScopes f × AreOneNamed fs

formula_named : (proof : List LineTree) → All (λ l. HasOneNameScopes l.formula) proof → (i : ℕ) (f : FormulaTree) → option_map (λ l. l.formula) (slice_get proof i) ≡ Some f → HasOneNameScopes f
formula_named [] h i f e = absurd (cc e)
formula_named (l ∷ ls) h zero f e =
    let s : l.formula ≡ f = cc e in
    subst (λ g. HasOneNameScopes g) s (All-head (λ l. HasOneNameScopes l.formula) l ls h)
formula_named (l ∷ ls) h (suc i) f e = formula_named ls (All-tail (λ l. HasOneNameScopes l.formula) l ls h) i f e

line_named : (proof : List LineTree) → All (λ l. HasOneNameScopes l.formula) proof → (k : ℕ) (f : FormulaTree) → formula_at proof k ≡ Some f → HasOneNameScopes f
line_named proof h zero f e = absurd (cc e)
line_named proof h (suc i) f e = formula_named proof h i f e

premises_named : (proof : List LineTree) → All (λ l. HasOneNameScopes l.formula) proof → (refs : List ℕ) (premises : List FormulaTree) → formulas_at proof refs ≡ Some premises → AreOneNamed premises
premises_named proof h [] premises e = let s : [] ≡ premises = cc e in subst (λ fs. AreOneNamed fs) s tt
premises_named proof h (k ∷ refs) premises e =
    split (formula_at proof k) (line_named proof h k) (formulas_at proof refs) (premises_named proof h refs) e
  where
    split : (o : Option FormulaTree) → ((f : FormulaTree) → o ≡ Some f → HasOneNameScopes f) → (os : Option (List FormulaTree)) → ((fs : List FormulaTree) → os ≡ Some fs → AreOneNamed fs)
        → option_and_then (λ f. option_map (λ fs. f ∷ fs) os) o ≡ Some premises → AreOneNamed premises
    split None d os ds e = absurd (cc e)
    split (Some f) d None ds e = absurd (cc e)
    split (Some f) d (Some fs) ds e =
        let s : f ∷ fs ≡ premises = cc e in
        subst (λ gs. AreOneNamed gs) s (d f refl, ds fs refl)

-- what is out of scope now was out of scope
older_out_of_scope : (rule : Rule) (premises : List FormulaTree) → AreOneNamed premises → IsOutOfScope rule premises → IsOutOfScopeOfName rule premises
older_out_of_scope SfOnE (f ∷ g ∷ []) named (p, q, s, a, e, d, out) =
    let w = one_name f p q s e named.0 in
    (p, q, w.0, a, subst (λ s. f ≡ speaks_for_on p q s) w.1 e, d, λ within. out (subst (λ s. IsInScope s a) (sym w.1) (in_scope w.0 a within)))
older_out_of_scope Label premises named out = elim out [ ]
older_out_of_scope Ask premises named out = elim out [ ]
older_out_of_scope Hyp premises named out = elim out [ ]
older_out_of_scope TrueI premises named out = elim out [ ]
older_out_of_scope AndI premises named out = elim out [ ]
older_out_of_scope AndL premises named out = elim out [ ]
older_out_of_scope AndR premises named out = elim out [ ]
older_out_of_scope OrL premises named out = elim out [ ]
older_out_of_scope OrR premises named out = elim out [ ]
older_out_of_scope OrE premises named out = elim out [ ]
older_out_of_scope ImpI premises named out = elim out [ ]
older_out_of_scope ImpE premises named out = elim out [ ]
older_out_of_scope FalseE premises named out = elim out [ ]
older_out_of_scope ForallI premises named out = elim out [ ]
older_out_of_scope ForallE premises named out = elim out [ ]
older_out_of_scope ExistsI premises named out = elim out [ ]
older_out_of_scope ExistsE premises named out = elim out [ ]
older_out_of_scope EqRefl premises named out = elim out [ ]
older_out_of_scope EqSym premises named out = elim out [ ]
older_out_of_scope EqTrans premises named out = elim out [ ]
older_out_of_scope Arith premises named out = elim out [ ]
older_out_of_scope LtTrans premises named out = elim out [ ]
older_out_of_scope SaysI premises named out = elim out [ ]
older_out_of_scope Deduce premises named out = elim out [ ]
older_out_of_scope SaysJoin premises named out = elim out [ ]
older_out_of_scope SfRefl premises named out = elim out [ ]
older_out_of_scope SfTrans premises named out = elim out [ ]
older_out_of_scope SfSub premises named out = elim out [ ]
older_out_of_scope SfE premises named out = elim out [ ]
older_out_of_scope SfWeak premises named out = elim out [ ]
older_out_of_scope Handoff premises named out = elim out [ ]
older_out_of_scope HandoffOn premises named out = elim out [ ]
older_out_of_scope SfOnE [] named out = elim out [ ]
older_out_of_scope SfOnE (f ∷ []) named out = elim out [ ]
older_out_of_scope SfOnE (f ∷ g ∷ h ∷ fs) named out = elim out [ ]

-- a fault that applies to a line applied to it
pub older_applies : (proof : List LineTree) (goal : FormulaTree) (k : ℕ) (l : LineTree) → All (λ l. HasOneNameScopes l.formula) proof → (fault : Fault) → Applies proof goal k l fault → OneNameApplies proof goal k l fault
older_applies proof goal k l h OutOfScope (premises, e, out) = (premises, e, older_out_of_scope l.rule premises (premises_named proof h l.refs premises e) out)
older_applies proof goal k l h NoSuchRef applies = applies
older_applies proof goal k l h NotHyp applies = applies
older_applies proof goal k l h WrongShape applies = applies
older_applies proof goal k l h Capture applies = applies
older_applies proof goal k l h NotFresh applies = applies
older_applies proof goal k l h NotTrue applies = applies
older_applies proof goal k l h TooManyAsks applies = applies
older_applies proof goal k l h NotAsk applies = applies
older_applies proof goal k l h NotClosed applies = applies
older_applies proof goal k l h StillOpen applies = applies
older_applies proof goal k l h NotGoal applies = applies
