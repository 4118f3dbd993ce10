-- Each rule but those of quantifiers leads from what is true under the assumptions to what is true under them. A lemma has
-- the name of its rule; of `hyp` there is nothing to show.
use Rattle.std.proofs.Common.{◌⊎◌, inl, inr, ℕ, List}
use Rattle.std.specs.List.{All, Contains}
use Rattle.std.proofs.lemmas.List.Elements.{All-contains}
use Rattle.nal_term.specs.declared.formulas.Compare.{Compare}
use Rattle.nal_term.specs.declared.formulas.Compare.TheVariants.{Equal, Less, AtMost}
use Rattle.nal_term.specs.Trees.{TermTree, FormulaTree, number, subprincipal, verum, falsum, atom, test, and, or, implies, forall, exists, says, speaks_for, speaks_for_on}
use Rattle.nal_rules.specs.Scope.{IsInScope}
use Rattle.trust_check.specs.Valuation.{Assumptions, AreLoose, Holds, IsUntrusted, below}

module _ (a : Assumptions) where
  -- a formula in the scope of loose names is true
  loosely_true : (names : List (List ℕ)) (f : FormulaTree) → AreLoose a names → IsInScope names f → Holds a f
  loosely_true names (atom p ts) loose s = inl (All-contains (Contains a.loose) names p loose s)
  loosely_true names (test c t u) loose s = tt
  loosely_true names (and f g) loose s = (loosely_true names f loose s.0, loosely_true names g loose s.1)
  loosely_true names (or f g) loose s = inl (loosely_true names f loose s.0)
  loosely_true names (implies f g) loose s = λ h. loosely_true names g loose s.1
  loosely_true names verum loose s = absurd s
  loosely_true names falsum loose s = absurd s
  loosely_true names (forall x f) loose s = absurd s
  loosely_true names (exists x f) loose s = absurd s
  loosely_true names (says p f) loose s = absurd s
  loosely_true names (speaks_for p q) loose s = absurd s
  loosely_true names (speaks_for_on p q ns) loose s = absurd s

  pub label : (labels : List FormulaTree) (f : FormulaTree) → All (Holds a) labels → Contains labels f → Holds a f
  label labels f true_labels among = All-contains (Holds a) labels f true_labels among

  pub ask : (answers : List FormulaTree) (f : FormulaTree) → All (Holds a) answers → Contains answers f → Holds a f
  ask answers f true_answers among = All-contains (Holds a) answers f true_answers among

  pub true_i : Holds a verum
  true_i = tt

  pub and_i : (f g : FormulaTree) → Holds a f → Holds a g → Holds a (and f g)
  and_i f g h k = (h, k)

  pub and_l : (f g : FormulaTree) → Holds a (and f g) → Holds a f
  and_l f g h = h.0

  pub and_r : (f g : FormulaTree) → Holds a (and f g) → Holds a g
  and_r f g h = h.1

  pub or_l : (f g : FormulaTree) → Holds a f → Holds a (or f g)
  or_l f g h = inl h

  pub or_r : (f g : FormulaTree) → Holds a g → Holds a (or f g)
  or_r f g h = inr h

  pub or_e : (f g h : FormulaTree) → Holds a (or f g) → (Holds a f → Holds a h) → (Holds a g → Holds a h) → Holds a h
  or_e f g h (inl l) by_left by_right = by_left l
  or_e f g h (inr r) by_left by_right = by_right r

  pub imp_i : (f g : FormulaTree) → (Holds a f → Holds a g) → Holds a (implies f g)
  imp_i f g h = h

  pub imp_e : (f g : FormulaTree) → Holds a (implies f g) → Holds a f → Holds a g
  imp_e f g h k = h k

  pub false_e : (f : FormulaTree) → Holds a falsum → Holds a f
  false_e f h = absurd h

  pub eq_refl : (t : TermTree) → Holds a (test Equal t t)
  eq_refl t = tt

  pub eq_sym : (t u : TermTree) → Holds a (test Equal t u) → Holds a (test Equal u t)
  eq_sym t u h = tt

  pub eq_trans : (t u v : TermTree) → Holds a (test Equal t u) → Holds a (test Equal u v) → Holds a (test Equal t v)
  eq_trans t u v h k = tt

  pub arith : (c : Compare) (m n : ℕ) → Holds a (test c (number m) (number n))
  arith c m n = tt

  pub lt_trans : (t u v : TermTree) → Holds a (test Less t u) → Holds a (test Less u v) → Holds a (test Less t v)
  lt_trans t u v h k = tt

  pub lt_le_trans : (t u v : TermTree) → Holds a (test Less t u) → Holds a (test AtMost u v) → Holds a (test Less t v)
  lt_le_trans t u v h k = tt

  pub says_i : (p : TermTree) (f : FormulaTree) → Holds a f → Holds a (says p f)
  says_i p f h = inr h

  pub deduce : (p : TermTree) (f g : FormulaTree) → Holds a (says p (implies f g)) → Holds a (says p f) → Holds a (says p g)
  deduce p f g (inl untrusted) k = inl untrusted
  deduce p f g (inr h) (inl untrusted) = inl untrusted
  deduce p f g (inr h) (inr k) = inr (h k)

  pub says_join : (p : TermTree) (f : FormulaTree) → Holds a (says p (says p f)) → Holds a (says p f)
  says_join p f (inl untrusted) = inl untrusted
  says_join p f (inr h) = h

  pub sf_refl : (p : TermTree) → Holds a (speaks_for p p)
  sf_refl p = λ untrusted. untrusted

  pub sf_trans : (p q r : TermTree) → Holds a (speaks_for p q) → Holds a (speaks_for q r) → Holds a (speaks_for p r)
  sf_trans p q r h k = λ untrusted. k (h untrusted)

  pub sf_sub : (p : TermTree) (n : List ℕ) → Holds a (speaks_for p (subprincipal p n))
  sf_sub p n = λ untrusted. below untrusted

  pub sf_e : (p q : TermTree) (f : FormulaTree) → Holds a (speaks_for p q) → Holds a (says p f) → Holds a (says q f)
  sf_e p q f h (inl untrusted) = inl (h untrusted)
  sf_e p q f h (inr k) = inr k

  pub sf_on_e : (p q : TermTree) (names : List (List ℕ)) (f : FormulaTree) → Holds a (speaks_for_on p q names) → Holds a (says p f) → IsInScope names f → Holds a (says q f)
  sf_on_e p q names f h (inr k) s = inr k
  sf_on_e p q names f h (inl untrusted) s = by (h untrusted)
    where
      by : IsUntrusted a q ⊎ AreLoose a names → Holds a (says q f)
      by (inl bound) = inl bound
      by (inr loose) = inr (loosely_true names f loose s)

  pub sf_weak : (p q : TermTree) (names : List (List ℕ)) → Holds a (speaks_for p q) → Holds a (speaks_for_on p q names)
  sf_weak p q names h = λ untrusted. inl (h untrusted)

  pub handoff : (p q : TermTree) → Holds a (says q (speaks_for p q)) → Holds a (speaks_for p q)
  handoff p q (inl bound) = λ untrusted. bound
  handoff p q (inr h) = h

  pub handoff_on : (p q : TermTree) (names : List (List ℕ)) → Holds a (says q (speaks_for_on p q names)) → Holds a (speaks_for_on p q names)
  handoff_on p q names (inl bound) = λ untrusted. inl bound
  handoff_on p q names (inr h) = h
