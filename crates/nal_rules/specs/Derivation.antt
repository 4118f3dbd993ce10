-- Derivations: what follows from labels and answers by the rules of the logic. A derivation is a tree,
-- and knows no line numbers.
use Rattle.std.specs.Prelude.{◌≡◌, ◌<◌, ◌≤◌, ℕ, List, [], ◌∷◌, ◌++◌, false, Contains, All, Some}
use Rattle.nal_term.specs.declared.formulas.Compare.{Compare}
use Rattle.nal_term.specs.declared.formulas.Compare.TheVariants.{Equal, Less, AtMost}
use Rattle.nal_term.specs.Trees.{TermTree, number, subprincipal, FormulaTree, verum, falsum, test, and, or, implies, forall, exists, says, speaks_for, speaks_for_on}
use Rattle.nal_term.specs.Free.{is_free_in, IsClosed}
use Rattle.nal_subst.specs.Substitution.{formula_with}
use Rattle.nal_rules.specs.Scope.{IsInScope}

-- the comparison of two numbers holds
abbrev pub ComparisonHolds : Compare → ℕ → ℕ → Type 0
ComparisonHolds Equal m n = m ≡ n
ComparisonHolds Less m n = m < n
ComparisonHolds AtMost m n = m ≤ n

-- the second list is the first with every item that equals `a` taken out
pub data TakesOut : FormulaTree → List FormulaTree → List FormulaTree → Type 0 where
  nothing : {a : FormulaTree} → TakesOut a [] []
  takes : {a : FormulaTree} {xs ys : List FormulaTree} → TakesOut a xs ys → TakesOut a (a ∷ xs) ys
  leaves : {a x : FormulaTree} {xs ys : List FormulaTree} → (x ≡ a → ⊥) → TakesOut a xs ys → TakesOut a (x ∷ xs) (x ∷ ys)

-- the variable is free in none of the formulas
abbrev pub IsFresh : List ℕ → List FormulaTree → Type 0
IsFresh x open_list = All (λ f. is_free_in x f ≡ false) open_list

-- the formulas of the open hypotheses on which a conclusion rests
abbrev pub Hypotheses : Type 0
Hypotheses = List FormulaTree

-- What stays the same in a derivation: what a scope covers, so that a restricted delegation hands it on, the labels that are held,
-- and the statements to which authorities answered Yes.
module _ (Covers : List (List ℕ) → FormulaTree → Type 0) (labels answers : List FormulaTree) where
  infix 3 ◌⊢◌
  -- `xs ⊢ f`: a tree of rules has the conclusion `f` and the open hypotheses `xs`. Its label leaves are among the labels, and its ask
  -- leaves among the answers
  pub data ◌⊢◌ : Hypotheses → FormulaTree → Type 0 where
    label : {f : FormulaTree} → Contains labels f → IsClosed f → [] ⊢ f
    ask : {p : TermTree} {f : FormulaTree} → Contains answers (says p f) → IsClosed (says p f) → [] ⊢ says p f
    hyp : {f : FormulaTree} → f ∷ [] ⊢ f
    true_i : [] ⊢ verum
    and_i : {xs ys : Hypotheses} {a b : FormulaTree} → xs ⊢ a → ys ⊢ b → xs ++ ys ⊢ and a b
    and_l : {xs : Hypotheses} {a b : FormulaTree} → xs ⊢ and a b → xs ⊢ a
    and_r : {xs : Hypotheses} {a b : FormulaTree} → xs ⊢ and a b → xs ⊢ b
    or_l : {xs : Hypotheses} {a b : FormulaTree} → xs ⊢ a → xs ⊢ or a b
    or_r : {xs : Hypotheses} {a b : FormulaTree} → xs ⊢ b → xs ⊢ or a b
    or_e : {xs ys ys' zs zs' : Hypotheses} {a b c : FormulaTree} → xs ⊢ or a b → ys ⊢ c → TakesOut a ys ys' → zs ⊢ c → TakesOut b zs zs'
        → xs ++ ys' ++ zs' ⊢ c
    imp_i : {xs xs' : Hypotheses} {a b : FormulaTree} → xs ⊢ b → TakesOut a xs xs' → xs' ⊢ implies a b
    imp_e : {xs ys : Hypotheses} {a b : FormulaTree} → xs ⊢ implies a b → ys ⊢ a → xs ++ ys ⊢ b
    false_e : {xs : Hypotheses} {c : FormulaTree} → xs ⊢ falsum → xs ⊢ c
    forall_i : {xs : Hypotheses} {x : List ℕ} {a : FormulaTree} → xs ⊢ a → IsFresh x xs → xs ⊢ forall x a
    forall_e : {xs : Hypotheses} {x : List ℕ} (t : TermTree) {a b : FormulaTree} → xs ⊢ forall x a → formula_with x t a ≡ Some b → xs ⊢ b
    exists_i : {xs : Hypotheses} {x : List ℕ} (t : TermTree) {a b : FormulaTree} → xs ⊢ b → formula_with x t a ≡ Some b → xs ⊢ exists x a
    exists_e : {xs ys ys' : Hypotheses} {x : List ℕ} {a c : FormulaTree} → xs ⊢ exists x a → ys ⊢ c → TakesOut a ys ys'
        → is_free_in x c ≡ false → IsFresh x ys' → xs ++ ys' ⊢ c
    eq_refl : {t : TermTree} → [] ⊢ test Equal t t
    eq_sym : {xs : Hypotheses} {t u : TermTree} → xs ⊢ test Equal t u → xs ⊢ test Equal u t
    eq_trans : {xs ys : Hypotheses} {t u v : TermTree} → xs ⊢ test Equal t u → ys ⊢ test Equal u v → xs ++ ys ⊢ test Equal t v
    arith : {c : Compare} {m n : ℕ} → ComparisonHolds c m n → [] ⊢ test c (number m) (number n)
    lt_trans : {xs ys : Hypotheses} {a b c : TermTree} → xs ⊢ test Less a b → ys ⊢ test Less b c → xs ++ ys ⊢ test Less a c
    lt_le_trans : {xs ys : Hypotheses} {a b c : TermTree} → xs ⊢ test Less a b → ys ⊢ test AtMost b c → xs ++ ys ⊢ test Less a c
    says_i : {xs : Hypotheses} {p : TermTree} {f : FormulaTree} → xs ⊢ f → xs ⊢ says p f
    deduce : {xs ys : Hypotheses} {p : TermTree} {f g : FormulaTree} → xs ⊢ says p (implies f g) → ys ⊢ says p f → xs ++ ys ⊢ says p g
    says_join : {xs : Hypotheses} {p : TermTree} {f : FormulaTree} → xs ⊢ says p (says p f) → xs ⊢ says p f
    sf_refl : {p : TermTree} → [] ⊢ speaks_for p p
    sf_trans : {xs ys : Hypotheses} {p q r : TermTree} → xs ⊢ speaks_for p q → ys ⊢ speaks_for q r → xs ++ ys ⊢ speaks_for p r
    sf_sub : {p : TermTree} {n : List ℕ} → [] ⊢ speaks_for p (subprincipal p n)
    sf_e : {xs ys : Hypotheses} {p q : TermTree} {f : FormulaTree} → xs ⊢ speaks_for p q → ys ⊢ says p f → xs ++ ys ⊢ says q f
    sf_on_e : {xs ys : Hypotheses} {p q : TermTree} {s : List (List ℕ)} {f : FormulaTree} → xs ⊢ speaks_for_on p q s → ys ⊢ says p f
        → Covers s f → xs ++ ys ⊢ says q f
    sf_weak : {xs : Hypotheses} {p q : TermTree} {s : List (List ℕ)} → xs ⊢ speaks_for p q → xs ⊢ speaks_for_on p q s
    handoff : {xs : Hypotheses} {p q : TermTree} → xs ⊢ says q (speaks_for p q) → xs ⊢ speaks_for p q
    handoff_on : {xs : Hypotheses} {p q : TermTree} {s : List (List ℕ)} → xs ⊢ says q (speaks_for_on p q s) → xs ⊢ speaks_for_on p q s

-- a derivation by the rules of the logic: a scope covers what is in it
abbrev pub Derivation : List FormulaTree → List FormulaTree → List FormulaTree → FormulaTree → Type 0
Derivation labels answers xs f = ◌⊢◌ IsInScope labels answers xs f

-- the formula follows: a derivation of it has no open hypothesis
abbrev pub Derives : List FormulaTree → List FormulaTree → FormulaTree → Type 0
Derives labels answers f = Derivation labels answers [] f
