-- A substitution for a variable that is not free in a formula changes nothing. So below a quantifier whose
-- variable does not occur in the term, the substitution is that of the part alone.
use Rattle.std.proofs.Common.{◌≡◌, ◌≢◌, ◌↔◌, ℕ, List, [], ◌∷◌, Bool, true, false, not, ◌&&◌, ◌||◌, Option, Some, None, option_map, map, if◌then◌else◌, refl, sym, ap}
use Rattle.std.specs.Str.{bytes_eq}
use Rattle.nal_subst.specs.Inner.Below.{part_with}
use Rattle.nal_subst.specs.Substitution.{term_with, both, under, formula_with}
use Rattle.nal_term.specs.Free.{occurs_in, occurs_in_some, is_free_in}
use Rattle.nal_term.specs.Trees.{TermTree, number, name, text, variable, subprincipal, FormulaTree, verum, falsum, atom, test, and, or, implies, forall, exists, says, speaks_for, speaks_for_on}

or_left : (a b : Bool) → (a || b) ≡ false → a ≡ false
or_left true b e = e
or_left false b e = refl

or_right : (a b : Bool) → (a || b) ≡ false → b ≡ false
or_right true b e = absurd (cc e)
or_right false b e = e

other : (t u : TermTree) (same : Bool) → same ≡ false → (if same then t else u) ≡ u
other t u true e = absurd (cc e)
other t u false e = refl

pub term_same : (x : List ℕ) (t u : TermTree) → occurs_in x u ≡ false → term_with x t u ≡ u
term_same x t (number n) e = refl
term_same x t (name y) e = refl
term_same x t (text y) e = refl
term_same x t (variable y) e = other t (variable y) (bytes_eq x y) e
term_same x t (subprincipal u y) e = ap (λ (w : TermTree). subprincipal w y) (term_same x t u e)

pub terms_same : (x : List ℕ) (t : TermTree) (us : List TermTree) → occurs_in_some x us ≡ false → map (λ u. term_with x t u) us ≡ us
terms_same x t [] e = refl
terms_same x t (u ∷ us) e =
    let first = term_same x t u (or_left (occurs_in x u) (occurs_in_some x us) e) in
    let rest = terms_same x t us (or_right (occurs_in x u) (occurs_in_some x us) e) in
    cc (first, rest)

below : (x : List ℕ) (t : TermTree) (y : List ℕ) (a : FormulaTree) (make : FormulaTree → FormulaTree) (same free : Bool) (r : Option FormulaTree) → (not same && free) ≡ false →
    (if same then Some (make a) else option_map make (if free then r else Some a)) ≡ Some (make a)
below x t y a make true free r e = refl
below x t y a make false true r e = absurd (cc e)
below x t y a make false false r e = refl

two : (make : FormulaTree → FormulaTree → FormulaTree) (a b : FormulaTree) (p q : Option FormulaTree) → p ≡ Some a → q ≡ Some b → both make p q ≡ Some (make a b)
two make a b p q e d = rw (e, d) refl

pub formula_same : (x : List ℕ) (t : TermTree) (f : FormulaTree) → is_free_in x f ≡ false → formula_with x t f ≡ Some f
formula_same x t verum e = refl
formula_same x t falsum e = refl
formula_same x t (atom p ts) e = ap (λ (us : List TermTree). Some (atom p us)) (terms_same x t ts e)
formula_same x t (test c u v) e =
    let first = term_same x t u (or_left (occurs_in x u) (occurs_in x v) e) in
    let second = term_same x t v (or_right (occurs_in x u) (occurs_in x v) e) in
    cc (first, second)
formula_same x t (and a b) e = two and a b _ _ (formula_same x t a (or_left _ _ e)) (formula_same x t b (or_right _ _ e))
formula_same x t (or a b) e = two or a b _ _ (formula_same x t a (or_left _ _ e)) (formula_same x t b (or_right _ _ e))
formula_same x t (implies a b) e = two implies a b _ _ (formula_same x t a (or_left _ _ e)) (formula_same x t b (or_right _ _ e))
formula_same x t (forall y a) e = below x t y a (λ g. forall y g) (bytes_eq x y) (is_free_in x a) (if occurs_in y t then None else formula_with x t a) e
formula_same x t (exists y a) e = below x t y a (λ g. exists y g) (bytes_eq x y) (is_free_in x a) (if occurs_in y t then None else formula_with x t a) e
formula_same x t (says u a) e =
    let first = term_same x t u (or_left (occurs_in x u) (is_free_in x a) e) in
    let second = formula_same x t a (or_right (occurs_in x u) (is_free_in x a) e) in
    rw (first, second) refl
formula_same x t (speaks_for u v) e =
    let first = term_same x t u (or_left (occurs_in x u) (occurs_in x v) e) in
    let second = term_same x t v (or_right (occurs_in x u) (occurs_in x v) e) in
    cc (first, second)
formula_same x t (speaks_for_on u v s) e =
    let first = term_same x t u (or_left (occurs_in x u) (occurs_in x v) e) in
    let second = term_same x t v (or_right (occurs_in x u) (occurs_in x v) e) in
    cc (first, second)

choice : (a : FormulaTree) (r : Option FormulaTree) (free occurs : Bool) → occurs ≡ false → (free ≡ false → r ≡ Some a) →
    (if free then (if occurs then None else r) else Some a) ≡ r
choice a r true true e h = absurd (cc e)
choice a r true false e h = refl
choice a r false occurs e h = sym (h refl)

-- below a quantifier whose variable does not occur in the term
pub under_other : (x : List ℕ) (t : TermTree) (y : List ℕ) (a : FormulaTree) → occurs_in y t ≡ false → under x t y a (formula_with x t a) ≡ formula_with x t a
under_other x t y a e = choice a (formula_with x t a) (is_free_in x a) (occurs_in y t) e (formula_same x t a)

forall_is : (y z : List ℕ) (r : Option FormulaTree) (b : FormulaTree) → (option_map (λ g. forall y g) r ≡ Some (forall z b)) ↔ ((y ≡ z) × (r ≡ Some b))
forall_is y z None b = (λ (e : None ≡ Some (forall z b)). absurd (cc e), λ p. absurd (cc (p.1)))
forall_is y z (Some h) b = (λ (e : Some (forall y h) ≡ Some (forall z b)). (cc e, cc e), λ p. cc (p.0, p.1))

exists_is : (y z : List ℕ) (r : Option FormulaTree) (b : FormulaTree) → (option_map (λ g. exists y g) r ≡ Some (exists z b)) ↔ ((y ≡ z) × (r ≡ Some b))
exists_is y z None b = (λ (e : None ≡ Some (exists z b)). absurd (cc e), λ p. absurd (cc (p.1)))
exists_is y z (Some h) b = (λ (e : Some (exists y h) ≡ Some (exists z b)). (cc e, cc e), λ p. cc (p.0, p.1))

-- what a quantifier becomes
part_is : (make : FormulaTree → FormulaTree) (a : FormulaTree) (r : Option FormulaTree) (same : Bool) →
    (if same then Some (make a) else option_map make r) ≡ option_map make (if same then Some a else r)
part_is make a r true = refl
part_is make a r false = refl

pub forall_yes : (x : List ℕ) (t : TermTree) (y z : List ℕ) (a b : FormulaTree) →
    (formula_with x t (forall y a) ≡ Some (forall z b)) ↔ ((y ≡ z) × (part_with x t y a ≡ Some b))
forall_yes x t y z a b = rw (part_is (λ g. forall y g) a (under x t y a (formula_with x t a)) (bytes_eq x y)) (forall_is y z (part_with x t y a) b)

pub exists_yes : (x : List ℕ) (t : TermTree) (y z : List ℕ) (a b : FormulaTree) →
    (formula_with x t (exists y a) ≡ Some (exists z b)) ↔ ((y ≡ z) × (part_with x t y a ≡ Some b))
exists_yes x t y z a b = rw (part_is (λ g. exists y g) a (under x t y a (formula_with x t a)) (bytes_eq x y)) (exists_is y z (part_with x t y a) b)

defined_choice : (a : FormulaTree) (r : Option FormulaTree) (free occurs : Bool) → (free ≡ false → r ≡ Some a) →
    (if free then (if occurs then None else r) else Some a) ≢ None → (if free then (if occurs then None else r) else Some a) ≡ r
defined_choice a r true true h d = absurd (d refl)
defined_choice a r true false h d = refl
defined_choice a r false occurs h d = sym (h refl)

-- below a quantifier where nothing is captured
pub under_defined : (x : List ℕ) (t : TermTree) (y : List ℕ) (a : FormulaTree) → under x t y a (formula_with x t a) ≢ None → under x t y a (formula_with x t a) ≡ formula_with x t a
under_defined x t y a d = defined_choice a (formula_with x t a) (is_free_in x a) (occurs_in y t) (formula_same x t a) d
