-- A formula is covered by a list of variables exactly where each variable outside the list is not free in it,
-- and the same of terms. So it is closed where the empty list covers it.
use Rattle.std.proofs.Common.{◌≡◌, ℕ, List, [], ◌∷◌, Bool, true, false, not, ◌&&◌, ◌||◌, ◌↔◌, IsTrue, refl, sym, ◌∙◌}
use Rattle.std.proofs.lemmas.Slice.Eq.{bytes_eq-Decides}
use Rattle.std.specs.Str.{bytes_eq}
use Rattle.nal_term.specs.Closed.{is_among, covers, covers_term, covers_terms}
use Rattle.nal_term.specs.Free.{IsClosed, IsClosedBut, IsClosedTerm, is_free_in, occurs_in, occurs_in_some}
use Rattle.nal_term.specs.Trees.{TermTree, number, name, text, variable, subprincipal, FormulaTree, verum, falsum, atom, test, and, or, implies, forall, exists, says, speaks_for, speaks_for_on}

pub bytes_eq_refl : (x : List ℕ) → bytes_eq x x ≡ true
bytes_eq_refl x = (bytes_eq-Decides x x).1 refl

both : (a b : Bool) → a ≡ true → b ≡ true → (a && b) ≡ true
both a b p q = cc (p, q)

and_left : (a b : Bool) → (a && b) ≡ true → a ≡ true
and_left true b e = refl
and_left false b e = e

and_right : (a b : Bool) → (a && b) ≡ true → b ≡ true
and_right true b e = e
and_right false b e = absurd (cc e)

neither : (a b : Bool) → a ≡ false → b ≡ false → (a || b) ≡ false
neither true b p q = p
neither false b p q = q

or_left : (a b : Bool) → (a || b) ≡ false → a ≡ false
or_left true b e = e
or_left false b e = refl

or_right : (a b : Bool) → (a || b) ≡ false → b ≡ false
or_right true b e = absurd (cc e)
or_right false b e = e

-- a quantifier over another variable binds nothing of this one
below : (same free : Bool) → (same ≡ false → free ≡ false) → (not same && free) ≡ false
below true free h = refl
below false free h = h refl

below_back : (same free : Bool) → (not same && free) ≡ false → same ≡ false → free ≡ false
below_back true free e s = absurd (cc s)
below_back false free e s = e

-- a test holds where its failure is absurd
found : (among : Bool) → (among ≡ false → true ≡ false) → among ≡ true
found true h = refl
found false h = sym (h refl)

-- a variable that is among the names, and one that is not, are two
apart : (bs : List (List ℕ)) (x y : List ℕ) (same : Bool) → bytes_eq x y ≡ same → is_among bs y ≡ true → is_among bs x ≡ false → bytes_eq x y ≡ false
apart bs x y false e c o = e
apart bs x y true e c o = let s : x ≡ y = (bytes_eq-Decides x y).0 e in absurd (cc (s, c, o))

-- what is covered has no variable outside the list
pub term_forward : (bs : List (List ℕ)) (t : TermTree) → covers_term bs t ≡ true → (x : List ℕ) → is_among bs x ≡ false → occurs_in x t ≡ false
term_forward bs (number n) c x o = refl
term_forward bs (name y) c x o = refl
term_forward bs (text y) c x o = refl
term_forward bs (variable y) c x o = apart bs x y (bytes_eq x y) refl c o
term_forward bs (subprincipal t y) c x o = term_forward bs t c x o

pub terms_forward : (bs : List (List ℕ)) (ts : List TermTree) → covers_terms bs ts ≡ true → (x : List ℕ) → is_among bs x ≡ false → occurs_in_some x ts ≡ false
terms_forward bs [] c x o = refl
terms_forward bs (t ∷ ts) c x o =
    neither _ _ (term_forward bs t (and_left _ _ c) x o) (terms_forward bs ts (and_right _ _ c) x o)

pub forward : (bs : List (List ℕ)) (f : FormulaTree) → covers bs f ≡ true → (x : List ℕ) → is_among bs x ≡ false → is_free_in x f ≡ false
forward bs verum c x o = refl
forward bs falsum c x o = refl
forward bs (atom p ts) c x o = terms_forward bs ts c x o
forward bs (test k t u) c x o =
    neither _ _ (term_forward bs t (and_left _ _ c) x o) (term_forward bs u (and_right _ _ c) x o)
forward bs (and a b) c x o = neither _ _ (forward bs a (and_left _ _ c) x o) (forward bs b (and_right _ _ c) x o)
forward bs (or a b) c x o = neither _ _ (forward bs a (and_left _ _ c) x o) (forward bs b (and_right _ _ c) x o)
forward bs (implies a b) c x o = neither _ _ (forward bs a (and_left _ _ c) x o) (forward bs b (and_right _ _ c) x o)
forward bs (forall y a) c x o =
    below (bytes_eq x y) (is_free_in x a) (λ (s : bytes_eq x y ≡ false). forward (y ∷ bs) a c x (neither _ _ s o))
forward bs (exists y a) c x o =
    below (bytes_eq x y) (is_free_in x a) (λ (s : bytes_eq x y ≡ false). forward (y ∷ bs) a c x (neither _ _ s o))
forward bs (says t a) c x o = neither _ _ (term_forward bs t (and_left _ _ c) x o) (forward bs a (and_right _ _ c) x o)
forward bs (speaks_for t u) c x o =
    neither _ _ (term_forward bs t (and_left _ _ c) x o) (term_forward bs u (and_right _ _ c) x o)
forward bs (speaks_for_on t u s) c x o =
    neither _ _ (term_forward bs t (and_left _ _ c) x o) (term_forward bs u (and_right _ _ c) x o)

-- what has no variable outside the list is covered
pub term_back : (bs : List (List ℕ)) (t : TermTree) → ((x : List ℕ) → is_among bs x ≡ false → occurs_in x t ≡ false) → covers_term bs t ≡ true
term_back bs (number n) h = refl
term_back bs (name y) h = refl
term_back bs (text y) h = refl
term_back bs (variable y) h =
    found (is_among bs y) (λ (o : is_among bs y ≡ false). sym (bytes_eq_refl y) ∙ h y o)
term_back bs (subprincipal t y) h = term_back bs t h

pub terms_back : (bs : List (List ℕ)) (ts : List TermTree) → ((x : List ℕ) → is_among bs x ≡ false → occurs_in_some x ts ≡ false) → covers_terms bs ts ≡ true
terms_back bs [] h = refl
terms_back bs (t ∷ ts) h =
    both _ _ (term_back bs t (λ x o. or_left (occurs_in x t) (occurs_in_some x ts) (h x o)))
    (terms_back bs ts (λ x o. or_right (occurs_in x t) (occurs_in_some x ts) (h x o)))

two_back : (bs : List (List ℕ)) (t u : TermTree) → ((x : List ℕ) → is_among bs x ≡ false → (occurs_in x t || occurs_in x u) ≡ false) → (covers_term bs t && covers_term bs u) ≡ true
two_back bs t u h =
    both _ _ (term_back bs t (λ x o. or_left (occurs_in x t) (occurs_in x u) (h x o)))
    (term_back bs u (λ x o. or_right (occurs_in x t) (occurs_in x u) (h x o)))

pub back : (bs : List (List ℕ)) (f : FormulaTree) → ((x : List ℕ) → is_among bs x ≡ false → is_free_in x f ≡ false) → covers bs f ≡ true
back bs verum h = refl
back bs falsum h = refl
back bs (atom p ts) h = terms_back bs ts h
back bs (test k t u) h = two_back bs t u h
back bs (and a b) h =
    both _ _ (back bs a (λ x o. or_left (is_free_in x a) (is_free_in x b) (h x o)))
    (back bs b (λ x o. or_right (is_free_in x a) (is_free_in x b) (h x o)))
back bs (or a b) h =
    both _ _ (back bs a (λ x o. or_left (is_free_in x a) (is_free_in x b) (h x o)))
    (back bs b (λ x o. or_right (is_free_in x a) (is_free_in x b) (h x o)))
back bs (implies a b) h =
    both _ _ (back bs a (λ x o. or_left (is_free_in x a) (is_free_in x b) (h x o)))
    (back bs b (λ x o. or_right (is_free_in x a) (is_free_in x b) (h x o)))
back bs (forall y a) h =
    back (y ∷ bs) a (λ x o. below_back (bytes_eq x y) (is_free_in x a) (h x (or_right (bytes_eq x y) (is_among bs x) o)) (or_left (bytes_eq x y) (is_among bs x) o))
back bs (exists y a) h =
    back (y ∷ bs) a (λ x o. below_back (bytes_eq x y) (is_free_in x a) (h x (or_right (bytes_eq x y) (is_among bs x) o)) (or_left (bytes_eq x y) (is_among bs x) o))
back bs (says t a) h =
    both _ _ (term_back bs t (λ x o. or_left (occurs_in x t) (is_free_in x a) (h x o)))
    (back bs a (λ x o. or_right (occurs_in x t) (is_free_in x a) (h x o)))
back bs (speaks_for t u) h = two_back bs t u h
back bs (speaks_for_on t u s) h = two_back bs t u h

-- no name but this one is no name of the list of this one
pub only : (x y : List ℕ) → bytes_eq x y ≡ false → is_among (y ∷ []) x ≡ false
only x y e = neither _ _ e refl

pub only_back : (x y : List ℕ) → is_among (y ∷ []) x ≡ false → bytes_eq x y ≡ false
only_back x y e = or_left (bytes_eq x y) false e

-- what the public calls answer
pub closed_term_spec : (t : TermTree) → IsTrue (covers_term [] t) ↔ IsClosedTerm t
closed_term_spec t = (λ c x. term_forward [] t c x refl, λ h. term_back [] t (λ x o. h x))

pub closed_spec : (f : FormulaTree) → IsTrue (covers [] f) ↔ IsClosed f
closed_spec f = (λ c x. forward [] f c x refl, λ h. back [] f (λ x o. h x))

pub closed_but_spec : (y : List ℕ) (f : FormulaTree) → IsTrue (covers (y ∷ []) f) ↔ IsClosedBut y f
closed_but_spec y f =
    (λ c x e. forward (y ∷ []) f c x (only x y e), λ h. back (y ∷ []) f (λ x o. h x (only_back x y o)))
