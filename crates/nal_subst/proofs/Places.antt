-- Free variables and captures by places, and the free variables of what a substitution gives.
use Rattle.std.proofs.Common.{◌≡◌, ◌≢◌, ◌↔◌, ◌⊎◌, inl, inr, refl, sym, ◌∙◌, arith, ℕ, zero, suc, List, [], ◌∷◌, Bool, true, false, not, ◌&&◌, ◌||◌, IsTrue, Option, Some, None, option_map, map, if◌then◌else◌}
use Rattle.std.specs.List.{All, Contains}
use Rattle.std.specs.Str.{bytes_eq}
use Rattle.std.proofs.lemmas.List.Elements.{All-cons, All-head, All-tail, All-nil}
use Rattle.std.proofs.Math.Bool.{and-false}
use Rattle.std.proofs.lemmas.Slice.Eq.{bytes_eq-Decides}
use Rattle.nal_term.specs.Trees.{TermTree, FormulaTree, verum, falsum, atom, test, and, or, implies, forall, exists, says, speaks_for, speaks_for_on, number, name, text, variable, subprincipal}
use Rattle.nal_term.specs.Free.{occurs_in, occurs_in_some, is_free_in}
use Rattle.nal_subst.specs.Laws.{FreeByPlaces, UndefinedByPlaces, FreeAfter}
use Rattle.nal_subst.specs.Places.{StandsWithin, OccursInEither, StandsFree, IsCaptured}
use Rattle.nal_subst.specs.Places as place
use Rattle.nal_subst.specs.Substitution.{both, formula_with, term_with}

-- Truth values

either_side : (a b : Bool) → IsTrue (a || b) → IsTrue a ⊎ IsTrue b
either_side true b e = inl refl
either_side false b e = inr e

from_either : (a b : Bool) → IsTrue a ⊎ IsTrue b → IsTrue (a || b)
from_either true b e = refl
from_either false b (inl e) = cc
from_either false b (inr e) = e

both_sides : (a b : Bool) → IsTrue (a && b) → IsTrue a × IsTrue b
both_sides true b e = (refl, e)
both_sides false b e = cc

from_both : (a b : Bool) → IsTrue a → IsTrue b → IsTrue (a && b)
from_both true b e f = f
from_both false b e f = cc

not_true : (a : Bool) → IsTrue (not a) → a ≡ false
not_true true e = cc
not_true false e = refl

from_false : (a : Bool) → a ≡ false → IsTrue (not a)
from_false true e = cc
from_false false e = refl

-- names differ where they are found to
differ : (x y : List ℕ) → bytes_eq x y ≡ false → x ≢ y
differ x y e same = let f = (bytes_eq-Decides x y).1 same in cc

differ_not : (x y : List ℕ) → x ≢ y → bytes_eq x y ≡ false
differ_not x y e = of (bytes_eq x y) refl
  where
    of : (b : Bool) → bytes_eq x y ≡ b → bytes_eq x y ≡ false
    of true f = absurd (e ((bytes_eq-Decides x y).0 f))
    of false f = f

-- Free variables

abbrev Free : List ℕ → FormulaTree → Type 0
Free x f = IsTrue (is_free_in x f)

lifted : {x : List ℕ} {a f : FormulaTree} → ((ys : List (List ℕ)) → StandsWithin x a ys → StandsWithin x f ys) → StandsFree x a → StandsFree x f
lifted up (ys, s, d) = (ys, up ys s, d)

below : {x y : List ℕ} {a f : FormulaTree} → x ≢ y → ((ys : List (List ℕ)) → StandsWithin x a ys → StandsWithin x f (y ∷ ys)) → StandsFree x a → StandsFree x f
below {x = x} {y = y} ne up (ys, s, d) = (y ∷ ys, up ys s, All-cons (λ y. x ≢ y) y ys ne d)

pub free_places : (x : List ℕ) (f : FormulaTree) → Free x f → StandsFree x f
free_places x verum e = cc
free_places x falsum e = cc
free_places x (atom p ts) e = ([], place.argument e, All-nil _)
free_places x (test c t u) e = ([], place.side (either_side _ _ e), All-nil _)
free_places x (speaks_for t u) e = ([], place.delegate (either_side _ _ e), All-nil _)
free_places x (speaks_for_on t u s) e = ([], place.delegate_on (either_side _ _ e), All-nil _)
free_places x (and a b) e = elim (either_side _ _ e) [ inl h ↦ lifted (λ ys s. place.and_left s) (free_places x a h) | inr h ↦ lifted (λ ys s. place.and_right s) (free_places x b h) ]
free_places x (or a b) e = elim (either_side _ _ e) [ inl h ↦ lifted (λ ys s. place.or_left s) (free_places x a h) | inr h ↦ lifted (λ ys s. place.or_right s) (free_places x b h) ]
free_places x (implies a b) e = elim (either_side _ _ e) [ inl h ↦ lifted (λ ys s. place.condition s) (free_places x a h) | inr h ↦ lifted (λ ys s. place.conclusion s) (free_places x b h) ]
free_places x (says t a) e = elim (either_side _ _ e) [ inl h ↦ ([], place.speaker h, All-nil _) | inr h ↦ lifted (λ ys s. place.said s) (free_places x a h) ]
free_places x (forall y a) e = let h = both_sides _ _ e in below (differ x y (not_true _ h.0)) (λ ys s. place.for_all s) (free_places x a h.1)
free_places x (exists y a) e = let h = both_sides _ _ e in below (differ x y (not_true _ h.0)) (λ ys s. place.for_some s) (free_places x a h.1)

pub places_free : (x : List ℕ) (f : FormulaTree) (ys : List (List ℕ)) → StandsWithin x f ys → All (λ y. x ≢ y) ys → Free x f
places_free x _ ys (place.argument e) d = e
places_free x _ ys (place.side e) d = from_either _ _ e
places_free x _ ys (place.delegate e) d = from_either _ _ e
places_free x _ ys (place.delegate_on e) d = from_either _ _ e
places_free x _ ys (place.speaker e) d = from_either _ _ (inl e)
places_free x _ ys (place.said {a = a} s) d = from_either _ _ (inr (places_free x a ys s d))
places_free x _ ys (place.and_left {a = a} s) d = from_either _ _ (inl (places_free x a ys s d))
places_free x _ ys (place.and_right {b = b} s) d = from_either _ _ (inr (places_free x b ys s d))
places_free x _ ys (place.or_left {a = a} s) d = from_either _ _ (inl (places_free x a ys s d))
places_free x _ ys (place.or_right {b = b} s) d = from_either _ _ (inr (places_free x b ys s d))
places_free x _ ys (place.condition {a = a} s) d = from_either _ _ (inl (places_free x a ys s d))
places_free x _ ys (place.conclusion {b = b} s) d = from_either _ _ (inr (places_free x b ys s d))
places_free x _ _ (place.for_all {y = y} {a = a} {ys = ys} s) d =
    from_both _ _ (from_false _ (differ_not x y (All-head (λ y. x ≢ y) y ys d))) (places_free x a ys s (All-tail (λ y. x ≢ y) y ys d))
places_free x _ _ (place.for_some {y = y} {a = a} {ys = ys} s) d =
    from_both _ _ (from_false _ (differ_not x y (All-head (λ y. x ≢ y) y ys d))) (places_free x a ys s (All-tail (λ y. x ≢ y) y ys d))

pub free_by_places : FreeByPlaces
free_by_places x f = (free_places x f, λ (ys, s, d). places_free x f ys s d)

-- Captures

-- a name that is in a list is in one that is longer at its front
further : (ys : List (List ℕ)) (z y : List ℕ) → Contains ys y → Contains (z ∷ ys) y
further ys z y (i, within, read) = (suc i, omega (arith, within), read)

captured_in : {x : List ℕ} (t : TermTree) {a f : FormulaTree} → ((ys : List (List ℕ)) → StandsWithin x a ys → StandsWithin x f ys) → IsCaptured x t a → IsCaptured x t f
captured_in t up (ys, s, d, y, c, o) = (ys, up ys s, d, y, c, o)

captured_below : {x : List ℕ} (t : TermTree) {a f : FormulaTree} (z : List ℕ) → x ≢ z → ((ys : List (List ℕ)) → StandsWithin x a ys → StandsWithin x f (z ∷ ys)) → IsCaptured x t a → IsCaptured x t f
captured_below {x = x} t z ne up (ys, s, d, y, c, o) = (z ∷ ys, up ys s, All-cons (λ y. x ≢ y) z ys ne d, y, further ys z y c, o)

captured_here : {x : List ℕ} (t : TermTree) {a f : FormulaTree} (z : List ℕ) → x ≢ z → ((ys : List (List ℕ)) → StandsWithin x a ys → StandsWithin x f (z ∷ ys)) → StandsFree x a → IsTrue (occurs_in z t) → IsCaptured x t f
captured_here {x = x} t z ne up (ys, s, d) o = (z ∷ ys, up ys s, All-cons (λ y. x ≢ y) z ys ne d, z, (0, omega arith, refl), o)

-- when parts are undefined
both_none : (make : FormulaTree → FormulaTree → FormulaTree) (p q : Option FormulaTree) → both make p q ≡ None → (p ≡ None) ⊎ (q ≡ None)
both_none make None q e = inl refl
both_none make (Some a) None e = inr refl
both_none make (Some a) (Some b) e = absurd (cc e)

none_both : (make : FormulaTree → FormulaTree → FormulaTree) (p q : Option FormulaTree) → (p ≡ None) ⊎ (q ≡ None) → both make p q ≡ None
none_both make None q e = refl
none_both make (Some a) None e = refl
none_both make (Some a) (Some b) (inl e) = absurd (cc e)
none_both make (Some a) (Some b) (inr e) = absurd (cc e)

map_none : (make : FormulaTree → FormulaTree) (p : Option FormulaTree) → option_map make p ≡ None → p ≡ None
map_none make None e = refl
map_none make (Some a) e = absurd (cc e)

none_map : (make : FormulaTree → FormulaTree) (p : Option FormulaTree) → p ≡ None → option_map make p ≡ None
none_map make None e = refl
none_map make (Some a) e = absurd (cc e)

-- what stands below a quantifier: whether it is over the variable, whether the variable is free there, whether the
-- quantifier's occurs in the term, and the part
abbrev part_below : (FormulaTree → FormulaTree) → FormulaTree → Bool → Bool → Bool → Option FormulaTree → Option FormulaTree
part_below make a same free captured part = if same then Some (make a) else option_map make (if free then (if captured then None else part) else Some a)

below_none : (make : FormulaTree → FormulaTree) (a : FormulaTree) (same free captured : Bool) (part : Option FormulaTree) → part_below make a same free captured part ≡ None
    → (same ≡ false) × IsTrue free × (IsTrue captured ⊎ (part ≡ None))
below_none make a true free captured part e = absurd (cc e)
below_none make a false false captured part e = absurd (cc e)
below_none make a false true true part e = (refl, refl, inl refl)
below_none make a false true false part e = (refl, refl, inr (map_none make part e))

none_below : (make : FormulaTree → FormulaTree) (a : FormulaTree) (same free captured : Bool) (part : Option FormulaTree)
    → same ≡ false → IsTrue free → IsTrue captured ⊎ (part ≡ None) → part_below make a same free captured part ≡ None
none_below make a true free captured part e f g = absurd (cc e)
none_below make a false false captured part e f g = absurd (cc f)
none_below make a false true true part e f g = refl
none_below make a false true false part e f (inl g) = absurd (cc g)
none_below make a false true false part e f (inr g) = none_map make part g

undefined_places : (x : List ℕ) (t : TermTree) (f : FormulaTree) → formula_with x t f ≡ None → IsCaptured x t f
undefined_places x t verum e = absurd (cc e)
undefined_places x t falsum e = absurd (cc e)
undefined_places x t (atom p ts) e = absurd (cc e)
undefined_places x t (test c u v) e = absurd (cc e)
undefined_places x t (speaks_for u v) e = absurd (cc e)
undefined_places x t (speaks_for_on u v s) e = absurd (cc e)
undefined_places x t (and a b) e = elim (both_none and _ _ e) [ inl h ↦ captured_in t (λ ys s. place.and_left s) (undefined_places x t a h) | inr h ↦ captured_in t (λ ys s. place.and_right s) (undefined_places x t b h) ]
undefined_places x t (or a b) e = elim (both_none or _ _ e) [ inl h ↦ captured_in t (λ ys s. place.or_left s) (undefined_places x t a h) | inr h ↦ captured_in t (λ ys s. place.or_right s) (undefined_places x t b h) ]
undefined_places x t (implies a b) e =
    elim (both_none implies _ _ e) [ inl h ↦ captured_in t (λ ys s. place.condition s) (undefined_places x t a h) | inr h ↦ captured_in t (λ ys s. place.conclusion s) (undefined_places x t b h) ]
undefined_places x t (says u a) e = captured_in t (λ ys s. place.said s) (undefined_places x t a (map_none (λ g. says (term_with x t u) g) (formula_with x t a) e))
undefined_places x t (forall y a) e =
    let h = below_none (λ g. forall y g) a (bytes_eq x y) (is_free_in x a) (occurs_in y t) (formula_with x t a) e in
    elim h.2 [
      | inl o ↦ captured_here t y (differ x y h.0) (λ ys s. place.for_all s) (free_places x a h.1) o
      | inr n ↦ captured_below t y (differ x y h.0) (λ ys s. place.for_all s) (undefined_places x t a n)
    ]
undefined_places x t (exists y a) e =
    let h = below_none (λ g. exists y g) a (bytes_eq x y) (is_free_in x a) (occurs_in y t) (formula_with x t a) e in
    elim h.2 [
      | inl o ↦ captured_here t y (differ x y h.0) (λ ys s. place.for_some s) (free_places x a h.1) o
      | inr n ↦ captured_below t y (differ x y h.0) (λ ys s. place.for_some s) (undefined_places x t a n)
    ]

-- a name in a list is its first or one of the others
first_or_other : (ys : List (List ℕ)) (z y : List ℕ) → Contains (z ∷ ys) y → (z ≡ y) ⊎ Contains ys y
first_or_other ys z y (zero, within, read) = inl read
first_or_other ys z y (suc i, within, read) = inr (i, omega (arith, within), read)

no_member : {y : List ℕ} → Contains [] y → ⊥
no_member (i, within, read) = omega (arith, within)

places_undefined : (x : List ℕ) (t : TermTree) (f : FormulaTree) (ys : List (List ℕ)) → StandsWithin x f ys → All (λ y. x ≢ y) ys → (y : List ℕ) → Contains ys y → IsTrue (occurs_in y t) → formula_with x t f ≡ None
places_undefined x t _ _ (place.argument e) d y c o = absurd (no_member c)
places_undefined x t _ _ (place.side e) d y c o = absurd (no_member c)
places_undefined x t _ _ (place.delegate e) d y c o = absurd (no_member c)
places_undefined x t _ _ (place.delegate_on e) d y c o = absurd (no_member c)
places_undefined x t _ _ (place.speaker e) d y c o = absurd (no_member c)
places_undefined x t _ ys (place.said {t = u} {a = a} s) d y c o = none_map _ _ (places_undefined x t a ys s d y c o)
places_undefined x t _ ys (place.and_left {a = a} s) d y c o = none_both and _ _ (inl (places_undefined x t a ys s d y c o))
places_undefined x t _ ys (place.and_right {b = b} s) d y c o = none_both and _ _ (inr (places_undefined x t b ys s d y c o))
places_undefined x t _ ys (place.or_left {a = a} s) d y c o = none_both or _ _ (inl (places_undefined x t a ys s d y c o))
places_undefined x t _ ys (place.or_right {b = b} s) d y c o = none_both or _ _ (inr (places_undefined x t b ys s d y c o))
places_undefined x t _ ys (place.condition {a = a} s) d y c o = none_both implies _ _ (inl (places_undefined x t a ys s d y c o))
places_undefined x t _ ys (place.conclusion {b = b} s) d y c o = none_both implies _ _ (inr (places_undefined x t b ys s d y c o))
places_undefined x t _ _ (place.for_all {y = z} {a = a} {ys = ys} s) d y c o =
    let others = All-tail (λ y. x ≢ y) z ys d in
    none_below (λ g. forall z g) a (bytes_eq x z) (is_free_in x a) (occurs_in z t) (formula_with x t a) (differ_not x z (All-head (λ y. x ≢ y) z ys d)) (places_free x a ys s others)
    (elim (first_or_other ys z y c) [ inl same ↦ inl (rw same o) | inr later ↦ inr (places_undefined x t a ys s others y later o) ])
places_undefined x t _ _ (place.for_some {y = z} {a = a} {ys = ys} s) d y c o =
    let others = All-tail (λ y. x ≢ y) z ys d in
    none_below (λ g. exists z g) a (bytes_eq x z) (is_free_in x a) (occurs_in z t) (formula_with x t a) (differ_not x z (All-head (λ y. x ≢ y) z ys d)) (places_free x a ys s others)
    (elim (first_or_other ys z y c) [ inl same ↦ inl (rw same o) | inr later ↦ inr (places_undefined x t a ys s others y later o) ])

pub undefined_by_places : UndefinedByPlaces
undefined_by_places x t f = (undefined_places x t f, λ (ys, s, d, y, c, o). places_undefined x t f ys s d y c o)

-- The free variables of what a substitution gives

-- what stands in the result: what stood there and is not replaced, and what the term brings
abbrev After : List ℕ → List ℕ → TermTree → Bool → Bool → Type 0
After x z t there replaced = ((z ≢ x) × IsTrue there) ⊎ (IsTrue replaced × IsTrue (occurs_in z t))

after_either : (x z : List ℕ) (t : TermTree) (new_a new_b a b in_a in_b : Bool) → IsTrue new_a ↔ After x z t a in_a → IsTrue new_b ↔ After x z t b in_b
    → IsTrue (new_a || new_b) ↔ After x z t (a || b) (in_a || in_b)
after_either x z t new_a new_b a b in_a in_b f g = (to, from)
  where
    widen_a : After x z t a in_a → After x z t (a || b) (in_a || in_b)
    widen_a (inl h) = inl (h.0, from_either a b (inl h.1))
    widen_a (inr h) = inr (from_either in_a in_b (inl h.0), h.1)

    widen_b : After x z t b in_b → After x z t (a || b) (in_a || in_b)
    widen_b (inl h) = inl (h.0, from_either a b (inr h.1))
    widen_b (inr h) = inr (from_either in_a in_b (inr h.0), h.1)

    to : IsTrue (new_a || new_b) → After x z t (a || b) (in_a || in_b)
    to e = elim (either_side new_a new_b e) [ inl h ↦ widen_a (f.0 h) | inr h ↦ widen_b (g.0 h) ]

    from : After x z t (a || b) (in_a || in_b) → IsTrue (new_a || new_b)
    from (inl h) = from_either new_a new_b (elim (either_side a b h.1) [ inl k ↦ inl (f.1 (inl (h.0, k))) | inr k ↦ inr (g.1 (inl (h.0, k))) ])
    from (inr h) = from_either new_a new_b (elim (either_side in_a in_b h.0) [ inl k ↦ inl (f.1 (inr (k, h.1))) | inr k ↦ inr (g.1 (inr (k, h.1))) ])

never_after : (x z : List ℕ) (t : TermTree) → IsTrue false ↔ After x z t false false
never_after x z t = (λ e. cc, never)
  where
    never : After x z t false false → IsTrue false
    never (inl h) = h.1
    never (inr h) = h.0

same_names : (x y : List ℕ) → IsTrue (bytes_eq x y) → x ≡ y
same_names x y e = (bytes_eq-Decides x y).0 e

variable_after : (x z : List ℕ) (t : TermTree) (y : List ℕ) (same : Bool) → bytes_eq x y ≡ same → IsTrue (occurs_in z (if same then t else variable y)) ↔ After x z t (bytes_eq z y) (bytes_eq x y)
variable_after x z t y true e = (λ h. inr (e, h), from)
  where
    from : After x z t (bytes_eq z y) (bytes_eq x y) → IsTrue (occurs_in z t)
    from (inl h) = absurd (h.0 (same_names z y h.1 ∙ sym (same_names x y e)))
    from (inr h) = h.1
variable_after x z t y false e = (λ h. inl (λ f. differ x y e (sym f ∙ same_names z y h), h), from)
  where
    from : After x z t (bytes_eq z y) (bytes_eq x y) → IsTrue (bytes_eq z y)
    from (inl h) = h.1
    from (inr h) = absurd (differ x y e (same_names x y h.0))

term_after : (x z : List ℕ) (t u : TermTree) → IsTrue (occurs_in z (term_with x t u)) ↔ After x z t (occurs_in z u) (occurs_in x u)
term_after x z t (number n) = never_after x z t
term_after x z t (name y) = never_after x z t
term_after x z t (text y) = never_after x z t
term_after x z t (variable y) = variable_after x z t y (bytes_eq x y) refl
term_after x z t (subprincipal u y) = term_after x z t u

terms_after : (x z : List ℕ) (t : TermTree) (us : List TermTree) → IsTrue (occurs_in_some z (map (λ u. term_with x t u) us)) ↔ After x z t (occurs_in_some z us) (occurs_in_some x us)
terms_after x z t [] = never_after x z t
terms_after x z t (u ∷ us) = after_either x z t _ _ _ _ _ _ (term_after x z t u) (terms_after x z t us)

-- a part in which the variable is not free, or over which a quantifier binds it
unchanged_after : (x z : List ℕ) (t : TermTree) (there replaced : Bool) → replaced ≡ false → (IsTrue there → z ≢ x) → IsTrue there ↔ After x z t there replaced
unchanged_after x z t there replaced e apart = (λ h. inl (apart h, h), from)
  where
    from : After x z t there replaced → IsTrue there
    from (inl h) = h.1
    from (inr h) = absurd (let k = h.0 in cc)

both_some : (make : FormulaTree → FormulaTree → FormulaTree) (p q : Option FormulaTree) (g : FormulaTree) → both make p q ≡ Some g
    → (a : FormulaTree) × (b : FormulaTree) × (p ≡ Some a) × (q ≡ Some b) × (g ≡ make a b)
both_some make None q g e = absurd (cc e)
both_some make (Some a) None g e = absurd (cc e)
both_some make (Some a) (Some b) g e = let same : g ≡ make a b = cc in (a, b, refl, refl, same)

map_some : (make : FormulaTree → FormulaTree) (p : Option FormulaTree) (g : FormulaTree) → option_map make p ≡ Some g → (a : FormulaTree) × (p ≡ Some a) × (g ≡ make a)
map_some make None g e = absurd (cc e)
map_some make (Some a) g e = let same : g ≡ make a = cc in (a, refl, same)

-- what is below a quantifier that is given: the part as it was, or the part with the term
below_some : (make : FormulaTree → FormulaTree) (a : FormulaTree) (same free captured : Bool) (part : Option FormulaTree) (g : FormulaTree) → part_below make a same free captured part ≡ Some g
    → ((IsTrue same ⊎ (free ≡ false)) × (g ≡ make a)) ⊎ ((same ≡ false) × IsTrue free × (captured ≡ false) × (b : FormulaTree) × (part ≡ Some b) × (g ≡ make b))
below_some make a true free captured part g e = let same : g ≡ make a = cc in inl (inl refl, same)
below_some make a false false captured part g e = let same : g ≡ make a = cc in inl (inr refl, same)
below_some make a false true true part g e = absurd (cc e)
below_some make a false true false part g e = let h = map_some make part g e in inr (refl, refl, refl, h.0, h.1, h.2)

-- a quantifier over `?y` around a part with the term
within_after : (x z : List ℕ) (t : TermTree) (y : List ℕ) (new old replaced : Bool) → bytes_eq x y ≡ false → occurs_in y t ≡ false → IsTrue new ↔ After x z t old replaced
    → IsTrue (not (bytes_eq z y) && new) ↔ After x z t (not (bytes_eq z y) && old) (not (bytes_eq x y) && replaced)
within_after x z t y new old replaced apart free f = (to, from)
  where
    to : IsTrue (not (bytes_eq z y) && new) → After x z t (not (bytes_eq z y) && old) (not (bytes_eq x y) && replaced)
    to e =
        let h = both_sides (not (bytes_eq z y)) new e in
        elim (f.0 h.1) [ inl k ↦ inl (k.0, from_both _ _ h.0 k.1) | inr k ↦ inr (from_both _ _ (from_false _ apart) k.0, k.1) ]

    other : IsTrue (occurs_in z t) → IsTrue (not (bytes_eq z y))
    other o = from_false _ (differ_not z y (λ same. let p = rw (← same) at free in cc))

    from : After x z t (not (bytes_eq z y) && old) (not (bytes_eq x y) && replaced) → IsTrue (not (bytes_eq z y) && new)
    from (inl h) = let k = both_sides (not (bytes_eq z y)) old h.1 in from_both _ _ k.0 (f.1 (inl (h.0, k.1)))
    from (inr h) = let k = both_sides (not (bytes_eq x y)) replaced h.0 in from_both _ _ (other h.1) (f.1 (inr (k.1, h.1)))

-- a quantifier over `?y` around a part that stays, since it binds `?x` or `?x` is not free there
kept_after : (x z : List ℕ) (t : TermTree) (y : List ℕ) (a : FormulaTree) → IsTrue (bytes_eq x y) ⊎ (is_free_in x a ≡ false)
    → IsTrue (not (bytes_eq z y) && is_free_in z a) ↔ After x z t (not (bytes_eq z y) && is_free_in z a) (not (bytes_eq x y) && is_free_in x a)
kept_after x z t y a kept = unchanged_after x z t _ _ (none kept) (apart kept)
  where
    none : IsTrue (bytes_eq x y) ⊎ (is_free_in x a ≡ false) → (not (bytes_eq x y) && is_free_in x a) ≡ false
    none (inl e) = rw e refl
    none (inr e) = rw e (and-false (not (bytes_eq x y)))

    apart : IsTrue (bytes_eq x y) ⊎ (is_free_in x a ≡ false) → IsTrue (not (bytes_eq z y) && is_free_in z a) → z ≢ x
    apart (inl e) h same = let k = not_true _ (both_sides (not (bytes_eq z y)) _ h).0 in let m = rw (← same) at e in cc
    apart (inr e) h same = let k = (both_sides (not (bytes_eq z y)) _ h).1 in let m = rw (← same) at e in cc

pub free_after : FreeAfter
free_after x t verum g z e = let same : g ≡ verum = cc in rw same (never_after x z t)
free_after x t falsum g z e = let same : g ≡ falsum = cc in rw same (never_after x z t)
free_after x t (atom p ts) g z e = let same : g ≡ atom p (map (λ u. term_with x t u) ts) = cc in rw same (terms_after x z t ts)
free_after x t (test c u v) g z e = let same : g ≡ test c (term_with x t u) (term_with x t v) = cc in rw same (after_either x z t _ _ _ _ _ _ (term_after x z t u) (term_after x z t v))
free_after x t (speaks_for u v) g z e = let same : g ≡ speaks_for (term_with x t u) (term_with x t v) = cc in rw same (after_either x z t _ _ _ _ _ _ (term_after x z t u) (term_after x z t v))
free_after x t (speaks_for_on u v s) g z e =
    let same : g ≡ speaks_for_on (term_with x t u) (term_with x t v) s = cc in rw same (after_either x z t _ _ _ _ _ _ (term_after x z t u) (term_after x z t v))
free_after x t (and a b) g z e =
    let h = both_some and _ _ g e in rw h.4 (after_either x z t _ _ _ _ _ _ (free_after x t a h.0 z h.2) (free_after x t b h.1 z h.3))
free_after x t (or a b) g z e =
    let h = both_some or _ _ g e in rw h.4 (after_either x z t _ _ _ _ _ _ (free_after x t a h.0 z h.2) (free_after x t b h.1 z h.3))
free_after x t (implies a b) g z e =
    let h = both_some implies _ _ g e in rw h.4 (after_either x z t _ _ _ _ _ _ (free_after x t a h.0 z h.2) (free_after x t b h.1 z h.3))
free_after x t (says u a) g z e =
    let h = map_some (λ k. says (term_with x t u) k) (formula_with x t a) g e in rw h.2 (after_either x z t _ _ _ _ _ _ (term_after x z t u) (free_after x t a h.0 z h.1))
free_after x t (forall y a) g z e =
    elim (below_some (λ k. forall y k) a (bytes_eq x y) (is_free_in x a) (occurs_in y t) (formula_with x t a) g e) [
      | inl h ↦ rw h.1 (kept_after x z t y a h.0)
      | inr (apart, free, clear, b, is, made) ↦ rw made (within_after x z t y _ _ _ apart clear (free_after x t a b z is))
    ]
free_after x t (exists y a) g z e =
    elim (below_some (λ k. exists y k) a (bytes_eq x y) (is_free_in x a) (occurs_in y t) (formula_with x t a) g e) [
      | inl h ↦ rw h.1 (kept_after x z t y a h.0)
      | inr (apart, free, clear, b, is, made) ↦ rw made (within_after x z t y _ _ _ apart clear (free_after x t a b z is))
    ]
