-- Terms and formulas as the keys of maps: whether two trees are the same, and what a hash reads of a tree.
use Rattle.std.specs.Prelude.{◌≡◌, ℕ, List, [], ◌∷◌, ◌++◌, Bool, true, false, ◌&&◌, nat_eq, length}
use Rattle.std.proofs.Common.{refl, ap}
use Rattle.std.specs.Bool.{Decides}
use Rattle.std.specs.Cmp.{decided, IsEquivalence, unsigned_Decides}
use Rattle.std.specs.Cmp.Lexicographic.{pointwise}
use Rattle.std.specs.Hash as fed
use Rattle.std.specs.Hash.{HashWrites}
use Rattle.nal_term.specs.declared.terms.Term.{Term}
use Rattle.nal_term.specs.declared.formulas.Formula.{Formula}
use Rattle.nal_term.specs.declared.formulas.Compare.{Compare}
use Rattle.nal_term.specs.declared.formulas.Compare.TheVariants.{Equal, Less, AtMost}
use Rattle.nal_term.specs.Trees.{TermTree, number, name, text, variable, subprincipal, FormulaTree, verum, falsum, atom, test, and, or, implies, forall, exists, says, speaks_for, speaks_for_on, term_tree, formula_tree}

-- two names, or texts, are the same bytes
abbrev pub same_bytes : List ℕ → List ℕ → Bool
same_bytes x y = pointwise nat_eq x y

-- the place of a comparison among the three
abbrev pub compare_code : Compare → ℕ
compare_code Equal = 0
compare_code Less = 1
compare_code AtMost = 2

abbrev pub same_compares : Compare → Compare → Bool
same_compares c d = nat_eq (compare_code c) (compare_code d)

abbrev pub same_terms : TermTree → TermTree → Bool
same_terms (number n) (number m) = nat_eq n m
same_terms (name x) (name y) = same_bytes x y
same_terms (text x) (text y) = same_bytes x y
same_terms (variable x) (variable y) = same_bytes x y
same_terms (subprincipal t x) (subprincipal u y) = same_terms t u && same_bytes x y
same_terms _ _ = false

abbrev pub same_formulas : FormulaTree → FormulaTree → Bool
same_formulas verum verum = true
same_formulas falsum falsum = true
same_formulas (atom p ts) (atom q us) = same_bytes p q && pointwise same_terms ts us
same_formulas (test c t u) (test d v w) = same_compares c d && (same_terms t v && same_terms u w)
same_formulas (and f g) (and h i) = same_formulas f h && same_formulas g i
same_formulas (or f g) (or h i) = same_formulas f h && same_formulas g i
same_formulas (implies f g) (implies h i) = same_formulas f h && same_formulas g i
same_formulas (forall x f) (forall y g) = same_bytes x y && same_formulas f g
same_formulas (exists x f) (exists y g) = same_bytes x y && same_formulas f g
same_formulas (says t f) (says u g) = same_terms t u && same_formulas f g
same_formulas (speaks_for t u) (speaks_for v w) = same_terms t v && same_terms u w
same_formulas (speaks_for_on t u s) (speaks_for_on v w r) = (same_terms t v && same_terms u w) && pointwise same_bytes s r
same_formulas _ _ = false

-- what a hash reads of a term: its kind, and its parts
abbrev pub term_writes : TermTree → HashWrites
term_writes (number n) = fed.u8 0 ++ fed.u64 n
term_writes (name x) = fed.u8 1 ++ fed.slice fed.u8 x
term_writes (text x) = fed.u8 2 ++ fed.slice fed.u8 x
term_writes (variable x) = fed.u8 3 ++ fed.slice fed.u8 x
term_writes (subprincipal t x) = fed.u8 4 ++ term_writes t ++ fed.slice fed.u8 x

-- and of several terms, one after another
abbrev pub terms_writes : List TermTree → HashWrites
terms_writes [] = []
terms_writes (t ∷ ts) = term_writes t ++ terms_writes ts

-- what a hash reads of a formula
abbrev pub formula_writes : FormulaTree → HashWrites
formula_writes verum = fed.u8 0
formula_writes falsum = fed.u8 1
formula_writes (atom p ts) = fed.u8 2 ++ fed.slice fed.u8 p ++ fed.usize (length ts) ++ terms_writes ts
formula_writes (test c t u) = fed.u8 3 ++ fed.u8 (compare_code c) ++ term_writes t ++ term_writes u
formula_writes (and f g) = fed.u8 4 ++ formula_writes f ++ formula_writes g
formula_writes (or f g) = fed.u8 5 ++ formula_writes f ++ formula_writes g
formula_writes (implies f g) = fed.u8 6 ++ formula_writes f ++ formula_writes g
formula_writes (forall x f) = fed.u8 7 ++ fed.slice fed.u8 x ++ formula_writes f
formula_writes (exists x f) = fed.u8 8 ++ fed.slice fed.u8 x ++ formula_writes f
formula_writes (says t f) = fed.u8 9 ++ term_writes t ++ formula_writes f
formula_writes (speaks_for t u) = fed.u8 10 ++ term_writes t ++ term_writes u
formula_writes (speaks_for_on t u s) = (fed.u8 11 ++ term_writes t ++ term_writes u) ++ fed.slice (fed.slice fed.u8) s

-- ---- `same` decides whether the trees are equal

both : (a b : Bool) → a ≡ true → b ≡ true → (a && b) ≡ true
both a b p q = cc (p, q)

first_of : (a b : Bool) → (a && b) ≡ true → a ≡ true
first_of true b e = refl
first_of false b e = e

second_of : (a b : Bool) → (a && b) ≡ true → b ≡ true
second_of true b e = e
second_of false b e = absurd (cc e)

module _ {X : Type 0} (same : X → X → Bool) where
  lists_from : ((x y : X) → same x y ≡ true → x ≡ y) → (xs ys : List X) → pointwise same xs ys ≡ true → xs ≡ ys
  lists_from from [] [] e = refl
  lists_from from [] (y ∷ ys) e = absurd (cc e)
  lists_from from (x ∷ xs) [] e = absurd (cc e)
  lists_from from (x ∷ xs) (y ∷ ys) e = λ i. from x y (first_of _ _ e) i ∷ lists_from from xs ys (second_of _ _ e) i

  lists_itself : ((x : X) → same x x ≡ true) → (xs : List X) → pointwise same xs xs ≡ true
  lists_itself itself [] = refl
  lists_itself itself (x ∷ xs) = both _ _ (itself x) (lists_itself itself xs)

bytes_from : (x y : List ℕ) → same_bytes x y ≡ true → x ≡ y
bytes_from = lists_from nat_eq (λ n m. (unsigned_Decides n m).0)

bytes_itself : (x : List ℕ) → same_bytes x x ≡ true
bytes_itself = lists_itself nat_eq (λ n. (unsigned_Decides n n).1 refl)

compares_from : (c d : Compare) → same_compares c d ≡ true → c ≡ d
compares_from Equal Equal e = refl
compares_from Less Less e = refl
compares_from AtMost AtMost e = refl
compares_from Equal Less e = absurd (cc e)
compares_from Equal AtMost e = absurd (cc e)
compares_from Less Equal e = absurd (cc e)
compares_from Less AtMost e = absurd (cc e)
compares_from AtMost Equal e = absurd (cc e)
compares_from AtMost Less e = absurd (cc e)

compares_itself : (c : Compare) → same_compares c c ≡ true
compares_itself Equal = refl
compares_itself Less = refl
compares_itself AtMost = refl

terms_from : (t u : TermTree) → same_terms t u ≡ true → t ≡ u
terms_from (number n) (number m) e = ap number ((unsigned_Decides n m).0 e)
terms_from (name x) (name y) e = ap name (bytes_from x y e)
terms_from (text x) (text y) e = ap text (bytes_from x y e)
terms_from (variable x) (variable y) e = ap variable (bytes_from x y e)
terms_from (subprincipal t x) (subprincipal u y) e = λ i. subprincipal (terms_from t u (first_of _ _ e) i) (bytes_from x y (second_of _ _ e) i)
terms_from _ _ e = absurd (cc e)

terms_itself : (t : TermTree) → same_terms t t ≡ true
terms_itself (number n) = (unsigned_Decides n n).1 refl
terms_itself (name x) = bytes_itself x
terms_itself (text x) = bytes_itself x
terms_itself (variable x) = bytes_itself x
terms_itself (subprincipal t x) = both _ _ (terms_itself t) (bytes_itself x)

formulas_from : (f g : FormulaTree) → same_formulas f g ≡ true → f ≡ g
formulas_from verum verum e = refl
formulas_from falsum falsum e = refl
formulas_from (atom p ts) (atom q us) e = λ i. atom (bytes_from p q (first_of _ _ e) i) (lists_from same_terms terms_from ts us (second_of _ _ e) i)
formulas_from (test c t u) (test d v w) e =
    let rest = second_of (same_compares c d) (same_terms t v && same_terms u w) e in
    λ i. test (compares_from c d (first_of _ _ e) i) (terms_from t v (first_of _ _ rest) i) (terms_from u w (second_of _ _ rest) i)
formulas_from (and f g) (and h k) e = λ i. and (formulas_from f h (first_of _ _ e) i) (formulas_from g k (second_of _ _ e) i)
formulas_from (or f g) (or h k) e = λ i. or (formulas_from f h (first_of _ _ e) i) (formulas_from g k (second_of _ _ e) i)
formulas_from (implies f g) (implies h k) e = λ i. implies (formulas_from f h (first_of _ _ e) i) (formulas_from g k (second_of _ _ e) i)
formulas_from (forall x f) (forall y g) e = λ i. forall (bytes_from x y (first_of _ _ e) i) (formulas_from f g (second_of _ _ e) i)
formulas_from (exists x f) (exists y g) e = λ i. exists (bytes_from x y (first_of _ _ e) i) (formulas_from f g (second_of _ _ e) i)
formulas_from (says t f) (says u g) e = λ i. says (terms_from t u (first_of _ _ e) i) (formulas_from f g (second_of _ _ e) i)
formulas_from (speaks_for t u) (speaks_for v w) e = λ i. speaks_for (terms_from t v (first_of _ _ e) i) (terms_from u w (second_of _ _ e) i)
formulas_from (speaks_for_on t u s) (speaks_for_on v w r) e =
    let terms = first_of (same_terms t v && same_terms u w) (pointwise same_bytes s r) e in
    λ i. speaks_for_on (terms_from t v (first_of _ _ terms) i) (terms_from u w (second_of _ _ terms) i) (lists_from same_bytes bytes_from s r (second_of _ _ e) i)
formulas_from _ _ e = absurd (cc e)

formulas_itself : (f : FormulaTree) → same_formulas f f ≡ true
formulas_itself verum = refl
formulas_itself falsum = refl
formulas_itself (atom p ts) = both _ _ (bytes_itself p) (lists_itself same_terms terms_itself ts)
formulas_itself (test c t u) = both _ _ (compares_itself c) (both _ _ (terms_itself t) (terms_itself u))
formulas_itself (and f g) = both _ _ (formulas_itself f) (formulas_itself g)
formulas_itself (or f g) = both _ _ (formulas_itself f) (formulas_itself g)
formulas_itself (implies f g) = both _ _ (formulas_itself f) (formulas_itself g)
formulas_itself (forall x f) = both _ _ (bytes_itself x) (formulas_itself f)
formulas_itself (exists x f) = both _ _ (bytes_itself x) (formulas_itself f)
formulas_itself (says t f) = both _ _ (terms_itself t) (formulas_itself f)
formulas_itself (speaks_for t u) = both _ _ (terms_itself t) (terms_itself u)
formulas_itself (speaks_for_on t u s) = both _ _ (both _ _ (terms_itself t) (terms_itself u)) (lists_itself same_bytes bytes_itself s)

pub same_bytes-Decides : (x y : List ℕ) → Decides (same_bytes x y) (x ≡ y)
same_bytes-Decides x y = (bytes_from x y, λ e. rw e (bytes_itself y))

pub same_terms-Decides : (t u : TermTree) → Decides (same_terms t u) (t ≡ u)
same_terms-Decides t u = (terms_from t u, λ e. rw e (terms_itself u))

pub same_formulas-Decides : (f g : FormulaTree) → Decides (same_formulas f g) (f ≡ g)
same_formulas-Decides f g = (formulas_from f g, λ e. rw e (formulas_itself g))

-- ---- the laws that a map asks of its keys

pub terms_equiv : IsEquivalence (λ (t u : Term). same_terms (term_tree t) (term_tree u))
terms_equiv = let e = decided same_terms same_terms-Decides in
    record { refl = λ t. e.refl (term_tree t); symm = λ t u. e.symm (term_tree t) (term_tree u); congr = λ t u v. e.congr (term_tree t) (term_tree u) (term_tree v) }

pub formulas_equiv : IsEquivalence (λ (f g : Formula). same_formulas (formula_tree f) (formula_tree g))
formulas_equiv = let e = decided same_formulas same_formulas-Decides in
    record { refl = λ f. e.refl (formula_tree f); symm = λ f g. e.symm (formula_tree f) (formula_tree g); congr = λ f g h. e.congr (formula_tree f) (formula_tree g) (formula_tree h) }

pub same_terms-writes : (t u : Term) → same_terms (term_tree t) (term_tree u) ≡ true → term_writes (term_tree t) ≡ term_writes (term_tree u)
same_terms-writes t u e = ap term_writes (terms_from (term_tree t) (term_tree u) e)

pub same_formulas-writes : (f g : Formula) → same_formulas (formula_tree f) (formula_tree g) ≡ true → formula_writes (formula_tree f) ≡ formula_writes (formula_tree g)
same_formulas-writes f g e = ap formula_writes (formulas_from (formula_tree f) (formula_tree g) e)
