-- What is derived from statements of principals is true where all that is said is.
use Rattle.std.proofs.Common.{◌≡◌, ℕ, List, [], ◌∷◌, ◌++◌, Bool, true, false, not, ◌&&◌, ◌||◌, Option, Some, None, option_map, if◌then◌else◌, refl, sym, ◌∙◌}
use Rattle.std.specs.List.{All}
use Rattle.std.specs.Str.{bytes_eq}
use Rattle.std.proofs.lemmas.List.Elements.{All-contains}
use Rattle.nal_term.specs.Free.{is_free_in, occurs_in}
use Rattle.nal_term.specs.Trees.{TermTree, FormulaTree, verum, falsum, atom, test, and, or, implies, forall, exists, says, speaks_for, speaks_for_on}
use Rattle.nal_subst.specs.Substitution.{both, under, formula_with}
use Rattle.nal_rules.specs.Derivation.{Derivation, TakesOut, nothing, takes, leaves, label, ask, hyp, true_i, and_i, and_l, and_r, or_l, or_r, or_e, imp_i, imp_e, false_e, forall_i, forall_e, exists_i, exists_e, eq_refl, eq_sym, eq_trans, arith, lt_trans, lt_le_trans, says_i, deduce, says_join, sf_refl, sf_trans, sf_sub, sf_e, sf_on_e, sf_weak, handoff, handoff_on}
use Rattle.nal_rules.specs.Faults.{IsSays}
use Rattle.nal_rules.specs.Valuation.{truth_of}

-- each of the formulas is true
abbrev AreTrue : List FormulaTree → Type 0
AreTrue [] = Unit {0}
AreTrue (f ∷ fs) = (truth_of f ≡ true) × AreTrue fs

true_left : (xs ys : List FormulaTree) → AreTrue (xs ++ ys) → AreTrue xs
true_left [] ys a = tt
true_left (x ∷ xs) ys a = (a.0, true_left xs ys a.1)

true_right : (xs ys : List FormulaTree) → AreTrue (xs ++ ys) → AreTrue ys
true_right [] ys a = a
true_right (x ∷ xs) ys a = true_right xs ys a.1

-- where a formula is true, so are the formulas out of which it was taken
put_back : {a : FormulaTree} {xs ys : List FormulaTree} → truth_of a ≡ true → TakesOut a xs ys → AreTrue ys → AreTrue xs
put_back e nothing r = tt
put_back e (takes t) r = (e, put_back e t r)
put_back e (leaves n t) r = (r.0, put_back e t r.1)

says_true : (f : FormulaTree) → IsSays f → truth_of f ≡ true
says_true f (p, a, e) = rw e refl

both_true : (a b : Bool) → a ≡ true → b ≡ true → (a && b) ≡ true
both_true true b d e = e
both_true false b d e = absurd (cc d)

left_true : (a b : Bool) → (a && b) ≡ true → a ≡ true
left_true true b e = refl
left_true false b e = absurd (cc e)

right_true : (a b : Bool) → (a && b) ≡ true → b ≡ true
right_true true b e = e
right_true false b e = absurd (cc e)

some_left : (a b : Bool) → a ≡ true → (a || b) ≡ true
some_left true b e = refl
some_left false b e = absurd (cc e)

some_right : (a b : Bool) → b ≡ true → (a || b) ≡ true
some_right true b e = refl
some_right false b e = e

-- by cases of a disjunction that is true
of_cases : (a b c : Bool) → (a || b) ≡ true → (a ≡ true → c ≡ true) → (b ≡ true → c ≡ true) → c ≡ true
of_cases true b c e l r = l refl
of_cases false b c e l r = r e

implied : (a b : Bool) → (a ≡ true → b ≡ true) → (not a || b) ≡ true
implied true b h = h refl
implied false b h = refl

applied : (a b : Bool) → (not a || b) ≡ true → a ≡ true → b ≡ true
applied true b e d = e
applied false b e d = absurd (cc d)

-- a part in which a substitution is made keeps its truth value
both_kept : (make : FormulaTree → FormulaTree → FormulaTree) (join : Bool → Bool → Bool) → ((f g : FormulaTree) → truth_of (make f g) ≡ join (truth_of f) (truth_of g)) → (a b : FormulaTree) (p q : Option FormulaTree)
    → ((f : FormulaTree) → p ≡ Some f → truth_of f ≡ truth_of a) → ((g : FormulaTree) → q ≡ Some g → truth_of g ≡ truth_of b)
    → (h : FormulaTree) → both make p q ≡ Some h → truth_of h ≡ join (truth_of a) (truth_of b)
both_kept make join known a b None q l r h e = absurd (cc e)
both_kept make join known a b (Some f) None l r h e = absurd (cc e)
both_kept make join known a b (Some f) (Some g) l r h e =
    let s : make f g ≡ h = cc e in
    rw (sym s, known f g, l f refl, r g refl) refl

mapped_kept : (make : FormulaTree → FormulaTree) → ((f : FormulaTree) → truth_of (make f) ≡ truth_of f) → (a : FormulaTree) (o : Option FormulaTree)
    → ((f : FormulaTree) → o ≡ Some f → truth_of f ≡ truth_of a) → (h : FormulaTree) → option_map make o ≡ Some h → truth_of h ≡ truth_of a
mapped_kept make known a None k h e = absurd (cc e)
mapped_kept make known a (Some f) k h e =
    let s : make f ≡ h = cc e in
    rw (sym s, known f, k f refl) refl

below_kept : (a : FormulaTree) (r : Option FormulaTree) (free occurs : Bool) → ((f : FormulaTree) → r ≡ Some f → truth_of f ≡ truth_of a)
    → (f : FormulaTree) → (if free then (if occurs then None else r) else Some a) ≡ Some f → truth_of f ≡ truth_of a
below_kept a r true true k f e = absurd (cc e)
below_kept a r true false k f e = k f e
below_kept a r false occurs k f e =
    let s : a ≡ f = cc e in
    rw s refl

quantified_kept : (make : FormulaTree → FormulaTree) → ((f : FormulaTree) → truth_of (make f) ≡ truth_of f) → (a : FormulaTree) (same : Bool) (o : Option FormulaTree)
    → ((f : FormulaTree) → o ≡ Some f → truth_of f ≡ truth_of a) → (h : FormulaTree) → (if same then Some (make a) else option_map make o) ≡ Some h → truth_of h ≡ truth_of a
quantified_kept make known a true o k h e =
    let s : make a ≡ h = cc e in
    rw (sym s, known a) refl
quantified_kept make known a false o k h e = mapped_kept make known a o k h e

said_kept : (make : FormulaTree → FormulaTree) → ((f : FormulaTree) → truth_of (make f) ≡ true) → (o : Option FormulaTree) (h : FormulaTree) → option_map make o ≡ Some h → truth_of h ≡ true
said_kept make known None h e = absurd (cc e)
said_kept make known (Some f) h e =
    let s : make f ≡ h = cc e in
    rw (sym s, known f) refl

same_truth : (f g : FormulaTree) → Some f ≡ Some g → truth_of g ≡ truth_of f
same_truth f g e =
    let s : f ≡ g = cc e in
    rw s refl

-- a substitution keeps the truth value
pub substituted : (x : List ℕ) (t : TermTree) (f g : FormulaTree) → formula_with x t f ≡ Some g → truth_of g ≡ truth_of f
substituted x t verum g e = same_truth verum g e
substituted x t falsum g e = same_truth falsum g e
substituted x t (atom p ts) g e = same_truth _ g e
substituted x t (test c u v) g e = same_truth _ g e
substituted x t (and a b) g e = both_kept and (λ p q. p && q) (λ f h. refl) a b _ _ (substituted x t a) (substituted x t b) g e
substituted x t (or a b) g e = both_kept or (λ p q. p || q) (λ f h. refl) a b _ _ (substituted x t a) (substituted x t b) g e
substituted x t (implies a b) g e = both_kept implies (λ p q. not p || q) (λ f h. refl) a b _ _ (substituted x t a) (substituted x t b) g e
substituted x t (forall y a) g e =
    quantified_kept (λ f. forall y f) (λ f. refl) a (bytes_eq x y) (under x t y a (formula_with x t a)) (below_kept a (formula_with x t a) (is_free_in x a) (occurs_in y t) (substituted x t a)) g e
substituted x t (exists y a) g e =
    quantified_kept (λ f. exists y f) (λ f. refl) a (bytes_eq x y) (under x t y a (formula_with x t a)) (below_kept a (formula_with x t a) (is_free_in x a) (occurs_in y t) (substituted x t a)) g e
substituted x t (says u a) g e = said_kept _ (λ f. refl) (formula_with x t a) g e
substituted x t (speaks_for u v) g e = same_truth _ g e
substituted x t (speaks_for_on u v s) g e = same_truth _ g e

-- where the open hypotheses of a derivation are true, so is its conclusion
pub sound : (labels answers : List FormulaTree) → All IsSays labels → All IsSays answers → (xs : List FormulaTree) (f : FormulaTree) → Derivation labels answers xs f → AreTrue xs → truth_of f ≡ true
sound labels answers l a xs f (label h c) r = says_true f (All-contains IsSays labels f l h)
sound labels answers l a xs f (ask h c) r = refl
sound labels answers l a xs f hyp r = r.0
sound labels answers l a xs f true_i r = refl
sound labels answers l a xs f (and_i {xs = ys} {ys = zs} {a = b} {b = c} d e) r =
    both_true (truth_of b) (truth_of c) (sound labels answers l a ys b d (true_left ys zs r)) (sound labels answers l a zs c e (true_right ys zs r))
sound labels answers l a xs f (and_l {a = b} {b = c} d) r = left_true (truth_of b) (truth_of c) (sound labels answers l a xs (and b c) d r)
sound labels answers l a xs f (and_r {a = b} {b = c} d) r = right_true (truth_of b) (truth_of c) (sound labels answers l a xs (and b c) d r)
sound labels answers l a xs f (or_l {a = b} {b = c} d) r = some_left (truth_of b) (truth_of c) (sound labels answers l a xs b d r)
sound labels answers l a xs f (or_r {a = b} {b = c} d) r = some_right (truth_of b) (truth_of c) (sound labels answers l a xs c d r)
sound labels answers l a xs f (or_e {xs = ys} {ys = us} {ys' = us'} {zs = vs} {zs' = vs'} {a = b} {b = c} d e s h t) r =
    let both = true_left (ys ++ us') vs' r in
    of_cases (truth_of b) (truth_of c) (truth_of f) (sound labels answers l a ys (or b c) d (true_left ys us' both)) (λ m. sound labels answers l a us f e (put_back m s (true_right ys us' both))) (λ m. sound labels answers l a vs f h (put_back m t (true_right (ys ++ us') vs' r)))
sound labels answers l a xs f (imp_i {xs = ys} {a = b} {b = c} d t) r = implied (truth_of b) (truth_of c) (λ m. sound labels answers l a ys c d (put_back m t r))
sound labels answers l a xs f (imp_e {xs = ys} {ys = zs} {a = b} d e) r =
    applied (truth_of b) (truth_of f) (sound labels answers l a ys (implies b f) d (true_left ys zs r)) (sound labels answers l a zs b e (true_right ys zs r))
sound labels answers l a xs f (false_e d) r = let e : false ≡ true = sound labels answers l a xs falsum d r in absurd (cc e)
sound labels answers l a xs f (forall_i {a = b} d n) r = sound labels answers l a xs b d r
sound labels answers l a xs f (forall_e {x = x} t {a = b} d s) r = substituted x t b f s ∙ sound labels answers l a xs (forall x b) d r
sound labels answers l a xs f (exists_i {x = x} t {a = b} {b = c} d s) r = sym (substituted x t b c s) ∙ sound labels answers l a xs c d r
sound labels answers l a xs f (exists_e {xs = ys} {ys = us} {ys' = us'} {x = x} {a = b} d e t n m) r =
    let some = sound labels answers l a ys (exists x b) d (true_left ys us' r) in
    sound labels answers l a us f e (put_back some t (true_right ys us' r))
sound labels answers l a xs f eq_refl r = refl
sound labels answers l a xs f (eq_sym d) r = refl
sound labels answers l a xs f (eq_trans d e) r = refl
sound labels answers l a xs f (arith h) r = refl
sound labels answers l a xs f (lt_trans d e) r = refl
sound labels answers l a xs f (lt_le_trans d e) r = refl
sound labels answers l a xs f (says_i d) r = refl
sound labels answers l a xs f (deduce d e) r = refl
sound labels answers l a xs f (says_join d) r = refl
sound labels answers l a xs f sf_refl r = refl
sound labels answers l a xs f (sf_trans d e) r = refl
sound labels answers l a xs f sf_sub r = refl
sound labels answers l a xs f (sf_e d e) r = refl
sound labels answers l a xs f (sf_on_e d e s) r = refl
sound labels answers l a xs f (sf_weak d) r = refl
sound labels answers l a xs f (handoff d) r = refl
sound labels answers l a xs f (handoff_on d) r = refl

-- a formula that is not true is not derived
pub not_derived : (labels answers : List FormulaTree) (f : FormulaTree) → truth_of f ≡ false → All IsSays labels → All IsSays answers → Derivation labels answers [] f → ⊥
not_derived labels answers f e l a d = let t = sound labels answers l a [] f d tt in absurd (cc (e, t))
