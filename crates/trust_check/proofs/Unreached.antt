-- What is true under the assumptions leads to nothing that is false under them.
use Rattle.std.proofs.Common.{inl, List, [], ◌∷◌, ◌++◌, sym, subst}
use Rattle.std.specs.List.{All}
use Rattle.std.proofs.lemmas.List.Elements.{All-append, All-weaker}
use Rattle.nal_term.specs.Trees.{FormulaTree, falsum, and, or, implies, says, speaks_for, speaks_for_on}
use Rattle.nal_rules.specs.Derivation.{Derivation, TakesOut, nothing, takes, leaves, label, ask, hyp, true_i, and_i, and_l, and_r, or_l, or_r, or_e, imp_i, imp_e, false_e, forall_i, forall_e, exists_i, exists_e, eq_refl, eq_sym, eq_trans, arith, lt_trans, lt_le_trans, says_i, deduce, says_join, sf_refl, sf_trans, sf_sub, sf_e, sf_on_e, sf_weak, handoff, handoff_on}
use Rattle.trust_check.specs.Valuation.{Assumptions, Holds}
use Rattle.trust_check.specs.Unquantified.{IsUnquantified}
use Rattle.trust_check.specs.Reach.{IsSaidByUntrusted, IsOutOfReach}
use Rattle.trust_check.proofs.Rules as keeps

module _ (a : Assumptions) where
  -- each of the formulas is true
  abbrev AreTrue : List FormulaTree → Type 0
  AreTrue [] = Unit {0}
  AreTrue (f ∷ fs) = Holds a f × AreTrue fs

  true_left : (xs ys : List FormulaTree) → AreTrue (xs ++ ys) → AreTrue xs
  true_left [] ys r = tt
  true_left (x ∷ xs) ys r = (r.0, true_left xs ys r.1)

  true_right : (xs ys : List FormulaTree) → AreTrue (xs ++ ys) → AreTrue ys
  true_right [] ys r = r
  true_right (x ∷ xs) ys r = true_right xs ys r.1

  -- where a formula is true, so are the formulas out of which it was taken
  put_back : {f : FormulaTree} {xs ys : List FormulaTree} → Holds a f → TakesOut f xs ys → AreTrue ys → AreTrue xs
  put_back h nothing r = tt
  put_back h (takes t) r = (h, put_back h t r)
  put_back h (leaves n t) r = (r.0, put_back h t r.1)

  module _ (labels answers : List FormulaTree) (true_labels : All (Holds a) labels) (true_answers : All (Holds a) answers) where
    -- where the labels, the answers and the open hypotheses of a derivation are true, so is its conclusion
    sound : (xs : List FormulaTree) (f : FormulaTree) (d : Derivation labels answers xs f) → IsUnquantified d → AreTrue xs → Holds a f
    sound xs f (label h c) u r = keeps.label a labels f true_labels h
    sound xs f (ask h c) u r = keeps.ask a answers f true_answers h
    sound xs f hyp u r = r.0
    sound xs f true_i u r = keeps.true_i a
    sound xs f (and_i {xs = ys} {ys = zs} {a = g} {b = h} d e) u r = keeps.and_i a g h (sound ys g d u.0 (true_left ys zs r)) (sound zs h e u.1 (true_right ys zs r))
    sound xs f (and_l {b = g} d) u r = keeps.and_l a f g (sound xs (and f g) d u r)
    sound xs f (and_r {a = g} d) u r = keeps.and_r a g f (sound xs (and g f) d u r)
    sound xs f (or_l {a = g} {b = h} d) u r = keeps.or_l a g h (sound xs g d u r)
    sound xs f (or_r {a = g} {b = h} d) u r = keeps.or_r a g h (sound xs h d u r)
    sound xs f (or_e {xs = ys} {ys = us} {ys' = us'} {zs = vs} {zs' = vs'} {a = g} {b = h} d e s i t) u r =
        let both = true_left (ys ++ us') vs' r in
        keeps.or_e a g h f (sound ys (or g h) d u.0 (true_left ys us' both)) (λ m. sound us f e u.1 (put_back m s (true_right ys us' both))) (λ m. sound vs f i u.2 (put_back m t (true_right (ys ++ us') vs' r)))
    sound xs f (imp_i {xs = ys} {a = g} {b = h} d t) u r = keeps.imp_i a g h (λ m. sound ys h d u (put_back m t r))
    sound xs f (imp_e {xs = ys} {ys = zs} {a = g} d e) u r = keeps.imp_e a g f (sound ys (implies g f) d u.0 (true_left ys zs r)) (sound zs g e u.1 (true_right ys zs r))
    sound xs f (false_e d) u r = keeps.false_e a f (sound xs falsum d u r)
    sound xs f (forall_i d n) u r = absurd u
    sound xs f (forall_e t d s) u r = absurd u
    sound xs f (exists_i t d s) u r = absurd u
    sound xs f (exists_e d e t n m) u r = absurd u
    sound xs f (eq_refl {t = t}) u r = keeps.eq_refl a t
    sound xs f (eq_sym {t = t} {u = v} d) u r = keeps.eq_sym a t v (sound xs _ d u r)
    sound xs f (eq_trans {xs = ys} {ys = zs} {t = t} {u = v} {v = w} d e) u r = keeps.eq_trans a t v w (sound ys _ d u.0 (true_left ys zs r)) (sound zs _ e u.1 (true_right ys zs r))
    sound xs f (arith {c = c} {m = m} {n = n} h) u r = keeps.arith a c m n
    sound xs f (lt_trans {xs = ys} {ys = zs} {a = t} {b = v} {c = w} d e) u r = keeps.lt_trans a t v w (sound ys _ d u.0 (true_left ys zs r)) (sound zs _ e u.1 (true_right ys zs r))
    sound xs f (lt_le_trans {xs = ys} {ys = zs} {a = t} {b = v} {c = w} d e) u r = keeps.lt_le_trans a t v w (sound ys _ d u.0 (true_left ys zs r)) (sound zs _ e u.1 (true_right ys zs r))
    sound xs f (says_i {p = p} {f = g} d) u r = keeps.says_i a p g (sound xs g d u r)
    sound xs f (deduce {xs = ys} {ys = zs} {p = p} {f = g} {g = h} d e) u r = keeps.deduce a p g h (sound ys (says p (implies g h)) d u.0 (true_left ys zs r)) (sound zs (says p g) e u.1 (true_right ys zs r))
    sound xs f (says_join {p = p} {f = g} d) u r = keeps.says_join a p g (sound xs (says p (says p g)) d u r)
    sound xs f (sf_refl {p = p}) u r = keeps.sf_refl a p
    sound xs f (sf_trans {xs = ys} {ys = zs} {p = p} {q = q} {r = s} d e) u r = keeps.sf_trans a p q s (sound ys (speaks_for p q) d u.0 (true_left ys zs r)) (sound zs (speaks_for q s) e u.1 (true_right ys zs r))
    sound xs f (sf_sub {p = p} {n = n}) u r = keeps.sf_sub a p n
    sound xs f (sf_e {xs = ys} {ys = zs} {p = p} {q = q} {f = g} d e) u r = keeps.sf_e a p q g (sound ys (speaks_for p q) d u.0 (true_left ys zs r)) (sound zs (says p g) e u.1 (true_right ys zs r))
    sound xs f (sf_on_e {xs = ys} {ys = zs} {p = p} {q = q} {s = names} {f = g} d e s) u r = keeps.sf_on_e a p q names g (sound ys (speaks_for_on p q names) d u.0 (true_left ys zs r)) (sound zs (says p g) e u.1 (true_right ys zs r)) s
    sound xs f (sf_weak {p = p} {q = q} {s = names} d) u r = keeps.sf_weak a p q names (sound xs (speaks_for p q) d u r)
    sound xs f (handoff {p = p} {q = q} d) u r = keeps.handoff a p q (sound xs (says q (speaks_for p q)) d u r)
    sound xs f (handoff_on {p = p} {q = q} {s = names} d) u r = keeps.handoff_on a p q names (sound xs (says q (speaks_for_on p q names)) d u r)

  said_holds : (f : FormulaTree) → IsSaidByUntrusted a f → Holds a f
  said_holds f (p, s, e, untrusted) = subst (Holds a) (sym e) (inl untrusted)

  -- where the labels are true and the goal is not, the goal is out of reach
  pub out_of_reach : (labels : List FormulaTree) (goal : FormulaTree) → All (Holds a) labels → (Holds a goal → ⊥) → IsOutOfReach a labels goal
  out_of_reach labels goal true_labels false_goal said by_untrusted d =
      let true_said = All-weaker (IsSaidByUntrusted a) (Holds a) said_holds said by_untrusted in
      false_goal (sound (labels ++ said) said (All-append (Holds a) labels said true_labels true_said) true_said [] goal d.0 d.1 tt)
