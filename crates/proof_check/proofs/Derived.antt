-- A line is derived from the lines to which it refers, rule by rule.
use Rattle.std.proofs.Common.{append_assoc, ◌≡◌, ℕ, List, [], ◌∷◌, ◌++◌, Option, Some, None, true, false, refl, sym, subst, ⊎_elim, inl, inr}
use Rattle.std.specs.List.{Contains}
use Rattle.std.proofs.lemmas.Bool.{cases_Bool}
use Rattle.std.proofs.lemmas.List.Elements.{All-nil, All-cons}
use Rattle.nal_term.specs.declared.formulas.Compare.TheVariants.{Equal, Less, AtMost}
use Rattle.nal_term.specs.Trees.{TermTree, FormulaTree, verum, falsum, test, and, or, implies, forall, exists, says, speaks_for, speaks_for_on}
use Rattle.nal_term.specs.Free.{is_free_in, IsClosed}
use Rattle.nal_subst.specs.Substitution.{formula_with}
use Rattle.proof_lines.specs.declared.rules.Rule.{Rule}
use Rattle.proof_lines.specs.declared.rules.Rule.TheVariants.{Label, Ask, Hyp, TrueI, AndI, AndL, AndR, OrL, OrR, OrE, ImpI, ImpE, FalseE, ForallI, ForallE, ExistsI, ExistsE, EqRefl, EqSym, EqTrans, Arith, LtTrans, SaysI, Deduce, SaysJoin, SfRefl, SfTrans, SfSub, SfE, SfOnE, SfWeak, Handoff, HandoffOn}
use Rattle.proof_lines.specs.Lines.{LineTree}
use Rattle.nal_rules.specs.Derivation.{IsFresh, label, ask, hyp, true_i, and_i, and_l, and_r, or_l, or_r, or_e, imp_i, imp_e, false_e, forall_i, forall_e, exists_i, exists_e, eq_refl, eq_sym, eq_trans, arith, lt_trans, lt_le_trans, says_i, deduce, says_join, sf_refl, sf_trans, sf_sub, sf_e, sf_on_e, sf_weak, handoff, handoff_on}
use Rattle.nal_rules.specs.Faults.{formula_at, supports_of, HasForm, IsCaptured, IsNotFresh, IsFreeBelow, IsTrueComparison, IsSays, RestsOn}
use Rattle.nal_rules.proofs.ForCallers.{takes_out}
use Rattle.proof_check.specs.Inner.Sound.{IsWithinScope}
use Rattle.proof_check.proofs.Rested.{AreRested, rested_append, rested_taken}
use Rattle.proof_check.proofs.Steps.{IsSupported, IsPremise, ArePremises, Carries, at_first, at_second, at_third, same_derived, none_line, one_line, two_line, none_step, one_step, two_step}

-- what the other faults say of a line, where none of them applies
pub record IsRight (lines : List LineTree) (labels answers : List FormulaTree) (k : ℕ) (r : Rule) (refs : List ℕ) (premises : List FormulaTree) (t : Option TermTree) (c : FormulaTree) : Type 0 where
  pub held : r ≡ Label → Contains labels c × IsClosed c
  pub answered : r ≡ Ask → Contains answers c × IsSays c × IsClosed c
  pub assumed : r ≡ Hyp → RestsOn lines k k × (formula_at lines k ≡ Some c)
  pub free : IsCaptured r premises t c → ⊥
  pub fresh : IsNotFresh lines r refs c → ⊥
  pub scope : IsWithinScope r premises
  pub holds : r ≡ Arith → IsTrueComparison c

-- a variable that is free in the formula of no hypothesis below is fresh
pub fresh_below : (lines : List LineTree) (j : ℕ) (discharged : Option ℕ) (x : List ℕ) → (IsFreeBelow lines j discharged x → ⊥) → (xs : List FormulaTree) → AreRested lines j discharged xs → IsFresh x xs
fresh_below lines j discharged x n [] a = All-nil (λ f. is_free_in x f ≡ false)
fresh_below lines j discharged x n (g ∷ gs) ((h, rests, reads, kept), a) =
    All-cons (λ f. is_free_in x f ≡ false) g gs (⊎_elim (λ (e : is_free_in x g ≡ true). absurd (n (h, rests, kept, (g, reads, e)))) (λ (e : is_free_in x g ≡ false). e) (cases_Bool (is_free_in x g))) (fresh_below lines j discharged x n gs a)

module _ (lines : List LineTree) (labels answers : List FormulaTree) (k : ℕ) where
  label_line : (refs : List ℕ) (premises : List FormulaTree) (t : Option TermTree) (c : FormulaTree) → Carries lines k (supports_of Label refs) → ArePremises lines labels answers k refs premises → HasForm Label premises t c → IsRight lines labels answers k Label refs premises t c → IsSupported lines labels answers k c
  label_line refs premises t c carries given h right =
      none_line lines labels answers k (λ fs t. HasForm Label fs t c) (IsSupported lines labels answers k c) (λ f fs t h. h) (λ t h. h) premises t h (λ w. none_step lines labels answers k c ((let m = right.held refl in label m.0 m.1)))

  ask_line : (refs : List ℕ) (premises : List FormulaTree) (t : Option TermTree) (c : FormulaTree) → Carries lines k (supports_of Ask refs) → ArePremises lines labels answers k refs premises → HasForm Ask premises t c → IsRight lines labels answers k Ask refs premises t c → IsSupported lines labels answers k c
  ask_line refs premises t c carries given h right =
      none_line lines labels answers k (λ fs t. HasForm Ask fs t c) (IsSupported lines labels answers k c) (λ f fs t h. h) (λ t h. h) premises t h (λ w. none_step lines labels answers k c ((let m = right.answered refl in let e = m.1.2 in same_derived lines labels answers k [] _ c (sym e) (ask {p = m.1.0} {f = m.1.1} (subst (λ x. Contains answers x) e m.0) (subst (λ x. IsClosed x) e m.2)))))

  true_i_line : (refs : List ℕ) (premises : List FormulaTree) (t : Option TermTree) (c : FormulaTree) → Carries lines k (supports_of TrueI refs) → ArePremises lines labels answers k refs premises → HasForm TrueI premises t c → IsRight lines labels answers k TrueI refs premises t c → IsSupported lines labels answers k c
  true_i_line refs premises t c carries given h right =
      none_line lines labels answers k (λ fs t. HasForm TrueI fs t c) (IsSupported lines labels answers k c) (λ f fs t h. h) (λ t h. h) premises t h (λ e. none_step lines labels answers k c (same_derived lines labels answers k [] verum c (sym e) true_i))

  eq_refl_line : (refs : List ℕ) (premises : List FormulaTree) (t : Option TermTree) (c : FormulaTree) → Carries lines k (supports_of EqRefl refs) → ArePremises lines labels answers k refs premises → HasForm EqRefl premises t c → IsRight lines labels answers k EqRefl refs premises t c → IsSupported lines labels answers k c
  eq_refl_line refs premises t c carries given h right =
      none_line lines labels answers k (λ fs t. HasForm EqRefl fs t c) (IsSupported lines labels answers k c) (λ f fs t h. h) (λ t h. h) premises t h (λ (t, e). none_step lines labels answers k c (same_derived lines labels answers k [] _ c (sym e) (eq_refl {t = t})))

  arith_line : (refs : List ℕ) (premises : List FormulaTree) (t : Option TermTree) (c : FormulaTree) → Carries lines k (supports_of Arith refs) → ArePremises lines labels answers k refs premises → HasForm Arith premises t c → IsRight lines labels answers k Arith refs premises t c → IsSupported lines labels answers k c
  arith_line refs premises t c carries given h right =
      none_line lines labels answers k (λ fs t. HasForm Arith fs t c) (IsSupported lines labels answers k c) (λ f fs t h. h) (λ t h. h) premises t h (λ w. none_step lines labels answers k c ((let m = right.holds refl in same_derived lines labels answers k [] _ c (sym m.3) (arith {c = m.0} {m = m.1} {n = m.2} m.4))))

  sf_refl_line : (refs : List ℕ) (premises : List FormulaTree) (t : Option TermTree) (c : FormulaTree) → Carries lines k (supports_of SfRefl refs) → ArePremises lines labels answers k refs premises → HasForm SfRefl premises t c → IsRight lines labels answers k SfRefl refs premises t c → IsSupported lines labels answers k c
  sf_refl_line refs premises t c carries given h right =
      none_line lines labels answers k (λ fs t. HasForm SfRefl fs t c) (IsSupported lines labels answers k c) (λ f fs t h. h) (λ t h. h) premises t h (λ (p, e). none_step lines labels answers k c (same_derived lines labels answers k [] _ c (sym e) (sf_refl {p = p})))

  sf_sub_line : (refs : List ℕ) (premises : List FormulaTree) (t : Option TermTree) (c : FormulaTree) → Carries lines k (supports_of SfSub refs) → ArePremises lines labels answers k refs premises → HasForm SfSub premises t c → IsRight lines labels answers k SfSub refs premises t c → IsSupported lines labels answers k c
  sf_sub_line refs premises t c carries given h right =
      none_line lines labels answers k (λ fs t. HasForm SfSub fs t c) (IsSupported lines labels answers k c) (λ f fs t h. h) (λ t h. h) premises t h (λ (p, n, e). none_step lines labels answers k c (same_derived lines labels answers k [] _ c (sym e) (sf_sub {p = p} {n = n})))

  and_l_one : (t : Option TermTree) (i : ℕ) (f c : FormulaTree) → HasForm AndL (f ∷ []) t c → Carries lines k (supports_of AndL (i ∷ [])) → IsPremise lines labels answers k i f → IsSupported lines labels answers k c
  and_l_one (Some t) i f c h carries given = absurd h
  and_l_one None i f c (b, e) carries given = one_step lines labels answers k i f c carries given (λ xs d. and_l (same_derived lines labels answers k xs f (and c b) e d))

  and_l_line : (refs : List ℕ) (premises : List FormulaTree) (t : Option TermTree) (c : FormulaTree) → Carries lines k (supports_of AndL refs) → ArePremises lines labels answers k refs premises → HasForm AndL premises t c → IsRight lines labels answers k AndL refs premises t c → IsSupported lines labels answers k c
  and_l_line refs premises t c carries given h right =
      one_line lines labels answers k (λ fs t. HasForm AndL fs t c) (λ refs. Carries lines k (supports_of AndL refs)) (IsSupported lines labels answers k c) (λ t h. h) (λ f g fs t h. h) refs premises t given h carries (λ i f h carries given. and_l_one t i f c h carries given)

  and_r_one : (t : Option TermTree) (i : ℕ) (f c : FormulaTree) → HasForm AndR (f ∷ []) t c → Carries lines k (supports_of AndR (i ∷ [])) → IsPremise lines labels answers k i f → IsSupported lines labels answers k c
  and_r_one (Some t) i f c h carries given = absurd h
  and_r_one None i f c (a, e) carries given = one_step lines labels answers k i f c carries given (λ xs d. and_r (same_derived lines labels answers k xs f (and a c) e d))

  and_r_line : (refs : List ℕ) (premises : List FormulaTree) (t : Option TermTree) (c : FormulaTree) → Carries lines k (supports_of AndR refs) → ArePremises lines labels answers k refs premises → HasForm AndR premises t c → IsRight lines labels answers k AndR refs premises t c → IsSupported lines labels answers k c
  and_r_line refs premises t c carries given h right =
      one_line lines labels answers k (λ fs t. HasForm AndR fs t c) (λ refs. Carries lines k (supports_of AndR refs)) (IsSupported lines labels answers k c) (λ t h. h) (λ f g fs t h. h) refs premises t given h carries (λ i f h carries given. and_r_one t i f c h carries given)

  or_l_one : (t : Option TermTree) (i : ℕ) (f c : FormulaTree) → HasForm OrL (f ∷ []) t c → Carries lines k (supports_of OrL (i ∷ [])) → IsPremise lines labels answers k i f → IsSupported lines labels answers k c
  or_l_one (Some t) i f c h carries given = absurd h
  or_l_one None i f c (b, e) carries given = one_step lines labels answers k i f c carries given (λ xs d. same_derived lines labels answers k xs (or f b) c (sym e) (or_l d))

  or_l_line : (refs : List ℕ) (premises : List FormulaTree) (t : Option TermTree) (c : FormulaTree) → Carries lines k (supports_of OrL refs) → ArePremises lines labels answers k refs premises → HasForm OrL premises t c → IsRight lines labels answers k OrL refs premises t c → IsSupported lines labels answers k c
  or_l_line refs premises t c carries given h right =
      one_line lines labels answers k (λ fs t. HasForm OrL fs t c) (λ refs. Carries lines k (supports_of OrL refs)) (IsSupported lines labels answers k c) (λ t h. h) (λ f g fs t h. h) refs premises t given h carries (λ i f h carries given. or_l_one t i f c h carries given)

  or_r_one : (t : Option TermTree) (i : ℕ) (f c : FormulaTree) → HasForm OrR (f ∷ []) t c → Carries lines k (supports_of OrR (i ∷ [])) → IsPremise lines labels answers k i f → IsSupported lines labels answers k c
  or_r_one (Some t) i f c h carries given = absurd h
  or_r_one None i f c (a, e) carries given = one_step lines labels answers k i f c carries given (λ xs d. same_derived lines labels answers k xs (or a f) c (sym e) (or_r d))

  or_r_line : (refs : List ℕ) (premises : List FormulaTree) (t : Option TermTree) (c : FormulaTree) → Carries lines k (supports_of OrR refs) → ArePremises lines labels answers k refs premises → HasForm OrR premises t c → IsRight lines labels answers k OrR refs premises t c → IsSupported lines labels answers k c
  or_r_line refs premises t c carries given h right =
      one_line lines labels answers k (λ fs t. HasForm OrR fs t c) (λ refs. Carries lines k (supports_of OrR refs)) (IsSupported lines labels answers k c) (λ t h. h) (λ f g fs t h. h) refs premises t given h carries (λ i f h carries given. or_r_one t i f c h carries given)

  false_e_one : (t : Option TermTree) (i : ℕ) (f c : FormulaTree) → HasForm FalseE (f ∷ []) t c → Carries lines k (supports_of FalseE (i ∷ [])) → IsPremise lines labels answers k i f → IsSupported lines labels answers k c
  false_e_one (Some t) i f c h carries given = absurd h
  false_e_one None i f c e carries given = one_step lines labels answers k i f c carries given (λ xs d. false_e (same_derived lines labels answers k xs f falsum e d))

  false_e_line : (refs : List ℕ) (premises : List FormulaTree) (t : Option TermTree) (c : FormulaTree) → Carries lines k (supports_of FalseE refs) → ArePremises lines labels answers k refs premises → HasForm FalseE premises t c → IsRight lines labels answers k FalseE refs premises t c → IsSupported lines labels answers k c
  false_e_line refs premises t c carries given h right =
      one_line lines labels answers k (λ fs t. HasForm FalseE fs t c) (λ refs. Carries lines k (supports_of FalseE refs)) (IsSupported lines labels answers k c) (λ t h. h) (λ f g fs t h. h) refs premises t given h carries (λ i f h carries given. false_e_one t i f c h carries given)

  eq_sym_one : (t : Option TermTree) (i : ℕ) (f c : FormulaTree) → HasForm EqSym (f ∷ []) t c → Carries lines k (supports_of EqSym (i ∷ [])) → IsPremise lines labels answers k i f → IsSupported lines labels answers k c
  eq_sym_one (Some t) i f c h carries given = absurd h
  eq_sym_one None i f c (t, u, e, s) carries given = one_step lines labels answers k i f c carries given (λ xs d. same_derived lines labels answers k xs (test Equal u t) c (sym s) (eq_sym (same_derived lines labels answers k xs f (test Equal t u) e d)))

  eq_sym_line : (refs : List ℕ) (premises : List FormulaTree) (t : Option TermTree) (c : FormulaTree) → Carries lines k (supports_of EqSym refs) → ArePremises lines labels answers k refs premises → HasForm EqSym premises t c → IsRight lines labels answers k EqSym refs premises t c → IsSupported lines labels answers k c
  eq_sym_line refs premises t c carries given h right =
      one_line lines labels answers k (λ fs t. HasForm EqSym fs t c) (λ refs. Carries lines k (supports_of EqSym refs)) (IsSupported lines labels answers k c) (λ t h. h) (λ f g fs t h. h) refs premises t given h carries (λ i f h carries given. eq_sym_one t i f c h carries given)

  says_i_one : (t : Option TermTree) (i : ℕ) (f c : FormulaTree) → HasForm SaysI (f ∷ []) t c → Carries lines k (supports_of SaysI (i ∷ [])) → IsPremise lines labels answers k i f → IsSupported lines labels answers k c
  says_i_one (Some t) i f c h carries given = absurd h
  says_i_one None i f c (p, e) carries given = one_step lines labels answers k i f c carries given (λ xs d. same_derived lines labels answers k xs (says p f) c (sym e) (says_i d))

  says_i_line : (refs : List ℕ) (premises : List FormulaTree) (t : Option TermTree) (c : FormulaTree) → Carries lines k (supports_of SaysI refs) → ArePremises lines labels answers k refs premises → HasForm SaysI premises t c → IsRight lines labels answers k SaysI refs premises t c → IsSupported lines labels answers k c
  says_i_line refs premises t c carries given h right =
      one_line lines labels answers k (λ fs t. HasForm SaysI fs t c) (λ refs. Carries lines k (supports_of SaysI refs)) (IsSupported lines labels answers k c) (λ t h. h) (λ f g fs t h. h) refs premises t given h carries (λ i f h carries given. says_i_one t i f c h carries given)

  says_join_one : (t : Option TermTree) (i : ℕ) (f c : FormulaTree) → HasForm SaysJoin (f ∷ []) t c → Carries lines k (supports_of SaysJoin (i ∷ [])) → IsPremise lines labels answers k i f → IsSupported lines labels answers k c
  says_join_one (Some t) i f c h carries given = absurd h
  says_join_one None i f c (p, a, e, s) carries given = one_step lines labels answers k i f c carries given (λ xs d. same_derived lines labels answers k xs (says p a) c (sym s) (says_join (same_derived lines labels answers k xs f (says p (says p a)) e d)))

  says_join_line : (refs : List ℕ) (premises : List FormulaTree) (t : Option TermTree) (c : FormulaTree) → Carries lines k (supports_of SaysJoin refs) → ArePremises lines labels answers k refs premises → HasForm SaysJoin premises t c → IsRight lines labels answers k SaysJoin refs premises t c → IsSupported lines labels answers k c
  says_join_line refs premises t c carries given h right =
      one_line lines labels answers k (λ fs t. HasForm SaysJoin fs t c) (λ refs. Carries lines k (supports_of SaysJoin refs)) (IsSupported lines labels answers k c) (λ t h. h) (λ f g fs t h. h) refs premises t given h carries (λ i f h carries given. says_join_one t i f c h carries given)

  sf_weak_one : (t : Option TermTree) (i : ℕ) (f c : FormulaTree) → HasForm SfWeak (f ∷ []) t c → Carries lines k (supports_of SfWeak (i ∷ [])) → IsPremise lines labels answers k i f → IsSupported lines labels answers k c
  sf_weak_one (Some t) i f c h carries given = absurd h
  sf_weak_one None i f c (p, q, s, e, z) carries given = one_step lines labels answers k i f c carries given (λ xs d. same_derived lines labels answers k xs (speaks_for_on p q s) c (sym z) (sf_weak (same_derived lines labels answers k xs f (speaks_for p q) e d)))

  sf_weak_line : (refs : List ℕ) (premises : List FormulaTree) (t : Option TermTree) (c : FormulaTree) → Carries lines k (supports_of SfWeak refs) → ArePremises lines labels answers k refs premises → HasForm SfWeak premises t c → IsRight lines labels answers k SfWeak refs premises t c → IsSupported lines labels answers k c
  sf_weak_line refs premises t c carries given h right =
      one_line lines labels answers k (λ fs t. HasForm SfWeak fs t c) (λ refs. Carries lines k (supports_of SfWeak refs)) (IsSupported lines labels answers k c) (λ t h. h) (λ f g fs t h. h) refs premises t given h carries (λ i f h carries given. sf_weak_one t i f c h carries given)

  handoff_one : (t : Option TermTree) (i : ℕ) (f c : FormulaTree) → HasForm Handoff (f ∷ []) t c → Carries lines k (supports_of Handoff (i ∷ [])) → IsPremise lines labels answers k i f → IsSupported lines labels answers k c
  handoff_one (Some t) i f c h carries given = absurd h
  handoff_one None i f c (p, q, e, s) carries given = one_step lines labels answers k i f c carries given (λ xs d. same_derived lines labels answers k xs (speaks_for p q) c (sym s) (handoff (same_derived lines labels answers k xs f (says q (speaks_for p q)) e d)))

  handoff_line : (refs : List ℕ) (premises : List FormulaTree) (t : Option TermTree) (c : FormulaTree) → Carries lines k (supports_of Handoff refs) → ArePremises lines labels answers k refs premises → HasForm Handoff premises t c → IsRight lines labels answers k Handoff refs premises t c → IsSupported lines labels answers k c
  handoff_line refs premises t c carries given h right =
      one_line lines labels answers k (λ fs t. HasForm Handoff fs t c) (λ refs. Carries lines k (supports_of Handoff refs)) (IsSupported lines labels answers k c) (λ t h. h) (λ f g fs t h. h) refs premises t given h carries (λ i f h carries given. handoff_one t i f c h carries given)

  handoff_on_one : (t : Option TermTree) (i : ℕ) (f c : FormulaTree) → HasForm HandoffOn (f ∷ []) t c → Carries lines k (supports_of HandoffOn (i ∷ [])) → IsPremise lines labels answers k i f → IsSupported lines labels answers k c
  handoff_on_one (Some t) i f c h carries given = absurd h
  handoff_on_one None i f c (p, q, s, e, z) carries given = one_step lines labels answers k i f c carries given (λ xs d. same_derived lines labels answers k xs (speaks_for_on p q s) c (sym z) (handoff_on (same_derived lines labels answers k xs f (says q (speaks_for_on p q s)) e d)))

  handoff_on_line : (refs : List ℕ) (premises : List FormulaTree) (t : Option TermTree) (c : FormulaTree) → Carries lines k (supports_of HandoffOn refs) → ArePremises lines labels answers k refs premises → HasForm HandoffOn premises t c → IsRight lines labels answers k HandoffOn refs premises t c → IsSupported lines labels answers k c
  handoff_on_line refs premises t c carries given h right =
      one_line lines labels answers k (λ fs t. HasForm HandoffOn fs t c) (λ refs. Carries lines k (supports_of HandoffOn refs)) (IsSupported lines labels answers k c) (λ t h. h) (λ f g fs t h. h) refs premises t given h carries (λ i f h carries given. handoff_on_one t i f c h carries given)

  and_i_two : (t : Option TermTree) (i j : ℕ) (f g c : FormulaTree) → HasForm AndI (f ∷ g ∷ []) t c → Carries lines k (supports_of AndI (i ∷ j ∷ [])) → IsPremise lines labels answers k i f → IsPremise lines labels answers k j g → IsSupported lines labels answers k c
  and_i_two (Some t) i j f g c h carries first second = absurd h
  and_i_two None i j f g c e carries first second = two_step lines labels answers k i j f g c carries first second (λ xs ys d b. same_derived lines labels answers k (xs ++ ys) (and f g) c (sym e) (and_i d b))

  and_i_line : (refs : List ℕ) (premises : List FormulaTree) (t : Option TermTree) (c : FormulaTree) → Carries lines k (supports_of AndI refs) → ArePremises lines labels answers k refs premises → HasForm AndI premises t c → IsRight lines labels answers k AndI refs premises t c → IsSupported lines labels answers k c
  and_i_line refs premises t c carries given h right =
      two_line lines labels answers k (λ fs t. HasForm AndI fs t c) (λ refs. Carries lines k (supports_of AndI refs)) (IsSupported lines labels answers k c) (λ t h. h) (λ f t h. h) (λ f g x fs t h. h) refs premises t given h carries (λ i j f g h carries first second. and_i_two t i j f g c h carries first second)

  imp_e_two : (t : Option TermTree) (i j : ℕ) (f g c : FormulaTree) → HasForm ImpE (f ∷ g ∷ []) t c → Carries lines k (supports_of ImpE (i ∷ j ∷ [])) → IsPremise lines labels answers k i f → IsPremise lines labels answers k j g → IsSupported lines labels answers k c
  imp_e_two (Some t) i j f g c h carries first second = absurd h
  imp_e_two None i j f g c e carries first second = two_step lines labels answers k i j f g c carries first second (λ xs ys d b. imp_e (same_derived lines labels answers k xs f (implies g c) e d) b)

  imp_e_line : (refs : List ℕ) (premises : List FormulaTree) (t : Option TermTree) (c : FormulaTree) → Carries lines k (supports_of ImpE refs) → ArePremises lines labels answers k refs premises → HasForm ImpE premises t c → IsRight lines labels answers k ImpE refs premises t c → IsSupported lines labels answers k c
  imp_e_line refs premises t c carries given h right =
      two_line lines labels answers k (λ fs t. HasForm ImpE fs t c) (λ refs. Carries lines k (supports_of ImpE refs)) (IsSupported lines labels answers k c) (λ t h. h) (λ f t h. h) (λ f g x fs t h. h) refs premises t given h carries (λ i j f g h carries first second. imp_e_two t i j f g c h carries first second)

  eq_trans_two : (t : Option TermTree) (i j : ℕ) (f g c : FormulaTree) → HasForm EqTrans (f ∷ g ∷ []) t c → Carries lines k (supports_of EqTrans (i ∷ j ∷ [])) → IsPremise lines labels answers k i f → IsPremise lines labels answers k j g → IsSupported lines labels answers k c
  eq_trans_two (Some t) i j f g c h carries first second = absurd h
  eq_trans_two None i j f g c (t, u, v, e, s, z) carries first second = two_step lines labels answers k i j f g c carries first second (λ xs ys d b. same_derived lines labels answers k (xs ++ ys) (test Equal t v) c (sym z) (eq_trans (same_derived lines labels answers k xs f (test Equal t u) e d) (same_derived lines labels answers k ys g (test Equal u v) s b)))

  eq_trans_line : (refs : List ℕ) (premises : List FormulaTree) (t : Option TermTree) (c : FormulaTree) → Carries lines k (supports_of EqTrans refs) → ArePremises lines labels answers k refs premises → HasForm EqTrans premises t c → IsRight lines labels answers k EqTrans refs premises t c → IsSupported lines labels answers k c
  eq_trans_line refs premises t c carries given h right =
      two_line lines labels answers k (λ fs t. HasForm EqTrans fs t c) (λ refs. Carries lines k (supports_of EqTrans refs)) (IsSupported lines labels answers k c) (λ t h. h) (λ f t h. h) (λ f g x fs t h. h) refs premises t given h carries (λ i j f g h carries first second. eq_trans_two t i j f g c h carries first second)

  lt_trans_two : (t : Option TermTree) (i j : ℕ) (f g c : FormulaTree) → HasForm LtTrans (f ∷ g ∷ []) t c → Carries lines k (supports_of LtTrans (i ∷ j ∷ [])) → IsPremise lines labels answers k i f → IsPremise lines labels answers k j g → IsSupported lines labels answers k c
  lt_trans_two (Some t) i j f g c h carries first second = absurd h
  lt_trans_two None i j f g c (t, u, v, e, s, z) carries first second = two_step lines labels answers k i j f g c carries first second (λ xs ys d b. same_derived lines labels answers k (xs ++ ys) (test Less t v) c (sym z) (⊎_elim (λ (w : g ≡ test Less u v). lt_trans (same_derived lines labels answers k xs f (test Less t u) e d) (same_derived lines labels answers k ys g (test Less u v) w b)) (λ (w : g ≡ test AtMost u v). lt_le_trans (same_derived lines labels answers k xs f (test Less t u) e d) (same_derived lines labels answers k ys g (test AtMost u v) w b)) s))

  lt_trans_line : (refs : List ℕ) (premises : List FormulaTree) (t : Option TermTree) (c : FormulaTree) → Carries lines k (supports_of LtTrans refs) → ArePremises lines labels answers k refs premises → HasForm LtTrans premises t c → IsRight lines labels answers k LtTrans refs premises t c → IsSupported lines labels answers k c
  lt_trans_line refs premises t c carries given h right =
      two_line lines labels answers k (λ fs t. HasForm LtTrans fs t c) (λ refs. Carries lines k (supports_of LtTrans refs)) (IsSupported lines labels answers k c) (λ t h. h) (λ f t h. h) (λ f g x fs t h. h) refs premises t given h carries (λ i j f g h carries first second. lt_trans_two t i j f g c h carries first second)

  deduce_two : (t : Option TermTree) (i j : ℕ) (f g c : FormulaTree) → HasForm Deduce (f ∷ g ∷ []) t c → Carries lines k (supports_of Deduce (i ∷ j ∷ [])) → IsPremise lines labels answers k i f → IsPremise lines labels answers k j g → IsSupported lines labels answers k c
  deduce_two (Some t) i j f g c h carries first second = absurd h
  deduce_two None i j f g c (p, a, x, e, s, z) carries first second = two_step lines labels answers k i j f g c carries first second (λ xs ys d b. same_derived lines labels answers k (xs ++ ys) (says p x) c (sym z) (deduce (same_derived lines labels answers k xs f (says p (implies a x)) e d) (same_derived lines labels answers k ys g (says p a) s b)))

  deduce_line : (refs : List ℕ) (premises : List FormulaTree) (t : Option TermTree) (c : FormulaTree) → Carries lines k (supports_of Deduce refs) → ArePremises lines labels answers k refs premises → HasForm Deduce premises t c → IsRight lines labels answers k Deduce refs premises t c → IsSupported lines labels answers k c
  deduce_line refs premises t c carries given h right =
      two_line lines labels answers k (λ fs t. HasForm Deduce fs t c) (λ refs. Carries lines k (supports_of Deduce refs)) (IsSupported lines labels answers k c) (λ t h. h) (λ f t h. h) (λ f g x fs t h. h) refs premises t given h carries (λ i j f g h carries first second. deduce_two t i j f g c h carries first second)

  sf_trans_two : (t : Option TermTree) (i j : ℕ) (f g c : FormulaTree) → HasForm SfTrans (f ∷ g ∷ []) t c → Carries lines k (supports_of SfTrans (i ∷ j ∷ [])) → IsPremise lines labels answers k i f → IsPremise lines labels answers k j g → IsSupported lines labels answers k c
  sf_trans_two (Some t) i j f g c h carries first second = absurd h
  sf_trans_two None i j f g c (p, q, r, e, s, z) carries first second = two_step lines labels answers k i j f g c carries first second (λ xs ys d b. same_derived lines labels answers k (xs ++ ys) (speaks_for p r) c (sym z) (sf_trans (same_derived lines labels answers k xs f (speaks_for p q) e d) (same_derived lines labels answers k ys g (speaks_for q r) s b)))

  sf_trans_line : (refs : List ℕ) (premises : List FormulaTree) (t : Option TermTree) (c : FormulaTree) → Carries lines k (supports_of SfTrans refs) → ArePremises lines labels answers k refs premises → HasForm SfTrans premises t c → IsRight lines labels answers k SfTrans refs premises t c → IsSupported lines labels answers k c
  sf_trans_line refs premises t c carries given h right =
      two_line lines labels answers k (λ fs t. HasForm SfTrans fs t c) (λ refs. Carries lines k (supports_of SfTrans refs)) (IsSupported lines labels answers k c) (λ t h. h) (λ f t h. h) (λ f g x fs t h. h) refs premises t given h carries (λ i j f g h carries first second. sf_trans_two t i j f g c h carries first second)

  sf_e_two : (t : Option TermTree) (i j : ℕ) (f g c : FormulaTree) → HasForm SfE (f ∷ g ∷ []) t c → Carries lines k (supports_of SfE (i ∷ j ∷ [])) → IsPremise lines labels answers k i f → IsPremise lines labels answers k j g → IsSupported lines labels answers k c
  sf_e_two (Some t) i j f g c h carries first second = absurd h
  sf_e_two None i j f g c (p, q, a, e, s, z) carries first second = two_step lines labels answers k i j f g c carries first second (λ xs ys d b. same_derived lines labels answers k (xs ++ ys) (says q a) c (sym z) (sf_e (same_derived lines labels answers k xs f (speaks_for p q) e d) (same_derived lines labels answers k ys g (says p a) s b)))

  sf_e_line : (refs : List ℕ) (premises : List FormulaTree) (t : Option TermTree) (c : FormulaTree) → Carries lines k (supports_of SfE refs) → ArePremises lines labels answers k refs premises → HasForm SfE premises t c → IsRight lines labels answers k SfE refs premises t c → IsSupported lines labels answers k c
  sf_e_line refs premises t c carries given h right =
      two_line lines labels answers k (λ fs t. HasForm SfE fs t c) (λ refs. Carries lines k (supports_of SfE refs)) (IsSupported lines labels answers k c) (λ t h. h) (λ f t h. h) (λ f g x fs t h. h) refs premises t given h carries (λ i j f g h carries first second. sf_e_two t i j f g c h carries first second)

  hyp_line : (refs : List ℕ) (premises : List FormulaTree) (t : Option TermTree) (c : FormulaTree) → Carries lines k (supports_of Hyp refs) → ArePremises lines labels answers k refs premises → HasForm Hyp premises t c → IsRight lines labels answers k Hyp refs premises t c → IsSupported lines labels answers k c
  hyp_line refs premises t c carries given h right =
      let m = right.assumed refl in
      (c ∷ [], hyp, ((k, m.0, m.1, (λ e. cc e)), tt))

  sf_on_e_line : (refs : List ℕ) (premises : List FormulaTree) (t : Option TermTree) (c : FormulaTree) → Carries lines k (supports_of SfOnE refs) → ArePremises lines labels answers k refs premises → HasForm SfOnE premises t c → IsRight lines labels answers k SfOnE refs premises t c → IsSupported lines labels answers k c
  sf_on_e_line refs [] t c carries given h right = absurd h
  sf_on_e_line refs (f ∷ []) t c carries given h right = absurd h
  sf_on_e_line refs (f ∷ g ∷ x ∷ fs) t c carries given h right = absurd h
  sf_on_e_line [] (f ∷ g ∷ []) t c carries given h right = absurd given
  sf_on_e_line (i ∷ []) (f ∷ g ∷ []) t c carries given h right = absurd given.1
  sf_on_e_line (i ∷ j ∷ n ∷ refs) (f ∷ g ∷ []) t c carries given h right = absurd given.1.1
  sf_on_e_line (i ∷ j ∷ []) (f ∷ g ∷ []) (Some t) c carries given h right = absurd h
  sf_on_e_line (i ∷ j ∷ []) (f ∷ g ∷ []) None c carries (first, (second, u)) (p, q, s, a, e, d, z) right =
      two_step lines labels answers k i j f g c carries first second (λ xs ys x y. same_derived lines labels answers k (xs ++ ys) (says q a) c (sym z) (sf_on_e (same_derived lines labels answers k xs f (speaks_for_on p q s) e x) (same_derived lines labels answers k ys g (says p a) d y) (right.scope p q s a e d)))

  imp_i_line : (refs : List ℕ) (premises : List FormulaTree) (t : Option TermTree) (c : FormulaTree) → Carries lines k (supports_of ImpI refs) → ArePremises lines labels answers k refs premises → HasForm ImpI premises t c → IsRight lines labels answers k ImpI refs premises t c → IsSupported lines labels answers k c
  imp_i_line refs [] t c carries given h right = absurd h
  imp_i_line refs (f ∷ []) t c carries given h right = absurd h
  imp_i_line refs (f ∷ g ∷ x ∷ fs) t c carries given h right = absurd h
  imp_i_line [] (f ∷ g ∷ []) t c carries given h right = absurd given
  imp_i_line (i ∷ []) (f ∷ g ∷ []) t c carries given h right = absurd given.1
  imp_i_line (i ∷ j ∷ n ∷ refs) (f ∷ g ∷ []) t c carries given h right = absurd given.1.1
  imp_i_line (i ∷ j ∷ []) (f ∷ g ∷ []) (Some t) c carries given h right = absurd h
  imp_i_line (i ∷ j ∷ []) (f ∷ g ∷ []) None c carries ((below, reads, support), ((earlier, reads', (xs, d, rested)), u)) e right =
      let out = takes_out f xs in
      let left = rested_taken lines j i f reads out.1 rested in
      (out.0, same_derived lines labels answers k out.0 (implies f g) c (sym e) (imp_i d out.1), carries j (Some i) (at_first (j, Some i) []) earlier out.0 left)

  forall_i_one : (t : Option TermTree) (i : ℕ) (f c : FormulaTree) → HasForm ForallI (f ∷ []) t c → Carries lines k (supports_of ForallI (i ∷ [])) × (IsNotFresh lines ForallI (i ∷ []) c → ⊥) → IsPremise lines labels answers k i f → IsSupported lines labels answers k c
  forall_i_one (Some t) i f c h r given = absurd h
  forall_i_one None i f c (x, e) (carries, fresh) (earlier, reads, (xs, d, rested)) =
      let kept = fresh_below lines i None x (λ b. fresh (x, f, e, b)) xs rested in
      (xs, same_derived lines labels answers k xs (forall x f) c (sym e) (forall_i d kept), carries i None (at_first (i, None) []) earlier xs rested)

  forall_i_line : (refs : List ℕ) (premises : List FormulaTree) (t : Option TermTree) (c : FormulaTree) → Carries lines k (supports_of ForallI refs) → ArePremises lines labels answers k refs premises → HasForm ForallI premises t c → IsRight lines labels answers k ForallI refs premises t c → IsSupported lines labels answers k c
  forall_i_line refs premises t c carries given h right =
      one_line lines labels answers k (λ fs t. HasForm ForallI fs t c) (λ refs. Carries lines k (supports_of ForallI refs) × (IsNotFresh lines ForallI refs c → ⊥)) (IsSupported lines labels answers k c) (λ t h. h) (λ f g fs t h. h) refs premises t given h (carries, right.fresh) (λ i f h r given. forall_i_one t i f c h r given)

  forall_e_from : (i : ℕ) (f c : FormulaTree) (t : TermTree) (x : List ℕ) (a : FormulaTree) → f ≡ forall x a → (o : Option FormulaTree) → formula_with x t a ≡ o → ((b : FormulaTree) → o ≡ Some b → c ≡ b) → (o ≡ None → ⊥) → Carries lines k ((i, None) ∷ []) → IsPremise lines labels answers k i f → IsSupported lines labels answers k c
  forall_e_from i f c t x a e None s same free carries given = absurd (free refl)
  forall_e_from i f c t x a e (Some b) s same free carries given =
      one_step lines labels answers k i f c carries given (λ xs d. same_derived lines labels answers k xs b c (sym (same b refl)) (forall_e t (same_derived lines labels answers k xs f (forall x a) e d) s))

  forall_e_one : (t : Option TermTree) (i : ℕ) (f c : FormulaTree) → HasForm ForallE (f ∷ []) t c → Carries lines k (supports_of ForallE (i ∷ [])) → (IsCaptured ForallE (f ∷ []) t c → ⊥) → IsPremise lines labels answers k i f → IsSupported lines labels answers k c
  forall_e_one None i f c h carries free given = absurd h
  forall_e_one (Some t) i f c (x, a, e, same) carries free given =
      forall_e_from i f c t x a e (formula_with x t a) refl same (λ n. free (x, a, e, n)) carries given

  forall_e_line : (refs : List ℕ) (premises : List FormulaTree) (t : Option TermTree) (c : FormulaTree) → Carries lines k (supports_of ForallE refs) → ArePremises lines labels answers k refs premises → HasForm ForallE premises t c → IsRight lines labels answers k ForallE refs premises t c → IsSupported lines labels answers k c
  forall_e_line refs [] t c carries given h right = absurd h
  forall_e_line refs (f ∷ g ∷ fs) t c carries given h right = absurd h
  forall_e_line [] (f ∷ []) t c carries given h right = absurd given
  forall_e_line (i ∷ j ∷ refs) (f ∷ []) t c carries given h right = absurd given.1
  forall_e_line (i ∷ []) (f ∷ []) t c carries given h right = forall_e_one t i f c h carries right.free given.0

  exists_i_from : (i : ℕ) (f c : FormulaTree) (t : TermTree) (x : List ℕ) (a : FormulaTree) → c ≡ exists x a → (o : Option FormulaTree) → formula_with x t a ≡ o → ((b : FormulaTree) → o ≡ Some b → f ≡ b) → (o ≡ None → ⊥) → Carries lines k ((i, None) ∷ []) → IsPremise lines labels answers k i f → IsSupported lines labels answers k c
  exists_i_from i f c t x a e None s same free carries given = absurd (free refl)
  exists_i_from i f c t x a e (Some b) s same free carries given =
      one_step lines labels answers k i f c carries given (λ xs d. same_derived lines labels answers k xs (exists x a) c (sym e) (exists_i t (same_derived lines labels answers k xs f b (same b refl) d) s))

  exists_i_one : (t : Option TermTree) (i : ℕ) (f c : FormulaTree) → HasForm ExistsI (f ∷ []) t c → Carries lines k (supports_of ExistsI (i ∷ [])) → (IsCaptured ExistsI (f ∷ []) t c → ⊥) → IsPremise lines labels answers k i f → IsSupported lines labels answers k c
  exists_i_one None i f c h carries free given = absurd h
  exists_i_one (Some t) i f c (x, a, e, same) carries free given =
      exists_i_from i f c t x a e (formula_with x t a) refl same (λ n. free (x, a, e, n)) carries given

  exists_i_line : (refs : List ℕ) (premises : List FormulaTree) (t : Option TermTree) (c : FormulaTree) → Carries lines k (supports_of ExistsI refs) → ArePremises lines labels answers k refs premises → HasForm ExistsI premises t c → IsRight lines labels answers k ExistsI refs premises t c → IsSupported lines labels answers k c
  exists_i_line refs [] t c carries given h right = absurd h
  exists_i_line refs (f ∷ g ∷ fs) t c carries given h right = absurd h
  exists_i_line [] (f ∷ []) t c carries given h right = absurd given
  exists_i_line (i ∷ j ∷ refs) (f ∷ []) t c carries given h right = absurd given.1
  exists_i_line (i ∷ []) (f ∷ []) t c carries given h right = exists_i_one t i f c h carries right.free given.0

  exists_e_three : (i n j : ℕ) (p a d c : FormulaTree) → (x : List ℕ) → p ≡ exists x a → d ≡ c → Carries lines k ((i, None) ∷ (j, Some n) ∷ []) → (IsNotFresh lines ExistsE (i ∷ n ∷ j ∷ []) c → ⊥) → IsPremise lines labels answers k i p → IsPremise lines labels answers k n a → IsPremise lines labels answers k j d → IsSupported lines labels answers k c
  exists_e_three i n j p a d c x e s carries fresh (below, reads, (xs, b, rested)) (below', reads', support) (below'', reads'', (ys, b', rested')) =
      let out = takes_out a ys in
      let left = rested_taken lines j n a reads' out.1 rested' in
      let read : formula_at lines i ≡ Some (exists x a) = cc (reads, e) in
      let kept = fresh_below lines j (Some n) x (λ w. fresh (x, a, read, inr w)) out.0 left in
      let closed : is_free_in x c ≡ false = ⊎_elim (λ (w : is_free_in x c ≡ true). absurd (fresh (x, a, read, inl w))) (λ (w : is_free_in x c ≡ false). w) (cases_Bool (is_free_in x c)) in (
        xs ++ out.0,
        exists_e (same_derived lines labels answers k xs p (exists x a) e b) (same_derived lines labels answers k ys d c s b') out.1 closed kept,
        rested_append lines k None xs out.0 (carries i None (at_first (i, None) ((j, Some n) ∷ [])) below xs rested) (carries j (Some n) (at_second (i, None) (j, Some n) []) below'' out.0 left),
      )

  exists_e_line : (refs : List ℕ) (premises : List FormulaTree) (t : Option TermTree) (c : FormulaTree) → Carries lines k (supports_of ExistsE refs) → ArePremises lines labels answers k refs premises → HasForm ExistsE premises t c → IsRight lines labels answers k ExistsE refs premises t c → IsSupported lines labels answers k c
  exists_e_line refs [] t c carries given h right = absurd h
  exists_e_line refs (f ∷ []) t c carries given h right = absurd h
  exists_e_line refs (f ∷ g ∷ []) t c carries given h right = absurd h
  exists_e_line refs (f ∷ g ∷ x ∷ y ∷ fs) t c carries given h right = absurd h
  exists_e_line [] (f ∷ g ∷ x ∷ []) t c carries given h right = absurd given
  exists_e_line (i ∷ []) (f ∷ g ∷ x ∷ []) t c carries given h right = absurd given.1
  exists_e_line (i ∷ j ∷ []) (f ∷ g ∷ x ∷ []) t c carries given h right = absurd given.1.1
  exists_e_line (i ∷ j ∷ m ∷ n ∷ refs) (f ∷ g ∷ x ∷ []) t c carries given h right = absurd given.1.1.1
  exists_e_line (i ∷ j ∷ m ∷ []) (f ∷ g ∷ x ∷ []) (Some t) c carries given h right = absurd h
  exists_e_line (i ∷ j ∷ m ∷ []) (f ∷ g ∷ x ∷ []) None c carries given (y, e, s) right =
      exists_e_three i j m f g x c y e s carries right.fresh given.0 given.1.0 given.1.1.0

  or_e_five : (i n j o m : ℕ) (p a d b e c : FormulaTree) → p ≡ or a b → d ≡ c → e ≡ c → Carries lines k ((i, None) ∷ (j, Some n) ∷ (m, Some o) ∷ []) → IsPremise lines labels answers k i p → IsPremise lines labels answers k n a → IsPremise lines labels answers k j d → IsPremise lines labels answers k o b → IsPremise lines labels answers k m e → IsSupported lines labels answers k c
  or_e_five i n j o m p a d b e c ep ed ee carries (below, reads, (xs, w, rested)) (below1, reads1, support1) (below2, reads2, (ys, w2, rested2)) (below3, reads3, support3) (below4, reads4, (zs, w4, rested4)) =
      let first = takes_out a ys in
      let second = takes_out b zs in
      let left = rested_taken lines j n a reads1 first.1 rested2 in
      let right = rested_taken lines m o b reads3 second.1 rested4 in
      let parts : xs ++ (first.0 ++ second.0) ≡ xs ++ first.0 ++ second.0 = sym (append_assoc xs first.0 second.0) in (
        xs ++ first.0 ++ second.0,
        or_e (same_derived lines labels answers k xs p (or a b) ep w) (same_derived lines labels answers k ys d c ed w2) first.1 (same_derived lines labels answers k zs e c ee w4) second.1,
        subst (λ gs. AreRested lines k None gs) parts (rested_append lines k None xs (first.0 ++ second.0) (carries i None (at_first (i, None) ((j, Some n) ∷ (m, Some o) ∷ [])) below xs rested)
            (rested_append lines k None first.0 second.0 (carries j (Some n) (at_second (i, None) (j, Some n) ((m, Some o) ∷ [])) below2 first.0 left) (carries m (Some o) (at_third (i, None) (j, Some n) (m, Some o) []) below4 second.0 right))),
      )

  or_e_line : (refs : List ℕ) (premises : List FormulaTree) (t : Option TermTree) (c : FormulaTree) → Carries lines k (supports_of OrE refs) → ArePremises lines labels answers k refs premises → HasForm OrE premises t c → IsRight lines labels answers k OrE refs premises t c → IsSupported lines labels answers k c
  or_e_line refs [] t c carries given h right = absurd h
  or_e_line refs (p ∷ []) t c carries given h right = absurd h
  or_e_line refs (p ∷ a ∷ []) t c carries given h right = absurd h
  or_e_line refs (p ∷ a ∷ d ∷ []) t c carries given h right = absurd h
  or_e_line refs (p ∷ a ∷ d ∷ b ∷ []) t c carries given h right = absurd h
  or_e_line refs (p ∷ a ∷ d ∷ b ∷ e ∷ f ∷ fs) t c carries given h right = absurd h
  or_e_line [] (p ∷ a ∷ d ∷ b ∷ e ∷ []) t c carries given h right = absurd given
  or_e_line (i ∷ []) (p ∷ a ∷ d ∷ b ∷ e ∷ []) t c carries given h right = absurd given.1
  or_e_line (i ∷ n ∷ []) (p ∷ a ∷ d ∷ b ∷ e ∷ []) t c carries given h right = absurd given.1.1
  or_e_line (i ∷ n ∷ j ∷ []) (p ∷ a ∷ d ∷ b ∷ e ∷ []) t c carries given h right = absurd given.1.1.1
  or_e_line (i ∷ n ∷ j ∷ o ∷ []) (p ∷ a ∷ d ∷ b ∷ e ∷ []) t c carries given h right = absurd given.1.1.1.1
  or_e_line (i ∷ n ∷ j ∷ o ∷ m ∷ q ∷ refs) (p ∷ a ∷ d ∷ b ∷ e ∷ []) t c carries given h right = absurd given.1.1.1.1.1
  or_e_line (i ∷ n ∷ j ∷ o ∷ m ∷ []) (p ∷ a ∷ d ∷ b ∷ e ∷ []) (Some t) c carries given h right = absurd h
  or_e_line (i ∷ n ∷ j ∷ o ∷ m ∷ []) (p ∷ a ∷ d ∷ b ∷ e ∷ []) None c carries given (ep, ed, ee) right =
      or_e_five i n j o m p a d b e c ep ed ee carries given.0 given.1.0 given.1.1.0 given.1.1.1.0 given.1.1.1.1.0

  -- a line without the faults is derived, whatever its rule
  pub rule_supported : (r : Rule) (refs : List ℕ) (premises : List FormulaTree) (t : Option TermTree) (c : FormulaTree) → Carries lines k (supports_of r refs) → ArePremises lines labels answers k refs premises → HasForm r premises t c → IsRight lines labels answers k r refs premises t c → IsSupported lines labels answers k c
  rule_supported Label refs premises t c carries given h right = label_line refs premises t c carries given h right
  rule_supported Ask refs premises t c carries given h right = ask_line refs premises t c carries given h right
  rule_supported Hyp refs premises t c carries given h right = hyp_line refs premises t c carries given h right
  rule_supported TrueI refs premises t c carries given h right = true_i_line refs premises t c carries given h right
  rule_supported AndI refs premises t c carries given h right = and_i_line refs premises t c carries given h right
  rule_supported AndL refs premises t c carries given h right = and_l_line refs premises t c carries given h right
  rule_supported AndR refs premises t c carries given h right = and_r_line refs premises t c carries given h right
  rule_supported OrL refs premises t c carries given h right = or_l_line refs premises t c carries given h right
  rule_supported OrR refs premises t c carries given h right = or_r_line refs premises t c carries given h right
  rule_supported OrE refs premises t c carries given h right = or_e_line refs premises t c carries given h right
  rule_supported ImpI refs premises t c carries given h right = imp_i_line refs premises t c carries given h right
  rule_supported ImpE refs premises t c carries given h right = imp_e_line refs premises t c carries given h right
  rule_supported FalseE refs premises t c carries given h right = false_e_line refs premises t c carries given h right
  rule_supported ForallI refs premises t c carries given h right = forall_i_line refs premises t c carries given h right
  rule_supported ForallE refs premises t c carries given h right = forall_e_line refs premises t c carries given h right
  rule_supported ExistsI refs premises t c carries given h right = exists_i_line refs premises t c carries given h right
  rule_supported ExistsE refs premises t c carries given h right = exists_e_line refs premises t c carries given h right
  rule_supported EqRefl refs premises t c carries given h right = eq_refl_line refs premises t c carries given h right
  rule_supported EqSym refs premises t c carries given h right = eq_sym_line refs premises t c carries given h right
  rule_supported EqTrans refs premises t c carries given h right = eq_trans_line refs premises t c carries given h right
  rule_supported Arith refs premises t c carries given h right = arith_line refs premises t c carries given h right
  rule_supported LtTrans refs premises t c carries given h right = lt_trans_line refs premises t c carries given h right
  rule_supported SaysI refs premises t c carries given h right = says_i_line refs premises t c carries given h right
  rule_supported Deduce refs premises t c carries given h right = deduce_line refs premises t c carries given h right
  rule_supported SaysJoin refs premises t c carries given h right = says_join_line refs premises t c carries given h right
  rule_supported SfRefl refs premises t c carries given h right = sf_refl_line refs premises t c carries given h right
  rule_supported SfTrans refs premises t c carries given h right = sf_trans_line refs premises t c carries given h right
  rule_supported SfSub refs premises t c carries given h right = sf_sub_line refs premises t c carries given h right
  rule_supported SfE refs premises t c carries given h right = sf_e_line refs premises t c carries given h right
  rule_supported SfOnE refs premises t c carries given h right = sf_on_e_line refs premises t c carries given h right
  rule_supported SfWeak refs premises t c carries given h right = sf_weak_line refs premises t c carries given h right
  rule_supported Handoff refs premises t c carries given h right = handoff_line refs premises t c carries given h right
  rule_supported HandoffOn refs premises t c carries given h right = handoff_on_line refs premises t c carries given h right
