-- A derivation is one from more labels and more answers.
use Rattle.std.proofs.Common.{List}
use Rattle.nal_term.specs.Trees.{FormulaTree}
use Rattle.nal_rules.specs.Derivation.{Derivation, label, ask, hyp, true_i, and_i, and_l, and_r, or_l, or_r, or_e, imp_i, imp_e, false_e, forall_i, forall_e, exists_i, exists_e, eq_refl, eq_sym, eq_trans, arith, lt_trans, lt_le_trans, says_i, deduce, says_join, sf_refl, sf_trans, sf_sub, sf_e, sf_on_e, sf_weak, handoff, handoff_on}
use Rattle.nal_rules.specs.Laws.{IsPartOf}

pub weakened : {labels more_labels answers more_answers xs : List FormulaTree} {f : FormulaTree} → IsPartOf labels more_labels → IsPartOf answers more_answers
    → Derivation labels answers xs f → Derivation more_labels more_answers xs f
weakened l a (label h c) = label (l _ h) c
weakened l a (ask h c) = ask (a _ h) c
weakened l a hyp = hyp
weakened l a true_i = true_i
weakened l a (and_i d e) = and_i (weakened l a d) (weakened l a e)
weakened l a (and_l d) = and_l (weakened l a d)
weakened l a (and_r d) = and_r (weakened l a d)
weakened l a (or_l d) = or_l (weakened l a d)
weakened l a (or_r d) = or_r (weakened l a d)
weakened l a (or_e d e s h t) = or_e (weakened l a d) (weakened l a e) s (weakened l a h) t
weakened l a (imp_i d t) = imp_i (weakened l a d) t
weakened l a (imp_e d e) = imp_e (weakened l a d) (weakened l a e)
weakened l a (false_e d) = false_e (weakened l a d)
weakened l a (forall_i d n) = forall_i (weakened l a d) n
weakened l a (forall_e t d s) = forall_e t (weakened l a d) s
weakened l a (exists_i t d s) = exists_i t (weakened l a d) s
weakened l a (exists_e d e t n m) = exists_e (weakened l a d) (weakened l a e) t n m
weakened l a eq_refl = eq_refl
weakened l a (eq_sym d) = eq_sym (weakened l a d)
weakened l a (eq_trans d e) = eq_trans (weakened l a d) (weakened l a e)
weakened l a (arith h) = arith h
weakened l a (lt_trans d e) = lt_trans (weakened l a d) (weakened l a e)
weakened l a (lt_le_trans d e) = lt_le_trans (weakened l a d) (weakened l a e)
weakened l a (says_i d) = says_i (weakened l a d)
weakened l a (deduce d e) = deduce (weakened l a d) (weakened l a e)
weakened l a (says_join d) = says_join (weakened l a d)
weakened l a sf_refl = sf_refl
weakened l a (sf_trans d e) = sf_trans (weakened l a d) (weakened l a e)
weakened l a sf_sub = sf_sub
weakened l a (sf_e d e) = sf_e (weakened l a d) (weakened l a e)
weakened l a (sf_on_e d e s) = sf_on_e (weakened l a d) (weakened l a e) s
weakened l a (sf_weak d) = sf_weak (weakened l a d)
weakened l a (handoff d) = handoff (weakened l a d)
weakened l a (handoff_on d) = handoff_on (weakened l a d)
