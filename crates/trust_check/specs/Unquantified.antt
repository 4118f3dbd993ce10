-- Derivations that use none of the four rules of quantifiers.
use Rattle.std.specs.Prelude.{List, []}
use Rattle.nal_term.specs.Trees.{FormulaTree}
use Rattle.nal_rules.specs.Derivation.{Derivation, label, ask, hyp, true_i, and_i, and_l, and_r, or_l, or_r, or_e, imp_i, imp_e, false_e, forall_i, forall_e, exists_i, exists_e, eq_refl, eq_sym, eq_trans, arith, lt_trans, lt_le_trans, says_i, deduce, says_join, sf_refl, sf_trans, sf_sub, sf_e, sf_on_e, sf_weak, handoff, handoff_on}

-- no node of the derivation is an instance of `forall_i`, `forall_e`, `exists_i` or `exists_e`
abbrev pub IsUnquantified : {labels answers open_list : List FormulaTree} {f : FormulaTree} → Derivation labels answers open_list f → Type 0
IsUnquantified (label h c) = Unit {0}
IsUnquantified (ask h c) = Unit {0}
IsUnquantified hyp = Unit {0}
IsUnquantified true_i = Unit {0}
IsUnquantified (and_i d e) = IsUnquantified d × IsUnquantified e
IsUnquantified (and_l d) = IsUnquantified d
IsUnquantified (and_r d) = IsUnquantified d
IsUnquantified (or_l d) = IsUnquantified d
IsUnquantified (or_r d) = IsUnquantified d
IsUnquantified (or_e d e s h t) = IsUnquantified d × IsUnquantified e × IsUnquantified h
IsUnquantified (imp_i d t) = IsUnquantified d
IsUnquantified (imp_e d e) = IsUnquantified d × IsUnquantified e
IsUnquantified (false_e d) = IsUnquantified d
IsUnquantified (forall_i d n) = ⊥
IsUnquantified (forall_e t d s) = ⊥
IsUnquantified (exists_i t d s) = ⊥
IsUnquantified (exists_e d e t n m) = ⊥
IsUnquantified eq_refl = Unit {0}
IsUnquantified (eq_sym d) = IsUnquantified d
IsUnquantified (eq_trans d e) = IsUnquantified d × IsUnquantified e
IsUnquantified (arith h) = Unit {0}
IsUnquantified (lt_trans d e) = IsUnquantified d × IsUnquantified e
IsUnquantified (lt_le_trans d e) = IsUnquantified d × IsUnquantified e
IsUnquantified (says_i d) = IsUnquantified d
IsUnquantified (deduce d e) = IsUnquantified d × IsUnquantified e
IsUnquantified (says_join d) = IsUnquantified d
IsUnquantified sf_refl = Unit {0}
IsUnquantified (sf_trans d e) = IsUnquantified d × IsUnquantified e
IsUnquantified sf_sub = Unit {0}
IsUnquantified (sf_e d e) = IsUnquantified d × IsUnquantified e
IsUnquantified (sf_on_e d e s) = IsUnquantified d × IsUnquantified e
IsUnquantified (sf_weak d) = IsUnquantified d
IsUnquantified (handoff d) = IsUnquantified d
IsUnquantified (handoff_on d) = IsUnquantified d

-- the formula follows from labels and answers by the other rules
abbrev pub DerivesUnquantified : List FormulaTree → List FormulaTree → FormulaTree → Type 0
DerivesUnquantified labels answers f = (d : Derivation labels answers [] f) × IsUnquantified d
