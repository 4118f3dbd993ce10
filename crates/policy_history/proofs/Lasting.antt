-- A verdict that lasts stays, where goal and proof stay and no label is lost.
use Rattle.std.proofs.Common.{◌≡◌, ◌<◌, ℕ, zero, suc, Bool, true, false, List, [], ◌∷◌, filter, Option, Some, unwrap_or, refl, sym, ap, ◌∙◌, arith}
use Rattle.std.specs.List.{Contains, slice_get}
use Rattle.nal_term.specs.Trees.{FormulaTree}
use Rattle.proof_lines.specs.declared.rules.Rule.TheVariants.{Ask}
use Rattle.proof_lines.specs.Lines.{LineTree}
use Rattle.nal_rules.proofs.ForCallers.{none_at_all}
use Rattle.nal_rules.specs.Faults.{is_ask, line_at}
use Rattle.nal_rules.specs.Asking.{lines_of}
use Rattle.nal_rules.specs.Verdicts.{CaseTree, HasCause, IsMissingLabel, IsVerdict, cause_number}
use Rattle.nal_rules.specs.declared.verdicts.Cause.{Cause}
use Rattle.nal_rules.specs.declared.verdicts.Cause.TheVariants.{GoalUnset, NoProof, Line, LabelMissing, NotBound, AuthorityNo}
use Rattle.nal_rules.specs.declared.verdicts.Verdict.{Verdict}
use Rattle.nal_rules.specs.declared.verdicts.Verdict.TheVariants.{Allowed, Denied}
use Rattle.policy_history.specs.Judged.{IsLasting}

-- a proof of which no line asks has no ask line
no_ask : (ls : List LineTree) → filter is_ask ls ≡ [] → (i : ℕ) (l : LineTree) → slice_get ls i ≡ Some l → l.rule ≡ Ask → ⊥
no_ask [] none i l at asks = absurd (cc at)
no_ask (x ∷ ls) none i l at asks = of (is_ask x) refl i at (λ rest j read. no_ask ls rest j l read asks)
  where
    asking : (l : LineTree) → l.rule ≡ Ask → is_ask l ≡ true
    asking l r = rw r refl

    of : (b : Bool) → is_ask x ≡ b → (i : ℕ) → slice_get (x ∷ ls) i ≡ Some l → (filter is_ask ls ≡ [] → (j : ℕ) → slice_get ls j ≡ Some l → ⊥) → ⊥
    of true e i at later = absurd (cc (rw e at none))
    of false e zero at later = let same : x ≡ l = cc at in absurd (cc (e, ap is_ask same, asking l asks))
    of false e (suc j) at later = later (rw e at none) j at

no_ask_at : (ls : List LineTree) → filter is_ask ls ≡ [] → (k : ℕ) (l : LineTree) → line_at ls k ≡ Some l → l.rule ≡ Ask → ⊥
no_ask_at ls none zero l at asks = absurd (cc at)
no_ask_at ls none (suc k) l at asks = no_ask ls none k l at asks

-- the causes that rest on goal and proof alone
carry : (c d : CaseTree) → c.goal ≡ d.goal → c.proof ≡ d.proof → (cause : Cause) → cause_number cause < 4 → HasCause c [] cause → HasCause d [] cause
carry c d goal proof GoalUnset low h = sym goal ∙ h
carry c d goal proof NoProof low h = λ ls is. h ls (proof ∙ is)
carry c d goal proof (Line k fault) low (ls, g, is, g_is, lowest) = (ls, g, sym proof ∙ is, sym goal ∙ g_is, lowest)
carry c d goal proof (LabelMissing k) low h = absurd (omega (arith, low))
carry c d goal proof (NotBound k) low h = absurd (omega (arith, low))
carry c d goal proof (AuthorityNo k) low h = absurd (omega (arith, low))

module _ (c d : CaseTree) (goal : c.goal ≡ d.goal) (proof : c.proof ≡ d.proof) where
  -- a denial that rests on goal and proof alone
  denied_kept : (cause : Cause) → cause_number cause < 4 → IsVerdict c [] (Denied cause) → IsVerdict d [] (Denied cause)
  denied_kept cause low (has, first) = (
    carry c d goal proof cause low has,
    λ other lower h. first other lower (carry d c (sym goal) (sym proof) other (omega (arith, low, lower)) h),
  )

  lines_same : lines_of c ≡ lines_of d
  lines_same = ap (λ (p : Option (List LineTree)). unwrap_or p []) proof

  allowed_kept : ((f : FormulaTree) → Contains c.labels f → Contains d.labels f) → filter is_ask (lines_of d) ≡ [] → IsVerdict c [] Allowed → IsVerdict d [] Allowed
  allowed_kept more none told GoalUnset h = told GoalUnset (carry d c (sym goal) (sym proof) GoalUnset (omega arith) h)
  allowed_kept more none told NoProof h = told NoProof (carry d c (sym goal) (sym proof) NoProof (omega arith) h)
  allowed_kept more none told (Line k fault) h = told (Line k fault) (carry d c (sym goal) (sym proof) (Line k fault) (omega arith) h)
  allowed_kept more none told (LabelMissing k) (ls, is, ((l, at, rule, missing), lowest)) =
      none_at_all (IsMissingLabel ls c.labels) (λ j low. told (LabelMissing j) (ls, proof ∙ is, low)) k (l, at, rule, λ there. missing (more l.formula there))
  allowed_kept more none told (NotBound k) (ls, is, ((p, s, (l, at, rule, said), unbound), lowest)) =
      no_ask_at ls (rw is at none) k l at rule
  allowed_kept more none told (AuthorityNo k) (ls, is, ((l, at, rule, unanswered), lowest)) =
      no_ask_at ls (rw is at none) k l at rule

  -- what lasts is kept
  pub lasting_kept : ((f : FormulaTree) → Contains c.labels f → Contains d.labels f) → (verdict : Verdict) → IsLasting c verdict → IsVerdict c [] verdict → IsLasting d verdict × IsVerdict d [] verdict
  lasting_kept more Allowed lasting told = let none = rw lines_same at lasting in (none, allowed_kept more none told)
  lasting_kept more (Denied GoalUnset) lasting told = (tt, denied_kept GoalUnset (omega arith) told)
  lasting_kept more (Denied NoProof) lasting told = (tt, denied_kept NoProof (omega arith) told)
  lasting_kept more (Denied (Line k fault)) lasting told = (tt, denied_kept (Line k fault) (omega arith) told)
  lasting_kept more (Denied (LabelMissing k)) lasting told = absurd lasting
  lasting_kept more (Denied (NotBound k)) lasting told = absurd lasting
  lasting_kept more (Denied (AuthorityNo k)) lasting told = absurd lasting

-- the causes that rest on no answer
unasked : (c : CaseTree) (answers : List Bool) (cause : Cause) → cause_number cause < 6 → HasCause c [] cause → HasCause c answers cause
unasked c answers GoalUnset low h = h
unasked c answers NoProof low h = h
unasked c answers (Line k fault) low h = h
unasked c answers (LabelMissing k) low h = h
unasked c answers (NotBound k) low h = h
unasked c answers (AuthorityNo k) low h = absurd (omega (arith, low))

-- a verdict that lasts rests on no answer
module _ (c : CaseTree) (answers : List Bool) where
  allowed_alone : filter is_ask (lines_of c) ≡ [] → IsVerdict c answers Allowed → IsVerdict c [] Allowed
  allowed_alone none told GoalUnset h = told GoalUnset h
  allowed_alone none told NoProof h = told NoProof h
  allowed_alone none told (Line k fault) h = told (Line k fault) h
  allowed_alone none told (LabelMissing k) h = told (LabelMissing k) h
  allowed_alone none told (NotBound k) h = told (NotBound k) h
  allowed_alone none told (AuthorityNo k) (ls, is, ((l, at, rule, unanswered), lowest)) = no_ask_at ls (rw is at none) k l at rule

  pub lasting_alone : (verdict : Verdict) → IsLasting c verdict → IsVerdict c answers verdict → IsVerdict c [] verdict
  lasting_alone Allowed lasting told = allowed_alone lasting told
  lasting_alone (Denied GoalUnset) lasting (has, first) = (has, λ other lower h. first other lower (unasked c answers other (omega (arith, lower)) h))
  lasting_alone (Denied NoProof) lasting (has, first) = (has, λ other lower h. first other lower (unasked c answers other (omega (arith, lower)) h))
  lasting_alone (Denied (Line k fault)) lasting (has, first) = (has, λ other lower h. first other lower (unasked c answers other (omega (arith, lower)) h))
  lasting_alone (Denied (LabelMissing k)) lasting told = absurd lasting
  lasting_alone (Denied (NotBound k)) lasting told = absurd lasting
  lasting_alone (Denied (AuthorityNo k)) lasting told = absurd lasting
