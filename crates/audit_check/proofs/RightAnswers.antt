-- The answers with which what was recorded is right: there is one list of them, and it is short.
use Rattle.std.proofs.Common.{◌≡◌, ◌<◌, ◌≤◌, ◌⊎◌, inl, inr, ℕ, zero, suc, List, [], ◌∷◌, ◌++◌, length, filter, take, Bool, true, false, Option, Some, sym, ap, ◌∙◌, arith}
use Rattle.std.specs.Prelude.{replicate, unwrap_or}
use Rattle.std.proofs.lemmas.Bool.{cases_lt}
use Rattle.std.proofs.lemmas.List.{length-replicate, length_push}
use Rattle.proof_lines.specs.Lines.{LineTree}
use Rattle.nal_rules.specs.Asking.{IsDecided, lines_of}
use Rattle.nal_rules.specs.Faults.{is_ask}
use Rattle.nal_rules.specs.Verdicts.{CaseTree}
use Rattle.nal_rules.specs.declared.verdicts.Cause.TheVariants.{GoalUnset, NoProof, Line, LabelMissing, NotBound, AuthorityNo}
use Rattle.nal_rules.specs.declared.verdicts.Verdict.TheVariants.{Allowed, Denied}
use Rattle.case_verdict.specs.OpenCases.{IsAskLine}
use Rattle.audit_check.specs.declared.records.Answers.TheVariants.{Known}
use Rattle.audit_check.specs.declared.records.Recorded.{Recorded}
use Rattle.audit_check.specs.declared.records.Recorded.TheVariants.{NoObject, Told, Down}
use Rattle.audit_check.specs.Records.{IsRightOf, yes_before}
use Rattle.audit_check.specs.Inner.Judging.{IsRightOpen}
use Rattle.audit_check.specs.Inner.RightAnswers.{answers_for}
use Rattle.audit_check.proofs.FewAsks.{few_asks, fewer_before}
use Rattle.audit_check.proofs.Settled.{allowed_by, lines_are, opened, refused_by, right_open, told_decided, told_none}
use Rattle.audit_check.proofs.Unknowns.{allowed_open, refused_open}

module _ (c : CaseTree) (given : List Bool) where
  -- of a case that is decided, what is right is so with no answer
  pub none_decided : (v : Recorded) → IsDecided c → IsRightOf c (Known given) v → given ≡ []
  none_decided NoObject d h = absurd h
  none_decided (Told verdict) d h = h.1 ∙ told_decided c h.0 verdict d h.2
  none_decided (Down k) d h = absurd (h.undecided d)

  -- the answers are told by the ask lines and by what was recorded
  answers_are : (v : Recorded) → IsRightOf c (Known given) v → given ≡ answers_for (lines_of c) v
  answers_are NoObject h = absurd h
  answers_are (Told Allowed) h =
      let o = opened c (allowed_open c h.0 h.2.told) in
      h.1 ∙ allowed_by c o.0 o.1 h.0 h.2 ∙ ap (λ (ls : List LineTree). replicate (length (filter is_ask ls)) true) (sym (lines_are c o.0 o.1))
  answers_are (Told (Denied (AuthorityNo k))) h =
      let o = opened c (refused_open c h.0 k h.2.told) in
      h.1 ∙ (refused_by c o.0 o.1 h.0 k h.2).1 ∙ ap (λ (ls : List LineTree). yes_before ls k ++ false ∷ []) (sym (lines_are c o.0 o.1))
  answers_are (Told (Denied GoalUnset)) h = h.1 ∙ told_none c h.0 GoalUnset (omega arith) h.2
  answers_are (Told (Denied NoProof)) h = h.1 ∙ told_none c h.0 NoProof (omega arith) h.2
  answers_are (Told (Denied (Line k fault))) h = h.1 ∙ told_none c h.0 (Line k fault) (omega arith) h.2
  answers_are (Told (Denied (LabelMissing k))) h = h.1 ∙ told_none c h.0 (LabelMissing k) (omega arith) h.2
  answers_are (Told (Denied (NotBound k))) h = h.1 ∙ told_none c h.0 (NotBound k) (omega arith) h.2
  answers_are (Down k) h = h.before

  pub answers_by : (ls : List LineTree) → c.proof ≡ Some ls → (v : Recorded) → IsRightOf c (Known given) v → given ≡ answers_for ls v
  answers_by ls e v h = answers_are v h ∙ ap (λ (p : Option (List LineTree)). answers_for (unwrap_or p []) v) e

pub one_answers : (c : CaseTree) (given others : List Bool) (v : Recorded) → IsRightOf c (Known given) v → IsRightOf c (Known others) v → given ≡ others
one_answers c given others v h i = answers_are c given v h ∙ sym (answers_are c others v i)

-- ---- how many they are

yes_few : (ls : List LineTree) (k : ℕ) → IsAskLine ls k → length (yes_before ls k) < length (filter is_ask ls)
yes_few ls zero a = absurd (cc a.1)
yes_few ls (suc i) a = let fewer = fewer_before ls i a in let long = length-replicate (length (filter is_ask (take i ls))) true in omega (arith, fewer, long)

few_open : (ls : List LineTree) (given : List Bool) (v : Recorded) → length (filter is_ask ls) ≤ 16 → IsRightOpen ls (Known given) v → length given ≤ 16
few_open ls given NoObject few h = absurd h
few_open ls given (Told Allowed) few h =
    let long = length-replicate (length (filter is_ask ls)) true in
    let same = ap length h in omega (arith, few, long, same)
few_open ls given (Told (Denied (AuthorityNo k))) few h =
    let fewer = yes_few ls k h.0 in
    let long = length_push (yes_before ls k) false in
    let same = ap length h.1 in omega (arith, few, fewer, long, same)
few_open ls given (Told (Denied GoalUnset)) few h = absurd h
few_open ls given (Told (Denied NoProof)) few h = absurd h
few_open ls given (Told (Denied (Line k fault))) few h = absurd h
few_open ls given (Told (Denied (LabelMissing k))) few h = absurd h
few_open ls given (Told (Denied (NotBound k))) few h = absurd h
few_open ls given (Down k) few h =
    let fewer = yes_few ls k h.0 in
    let same = ap length h.1 in omega (arith, few, fewer, same)

-- they are no more than `Given` holds: a case with more ask lines is decided, and then there are none
pub few_answers : (c : CaseTree) (given : List Bool) (v : Recorded) → IsRightOf c (Known given) v → length given ≤ 16
few_answers c given v h = of (cases_lt 16 (length given))
  where
    undecided : 16 < length given → IsDecided c → ⊥
    undecided more d = let none = ap length (none_decided c given v d h) in omega (arith, more, none)

    of : (16 < length given) ⊎ (length given ≤ 16) → length given ≤ 16
    of (inl more) = let o = opened c (undecided more) in few_open o.0 given v (few_asks c o.0 o.1) ((right_open c o.0 o.1 (Known given) v).0 h)
    of (inr few) = few
