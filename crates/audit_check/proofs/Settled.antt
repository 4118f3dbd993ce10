-- Which verdicts a case is told with which answers.
use Rattle.std.proofs.Common.{◌≡◌, ◌<◌, ℕ, zero, suc, List, [], ◌∷◌, ◌++◌, length, filter, Bool, true, false, Option, Some, None, refl, sym, ap, subst, ◌∙◌, arith}
use Rattle.std.specs.Prelude.{◌↔◌, replicate, unwrap_or}
use Rattle.std.proofs.lemmas.List.{nil_from_length}
use Rattle.proof_lines.specs.Lines.{LineTree}
use Rattle.nal_rules.proofs.ForCallers.{none_at_all, one_verdict}
use Rattle.nal_rules.specs.Asking.{Asked, IsAsked, IsDecided, asks_for, lines_of}
use Rattle.nal_rules.specs.Faults.{is_ask}
use Rattle.nal_rules.specs.Verdicts.{CaseTree, HasCause, IsAnsweredNo, IsLowest, IsVerdict, cause_number}
use Rattle.nal_rules.specs.declared.verdicts.Cause.{Cause}
use Rattle.nal_rules.specs.declared.verdicts.Cause.TheVariants.{GoalUnset, NoProof, Line, LabelMissing, NotBound, AuthorityNo}
use Rattle.nal_rules.specs.declared.verdicts.Verdict.{Verdict}
use Rattle.nal_rules.specs.declared.verdicts.Verdict.TheVariants.{Allowed, Denied}
use Rattle.case_verdict.specs.OpenCases.{IsAskLine, IsDeniedBy, IsOpen}
use Rattle.case_verdict.proofs.ForCallers.{affirmed, refused, unaffected}
use Rattle.audit_check.specs.declared.records.Answers.{Answers}
use Rattle.audit_check.specs.declared.records.Recorded.{Recorded}
use Rattle.audit_check.specs.declared.records.Recorded.TheVariants.{NoObject, Told, Down}
use Rattle.audit_check.specs.Records.{IsRightOf, IsToldWith, MayBe, yes_before}
use Rattle.audit_check.specs.Inner.Judging.{IsRightOpen}
use Rattle.audit_check.proofs.AskLines.{AllSay, all_yes_of, asked_all, asked_refused, first_refused, none_after_yes, refused_of}
use Rattle.audit_check.proofs.Opened.{all_say}

some_same : {A : Type 0} {p q : A} → Some p ≡ Some q → p ≡ q
some_same s = cc

told_same : {v w : Verdict} → Told v ≡ Told w → v ≡ w
told_same e = cc

-- ---- a case that is decided

pub decided_by : (c : CaseTree) (cause : Cause) → IsDeniedBy c cause → IsDecided c
decided_by c cause d = (cause, d.decides, (d.verdict []).0)

-- a case without a proof is
pub without_proof : (c : CaseTree) → c.proof ≡ None → IsDecided c
without_proof c e = (NoProof, omega arith, λ ls is. absurd (cc (is, e)))

pub told_decided : (c : CaseTree) (answers : List Bool) (verdict : Verdict) → IsDecided c → IsToldWith c answers verdict → answers ≡ []
told_decided c answers verdict d t = nil_from_length answers (sym t.all ∙ ap length (t.asked.0 d))

-- a denial by a cause that no answer changes
pub told_none : (c : CaseTree) (answers : List Bool) (cause : Cause) → cause_number cause < 6 → IsToldWith c answers (Denied cause) → answers ≡ []
told_none c answers cause low t = told_decided c answers (Denied cause) (cause, low, unaffected c answers [] cause low t.told.0) t

pub tells_decided : (c : CaseTree) (verdict : Verdict) → IsDecided c → IsVerdict c [] verdict → IsToldWith c [] verdict
tells_decided c verdict d v = record { asks = []; asked = ((λ _. refl), λ undecided. absurd (undecided d)); all = refl; told = v }

-- ---- a case that is open

-- a case that is not decided has a proof
opened_by : (c : CaseTree) (p : Option (List LineTree)) → c.proof ≡ p → (IsDecided c → ⊥) → (ls : List LineTree) × IsOpen c ls
opened_by c None e undecided = absurd (undecided (without_proof c e))
opened_by c (Some ls) e undecided = (ls, record { proof_is = e; undecided = undecided })

pub opened : (c : CaseTree) → (IsDecided c → ⊥) → (ls : List LineTree) × IsOpen c ls
opened c undecided = opened_by c c.proof refl undecided

module _ (c : CaseTree) (ls : List LineTree) (o : IsOpen c ls) where
  pub lines_are : lines_of c ≡ ls
  lines_are = ap (λ (p : Option (List LineTree)). unwrap_or p []) o.proof_is

  say : AllSay ls
  say = subst AllSay lines_are (all_say c o.undecided)

  asked_are : (answers : List Bool) (asks : List Asked) → IsAsked c answers asks → asks ≡ asks_for c.bound (filter is_ask ls) answers
  asked_are answers asks a = subst (λ (xs : List LineTree). asks ≡ asks_for c.bound (filter is_ask xs) answers) lines_are (a.1 o.undecided)

  asks_of : (answers : List Bool) → IsAsked c answers (asks_for c.bound (filter is_ask ls) answers)
  asks_of answers = ((λ d. absurd (o.undecided d)), λ _. subst (λ (xs : List LineTree). asks_for c.bound (filter is_ask ls) answers ≡ asks_for c.bound (filter is_ask xs) answers) (sym lines_are) refl)

  count_is : (answers : List Bool) (verdict : Verdict) → IsToldWith c answers verdict → length (asks_for c.bound (filter is_ask ls) answers) ≡ length answers
  count_is answers verdict t = ap length (sym (asked_are answers t.asks t.asked)) ∙ t.all

  pub allowed_by : (answers : List Bool) → IsToldWith c answers Allowed → answers ≡ replicate (length (filter is_ask ls)) true
  allowed_by answers t =
      all_yes_of c.bound ls answers say (none_at_all (IsAnsweredNo ls answers) (λ k lowest. t.told (AuthorityNo k) (ls, o.proof_is, lowest))) (count_is answers Allowed t)

  pub allows : IsToldWith c (replicate (length (filter is_ask ls)) true) Allowed
  allows =
      let yes : List Bool = replicate (length (filter is_ask ls)) true in
      record { asks = asks_for c.bound (filter is_ask ls) yes; asked = asks_of yes; all = asked_all c.bound ls say; told = affirmed c ls yes o (none_after_yes c.bound ls) }

  pub lowest_in : (answers : List Bool) (k : ℕ) → HasCause c answers (AuthorityNo k) → IsLowest (IsAnsweredNo ls answers) k
  lowest_in answers k has = let same : has.0 ≡ ls = some_same (sym has.1 ∙ o.proof_is) in subst (λ (xs : List LineTree). IsLowest (IsAnsweredNo xs answers) k) same has.2

  pub refused_by : (answers : List Bool) (k : ℕ) → IsToldWith c answers (Denied (AuthorityNo k)) → IsAskLine ls k × (answers ≡ yes_before ls k ++ false ∷ [])
  refused_by answers zero t = let low = lowest_in answers zero t.told.0 in absurd (cc low.0.1)
  refused_by answers (suc i) t =
      let low = lowest_in answers (suc i) t.told.0 in
      ((low.0.0, low.0.1, low.0.2), refused_of c.bound ls i answers say low (count_is answers (Denied (AuthorityNo (suc i))) t))

  pub refuses : (k : ℕ) → IsAskLine ls k → IsToldWith c (yes_before ls k ++ false ∷ []) (Denied (AuthorityNo k))
  refuses zero a = absurd (cc a.1)
  refuses (suc i) a =
      let answers : List Bool = yes_before ls (suc i) ++ false ∷ [] in
      record { asks = asks_for c.bound (filter is_ask ls) answers; asked = asks_of answers; all = asked_refused c.bound ls i say a; told = refused c ls answers (suc i) o (first_refused c.bound ls i a) }

  never_else : (answers : List Bool) (cause : Cause) → cause_number cause < 6 → ¬ IsToldWith c answers (Denied cause)
  never_else answers cause low t = o.undecided (cause, low, unaffected c answers [] cause low t.told.0)

  -- what is right of it is so by its ask lines alone
  pub right_open : (given : Answers) (v : Recorded) → IsRightOf c given v ↔ IsRightOpen ls given v
  right_open given NoObject = ((λ h. h), λ h. h)
  right_open given (Told Allowed) =
      ((λ h. subst (MayBe given) (allowed_by h.0 h.2) h.1), λ m. (replicate (length (filter is_ask ls)) true, m, allows))
  right_open given (Told (Denied (AuthorityNo k))) = (
    (λ h. let r = refused_by h.0 k h.2 in (r.0, subst (MayBe given) r.1 h.1)),
    λ m. (yes_before ls k ++ false ∷ [], m.1, refuses k m.0),
  )
  right_open given (Told (Denied GoalUnset)) = ((λ h. never_else h.0 GoalUnset (omega arith) h.2), λ m. absurd m)
  right_open given (Told (Denied NoProof)) = ((λ h. never_else h.0 NoProof (omega arith) h.2), λ m. absurd m)
  right_open given (Told (Denied (Line k fault))) = ((λ h. never_else h.0 (Line k fault) (omega arith) h.2), λ m. absurd m)
  right_open given (Told (Denied (LabelMissing k))) = ((λ h. never_else h.0 (LabelMissing k) (omega arith) h.2), λ m. absurd m)
  right_open given (Told (Denied (NotBound k))) = ((λ h. never_else h.0 (NotBound k) (omega arith) h.2), λ m. absurd m)
  right_open given (Down k) = (
    (λ h. (subst (λ (xs : List LineTree). IsAskLine xs k) lines_are h.ask_line, subst (λ (xs : List LineTree). MayBe given (yes_before xs k)) lines_are h.before)),
    λ m. record {
      undecided = o.undecided;
      ask_line = subst (λ (xs : List LineTree). IsAskLine xs k) (sym lines_are) m.0;
      before = subst (λ (xs : List LineTree). MayBe given (yes_before xs k)) (sym lines_are) m.1;
    },
  )

-- of a case that is decided the denial alone is right, and no answer
pub right_decided : (c : CaseTree) (cause : Cause) → IsDeniedBy c cause → (given : Answers) (v : Recorded) → IsRightOf c given v ↔ ((v ≡ Told (Denied cause)) × MayBe given [])
right_decided c cause d given NoObject = ((λ h. absurd h), λ m. absurd (cc m.0))
right_decided c cause d given (Down k) = ((λ h. absurd (h.undecided (decided_by c cause d))), λ m. absurd (cc m.0))
right_decided c cause d given (Told verdict) = (
  (λ h. (ap Told (one_verdict c h.0 verdict (Denied cause) h.2.told (d.verdict h.0)), subst (MayBe given) (told_decided c h.0 verdict (decided_by c cause d) h.2) h.1)),
  λ m.
      let same : verdict ≡ Denied cause = told_same m.0 in
      ([], m.1, subst (IsToldWith c []) (sym same) (tells_decided c (Denied cause) (decided_by c cause d) (d.verdict []))),
)
