-- What one request of a session records.
use Rattle.std.proofs.Common.{◌≡◌, ◌≤◌, ℕ, List, [], length, take, Bool, Some, None, refl, sym, ap, subst, ◌∙◌}
use Rattle.nal_rules.specs.Verdicts.{CaseTree, IsVerdict}
use Rattle.nal_rules.specs.declared.verdicts.Cause.{Cause}
use Rattle.nal_rules.specs.declared.verdicts.Verdict.{Verdict}
use Rattle.nal_rules.specs.declared.verdicts.Verdict.TheVariants.{Allowed as AllowedVerdict, Denied as DeniedVerdict}
use Rattle.object_table.specs.Objects.{number_of}
use Rattle.proof_store.specs.Cases.{CaseRow}
use Rattle.policy_history.specs.declared.heads.Head.{Head}
use Rattle.policy_history.specs.Events.{EntryTree}
use Rattle.policy_history.specs.Judged.{IsLasting, IsRight, case_at, case_of_row}
use Rattle.policy_history.proofs.ForCallers.{case_there}
use Rattle.authority_ask.specs.Panels.{Told as Ask}
use Rattle.guard_core.specs.Judging.{verdict_of}
use Rattle.session_wire.specs.declared.requests.Request.{Request}
use Rattle.session_wire.specs.declared.requests.Request.TheVariants.{Call}
use Rattle.session_wire.specs.declared.replies.Reply.{Reply}
use Rattle.session_wire.specs.declared.replies.Reply.TheVariants.{Refused, Down, NoMemory}
use Rattle.verdict_words.specs.declared.places.CasePlace.{CasePlace}
use Rattle.session_core.specs.Standing.{Standing}
use Rattle.session_core.specs.Calls.{Calls, IsPlaceIn, Judges, Turn, state_at, verdict_reply}
use Rattle.session_core.specs.Unanswered.{GivesUp}
use Rattle.session_core.specs.Calls as calling
use Rattle.session_core.specs.Unanswered as unanswered
use Rattle.session_core.specs.Told as told
use Rattle.audit_check.specs.declared.records.Recorded.{Recorded}
use Rattle.audit_check.specs.declared.records.Recorded.TheVariants as recorded
use Rattle.audit_check.specs.Records.{IsToldWith}
use Rattle.audit_form.specs.ReplyRecords.{Records}
use Rattle.session_core.specs.Records.{given_in}
use Rattle.session_core.proofs.ForCallers.{down_known, down_unknown, judged, told_known, told_unknown, unrecorded_reply}
use Rattle.told_records.specs.ToldRecords.{IsRightCall, RepliesAreRight}
use Rattle.told_records.proofs.Calls.{lasting}
use Rattle.told_records.proofs.Numbers.{one_cause}

-- the reply that a verdict is records it
pub verdict_recorded : (n hit value : ℕ) (verdict : Verdict) (at : ℕ) (v : Recorded) → Records (verdict_reply n hit value verdict) at v → (at ≡ n) × (v ≡ recorded.Told verdict)
verdict_recorded n hit value AllowedVerdict at v r = r
verdict_recorded n hit value (DeniedVerdict cause) at v (c, numbers, is, told) = (is, told ∙ ap (λ (d : Cause). recorded.Told (DeniedVerdict d)) (one_cause c cause numbers))

-- a call whose verdict is told with these answers
pub right_verdict : (h : Head) (es : List EntryTree) (p : ℕ) (op object : List ℕ) (asks : List Ask) (n k : ℕ) (verdict : Verdict) (at : ℕ) (v : Recorded)
    → n ≤ length es → number_of (state_at h es n).objects object ≡ Some k → IsToldWith (case_at h (state_at h es n) p op k) (given_in asks) verdict → at ≡ n → v ≡ recorded.Told verdict → IsRightCall h es p op object asks at v
right_verdict h es p op object asks n k verdict at v within found t at_is v_is =
    rw (at_is, v_is) (record {
      within = within;
      with_answers = rw found (told_known (case_at h (state_at h es n) p op k) (given_in asks) verdict t);
      without = rw found (told_unknown (case_at h (state_at h es n) p op k) (given_in asks) verdict t);
    })

pub right_no_object : (h : Head) (es : List EntryTree) (p : ℕ) (op object : List ℕ) (n at : ℕ) (v : Recorded)
    → n ≤ length es → number_of (state_at h es n).objects object ≡ None → at ≡ n → v ≡ recorded.NoObject → IsRightCall h es p op object [] at v
right_no_object h es p op object n at v within none at_is v_is = rw (at_is, v_is) (record { within = within; with_answers = rw none (refl, refl); without = rw none (refl, tt) })

pub right_down : (h : Head) (es : List EntryTree) (p : ℕ) (op object : List ℕ) (asks : List Ask) (n k line at : ℕ) (v : Recorded)
    → n ≤ length es → number_of (state_at h es n).objects object ≡ Some k → Rattle.guard_core.specs.Judging.IsBrokenOff (case_at h (state_at h es n) p op k) asks (Rattle.guard_core.specs.declared.findings.GuardError.TheVariants.Down line)
    → at ≡ n → v ≡ recorded.Down line → IsRightCall h es p op object asks at v
right_down h es p op object asks n k line at v within found broken at_is v_is =
    rw (at_is, v_is) (record {
      within = within;
      with_answers = rw found (down_known (case_at h (state_at h es n) p op k) asks line broken);
      without = rw found (down_unknown (case_at h (state_at h es n) p op k) asks line broken);
    })

row_same : {a b : CaseRow} → Some a ≡ Some b → a ≡ b
row_same e = cc

-- a verdict that was kept
kept_verdict : (h : Head) (es : List EntryTree) (p : ℕ) (op object : List ℕ) (n : ℕ) (place : CasePlace) (verdict : Verdict) → IsPlaceIn (state_at h es n) p op object place → IsRight h (take n es) place.case verdict
    → IsToldWith (case_at h (state_at h es n) p op place.object) [] verdict
kept_verdict h es p op object n place verdict at right =
    let there = case_there h (take n es) p op place.object place.case at.case_is in
    let same : right.row ≡ there.0 = row_same (sym right.stands ∙ there.1) in
    let subject : right.row.0 ≡ p = ap (λ (r : CaseRow). r.0) same ∙ there.2 in
    let ops : right.row.1 ≡ op = ap (λ (r : CaseRow). r.1) same ∙ there.3 in
    let objects : right.row.2 ≡ place.object = ap (λ (r : CaseRow). r.2) same ∙ there.4 in
    let st = state_at h es n in
    let case_is : case_of_row h st right.row ≡ case_at h st p op place.object =
    ap (λ (x : ℕ). case_at h st x right.row.1 right.row.2) subject ∙ ap (λ (x : List ℕ). case_at h st p x right.row.2) ops ∙ ap (λ (x : ℕ). case_at h st p op x) objects in
    lasting (case_at h st p op place.object) verdict (subst (λ (c : CaseTree). IsLasting c verdict) case_is right.lasting) (subst (λ (c : CaseTree). IsVerdict c [] verdict) case_is right.told)

module _ (h : Head) (es : List EntryTree) (before : Standing) (p : ℕ) (op object : List ℕ) (arg at : ℕ) (v : Recorded) (turn : Turn) (r : Records turn.reply at v) where
  as_reply : (reply : Reply) → turn.reply ≡ reply → Records reply at v
  as_reply reply e = subst (λ (x : Reply). Records x at v) e r

  judged_call : (n : ℕ) (looked : List Rattle.verdict_words.specs.declared.views.Item.Item) → n ≤ length es → Judges h (state_at h es n) before p op object arg n looked turn → IsRightCall h es p op object turn.asks at v
  judged_call n looked within (calling.no_object none is) =
      let m = as_reply (Refused n 8) (ap (λ (t : Turn). t.reply) is) in
      subst (λ (xs : List Ask). IsRightCall h es p op object xs at v) (sym (ap (λ (t : Turn). t.asks) is)) (right_no_object h es p op object n at v within none m.1 m.2)
  judged_call n looked within (calling.judged k value finding kept ran found j keeps runs is) =
      let m = verdict_recorded n 0 value (verdict_of finding) at v (as_reply (verdict_reply n 0 value (verdict_of finding)) (ap (λ (t : Turn). t.reply) is)) in
      right_verdict h es p op object turn.asks n k (verdict_of finding) at v within found (judged (case_at h (state_at h es n) p op k) turn.asks finding j) m.0 m.1
  judged_call n looked within (calling.down k line found broken is) =
      let m = as_reply (Down n line) (ap (λ (t : Turn). t.reply) is) in
      right_down h es p op object turn.asks n k line at v within found broken m.0 m.1

  called : Calls h es before p op object arg turn → IsRightCall h es p op object turn.asks at v
  called (calling.hit n place slot of_object of_store value held verdict ran looks makes stands right runs is) =
      let m = verdict_recorded n 1 value verdict at v (as_reply (verdict_reply n 1 value verdict) (ap (λ (t : Turn). t.reply) is)) in
      let none : turn.asks ≡ [] = ap (λ (t : Turn). t.asks) is in
      right_verdict h es p op object turn.asks n place.object verdict at v looks.seen.1 looks.place_is.object_is
      (subst (λ (bs : List Bool). IsToldWith (case_at h (state_at h es n) p op place.object) bs verdict) (sym (ap given_in none)) (kept_verdict h es p op object n place verdict looks.place_is right)) m.0 m.1
  called (calling.snapped low n looked misses seen judges) = judged_call n looked seen.1 judges

  no_reply : turn.reply ≡ NoMemory → ⊥
  no_reply e = as_reply NoMemory e

  given_up : GivesUp h es before p op object turn → ⊥
  given_up (unanswered.looked low steps misses is) = no_reply (ap (λ (t : Turn). t.reply) is)
  given_up (unanswered.met low n steps misses seen vain is) = no_reply (ap (λ (t : Turn). t.reply) is)

call_same : {op object op2 object2 : List ℕ} {arg arg2 : ℕ} → Call op object arg ≡ Call op2 object2 arg2 → (op ≡ op2) × (object ≡ object2)
call_same e = (cc, cc)

who_same : {p q : ℕ} → Some p ≡ Some q → p ≡ q
who_same e = cc

pub replies_are_right : RepliesAreRight
replies_are_right h es s before request turn (told.hello name secret greeting is greets same) = λ p op object arg at v who call r. absurd (cc (sym is ∙ call))
replies_are_right h es s before request turn (told.early nobody other same) = λ p op object arg at v who call r. absurd (cc (sym nobody ∙ who))
replies_are_right h es s before request turn (told.change q e is_who is changes) = λ p op object arg at v who call r. absurd (subst (λ (x : Request). Rattle.journal_text.specs.RequestEvents.IsEventOf x e) call is)
replies_are_right h es s before request turn (told.call q op2 object2 arg2 is_who is calls) = λ p op object arg at v who call r.
    let words = call_same (sym call ∙ is) in
    let same : q ≡ p = who_same (sym is_who ∙ who) in
    subst (λ (x : ℕ). IsRightCall h es x op object turn.asks at v) same
    (subst (λ (x : List ℕ). IsRightCall h es q x object turn.asks at v) (sym words.0)
    (subst (λ (x : List ℕ). IsRightCall h es q op2 x turn.asks at v) (sym words.1) (called h es before q op2 object2 arg2 at v turn r calls)))
replies_are_right h es s before request turn (told.given_up wants is) = λ p op object arg at v who call r. absurd (no_reply h es before p op object arg at v turn r (ap (λ (t : Turn). t.reply) is))
replies_are_right h es s before request turn (told.call_given_up q op2 object2 arg2 is_who is gives) = λ p op object arg at v who call r.
    absurd (given_up h es before q op2 object2 arg2 at v turn r gives)
replies_are_right h es s before request turn (told.call_unrecorded q op2 object2 arg2 is_who is goes) = λ p op object arg at v who call r.
    let refused = unrecorded_reply goes in
    let eight = (as_reply h es before q op2 object2 arg2 at v turn r (Refused refused.0 20) refused.1).0 in
    absurd (cc eight)
replies_are_right h es s before request turn (told.see q k is_who is sees) = λ p op object arg at v who call r. absurd (cc (sym is ∙ call))
