-- What a request of a session alone records.
use Rattle.std.proofs.Common.{◌≡◌, ◌≤◌, ℕ, List, length, Option, Some, None, refl, sym, ap, subst, ◌∙◌, arith}
use Rattle.std.proofs.Math.Seq.{take-length}
use Rattle.object_table.specs.Objects.{number_of}
use Rattle.policy_history.specs.declared.heads.Head.{Head}
use Rattle.policy_history.specs.Events.{EntryTree}
use Rattle.policy_history.specs.Judged.{case_at}
use Rattle.policy_history.specs.Machine.{replay}
use Rattle.guard_core.specs.declared.findings.Finding.{Finding}
use Rattle.guard_core.specs.declared.findings.Finding.TheVariants.{Allowed as AllowedFinding, Denied as DeniedFinding}
use Rattle.guard_core.specs.Judging.{verdict_of}
use Rattle.session_wire.specs.declared.replies.Reply.{Reply}
use Rattle.session_wire.specs.declared.replies.Reply.TheVariants.{Down, NoMemory, Refused}
use Rattle.session_core.specs.Answers.{IsCalledOn, Outcome, found_reply}
use Rattle.session_core.specs.Answers as answers
use Rattle.session_core.specs.Calls.{state_at, verdict_reply}
use Rattle.authority_ask.specs.Panels.{Told as Ask}
use Rattle.audit_check.specs.declared.records.Recorded.{Recorded}
use Rattle.audit_form.specs.ReplyRecords.{Records}
use Rattle.session_core.proofs.ForCallers.{judged}
use Rattle.told_records.specs.ToldRecords.{AloneIsRight, IsRightCall}
use Rattle.told_records.proofs.Turns.{right_down, right_no_object, right_verdict, verdict_recorded}

-- the reply that a finding is, is that of its verdict
found_is : (n : ℕ) (finding : Finding) → found_reply n finding ≡ verdict_reply n 0 0 (verdict_of finding)
found_is n (AllowedFinding asks) = refl
found_is n (DeniedFinding cause) = refl

module _ (h : Head) (es : List EntryTree) (p : ℕ) (op object : List ℕ) (at : ℕ) (v : Recorded) (outcome : Outcome) (r : Records outcome.reply at v) where
  as_reply : (reply : Reply) → outcome.reply ≡ reply → Records reply at v
  as_reply reply e = subst (λ (x : Reply). Records x at v) e r

  whole : state_at h es (length es) ≡ replay h es
  whole = ap (replay h) (take-length es)

  here : length es ≤ length es
  here = omega arith

  on : (o : Option ℕ) → number_of (replay h es).objects object ≡ o → IsCalledOn h es p op o outcome → IsRightCall h es p op object outcome.asks at v
  on None none is =
      let m = as_reply (Refused (length es) 8) (ap (λ (x : Outcome). x.reply) is) in
      subst (λ (xs : List Ask). IsRightCall h es p op object xs at v) (sym (ap (λ (x : Outcome). x.asks) is)) (right_no_object h es p op object (length es) at v here (rw whole none) m.1 m.2)
  on (Some k) found (answers.found finding j is) =
      let m = verdict_recorded (length es) 0 0 (verdict_of finding) at v (as_reply (verdict_reply (length es) 0 0 (verdict_of finding)) (ap (λ (x : Outcome). x.reply) is ∙ found_is (length es) finding)) in
      right_verdict h es p op object outcome.asks (length es) k (verdict_of finding) at v here (rw whole found) (rw whole (judged (case_at h (replay h es) p op k) outcome.asks finding j)) m.0 m.1
  on (Some k) found (answers.down line broken is) =
      let m = as_reply (Down (length es) line) (ap (λ (x : Outcome). x.reply) is) in
      right_down h es p op object outcome.asks (length es) k line at v here (rw whole found) (rw whole broken) m.0 m.1

pub alone_is_right : AloneIsRight
alone_is_right h es session p op object arg at v outcome (answers.answered is) r = on h es p op object at v outcome r (number_of (replay h es).objects object) refl is
alone_is_right h es session p op object arg at v outcome (answers.given_up wants is) r = absurd (as_reply h es p op object at v outcome r NoMemory (ap (λ (x : Outcome). x.reply) is.1))
