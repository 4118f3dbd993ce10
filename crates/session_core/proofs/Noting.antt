-- What is recorded of one request.
use Rattle.std.proofs.Common.{◌≡◌, ◌<◌, ℕ, List, [], ◌++◌, length, Bool, true, false, true≢false, option_map, Option, Some, None, refl, sym, ap, subst, ◌∙◌}
use Rattle.std.specs.Option.{IfSome}
use Rattle.nal_rules.specs.declared.verdicts.Verdict.{Verdict}
use Rattle.nal_rules.specs.declared.verdicts.Verdict.TheVariants.{Allowed as AllowedVerdict, Denied as DeniedVerdict}
use Rattle.nal_term.specs.Names.{IsName}
use Rattle.nx_io.specs.Streams.{SendsPart, one_more}
use Rattle.policy_history.specs.declared.heads.Head.{Head}
use Rattle.policy_history.specs.Events.{name_of}
use Rattle.policy_history.specs.declared.events.Entry.{Entry}
use Rattle.guard_core.specs.declared.findings.Finding.{Finding}
use Rattle.guard_core.specs.declared.findings.Finding.TheVariants.{Allowed as AllowedFinding, Denied as DeniedFinding}
use Rattle.guard_core.specs.Judging.{verdict_of}
use Rattle.verdict_words.specs.Values.{Identity}
use Rattle.session_core.specs.Answers.{found_reply}
use Rattle.session_core.specs.declared.board_session.Admitted.{Admitted}
use Rattle.session_core.specs.declared.board_session.BoardSession.{BoardSession}
use Rattle.policy_history.specs.PolicyTexts.{ended}
use Rattle.authority_ask.specs.Panels.{Told as Ask}
use Rattle.session_wire.specs.declared.requests.Request.{Request}
use Rattle.session_wire.specs.declared.requests.Request.TheVariants.{Call}
use Rattle.session_wire.specs.declared.replies.Reply.{Reply}
use Rattle.session_wire.specs.declared.replies.Reply.TheVariants.{Allowed, Denied, Refused, Down}
use Rattle.audit_check.specs.declared.records.Answers.TheVariants.{Known}
use Rattle.audit_check.specs.declared.records.Recorded.{Recorded}
use Rattle.audit_check.specs.declared.records.Recorded.TheVariants as recorded
use Rattle.audit_form.specs.RecordLines.{record_text}
use Rattle.audit_form.specs.ReplyRecords.{Records, record_of}
use Rattle.session_core.specs.Records.{IsCall, IsLineOf, IsNoted, IsNotRecorded, IsUntold, Kept, given_in}
use Rattle.session_core.specs.Records as records
use Rattle.session_core.specs.Calls.{verdict_reply}
use Rattle.session_core.specs.Inner.Boarding as boarding
use Rattle.session_core.specs.Inner.Boarding.{IsAdmitted, IsReady, IsWritten, head_of, who_of}

-- there is no record of the request
pub noted_none : {h : Head} {who : Option ℕ} {request : Request} {reply : Reply} {asks : List Ask} {kept : Kept} → (IsCall request → IsUntold reply) → IsNoted h who request reply asks kept kept
noted_none untold = records.untold untold refl

-- what a reply records is no record that could not be sent
recorded_not : (reply : Reply) (at : ℕ) (v : Recorded) → Records reply at v → ¬ IsNotRecorded reply
recorded_not (Refused n refusal) at v r is = absurd (cc (r.0, is))
recorded_not (Allowed n hit value) at v r is = absurd is
recorded_not (Denied n cause line fault) at v r is = absurd is
recorded_not (Down n line) at v r is = absurd is
recorded_not _ at v r is = absurd r

-- a verdict is recorded, whatever its step answers
pub verdict_records : (n hit value : ℕ) (verdict : Verdict) → Records (verdict_reply n hit value verdict) n (recorded.Told verdict)
verdict_records n hit value AllowedVerdict = (refl, refl)
verdict_records n hit value (DeniedVerdict cause) = (cause, refl, refl, refl)

-- a call whose record has this line
module _ (h : Head) (p : ℕ) (op object name : List ℕ) (arg at : ℕ) (v : Recorded) (given : List Bool) (asks : List Ask) (named : name ≡ name_of h.principals p) (gave : given ≡ given_in asks) where
  abbrev line : List ℕ
  line = ended (record_text name (record_of p op object at (Known given) v))

  line_of : IsName name × IsName op × IsName object → IsLineOf h (Some p) (Call op object arg) asks at v line
  line_of names = record {
    principal = p;
    op = op;
    object = object;
    arg = arg;
    who_is = refl;
    call = refl;
    named = (subst IsName named names.0, names.1, names.2);
    line_is = λ i. ended (record_text (named i) (record_of p op object at (Known (gave i)) v));
  }

  module _ {done : Bool} {kept kept_now : Kept} (whole : kept.broken ≡ false) (names : kept.wanted ≡ true → IsName name × IsName op × IsName object) where
    -- it was sent, or is not wanted
    pub noted_sent : (reply : Reply) → done ≡ true → Records reply at v → IsWritten line done kept kept_now → IsNoted h (Some p) (Call op object arg) reply asks kept kept_now
    noted_sent reply is records_it (boarding.not_wanted off sent same) = records.not_wanted off (λ un. recorded_not reply at v records_it un.1) same
    noted_sent reply is records_it (boarding.sent on sent now) = records.sent at v line on whole records_it (line_of (names on)) now
    noted_sent reply is records_it (boarding.cut_off on cut part now) = absurd (true≢false (sym is ∙ cut))

    -- it was cut off
    pub noted_cut : done ≡ false → IsWritten line done kept kept_now → IsNoted h (Some p) (Call op object arg) (Refused at 20) asks kept kept_now
    noted_cut is (boarding.not_wanted off sent same) = absurd (true≢false (sym sent ∙ is))
    noted_cut is (boarding.sent on sent now) = absurd (true≢false (sym sent ∙ is))
    noted_cut is (boarding.cut_off on cut part now) = records.cut_off at v line on whole refl (line_of (names on)) part now

-- the line went to the sink, whole or in part
module _ {kept : Kept} {sent sent_now : List ℕ} {faults faults_now : ℕ} {broken : Bool} {piece line : List ℕ} (kept_is : kept ≡ record { wanted = true; sent = sent; faults = faults; broken = broken }) (piece_is : piece ≡ line) where
  pub written_sent : sent_now ≡ sent ++ piece → faults_now ≡ faults → IsWritten line true kept (record { wanted = true; sent = sent_now; faults = faults_now; broken = broken })
  written_sent sends still =
      subst (λ (k : Kept). IsWritten line true k (record { wanted = true; sent = sent_now; faults = faults_now; broken = broken })) (sym kept_is)
      (boarding.sent refl refl (λ i. record { wanted = true; sent = (sends ∙ ap (λ (x : List ℕ). sent ++ x) piece_is) i; faults = still i; broken = broken }))

  pub written_cut : SendsPart sent sent_now piece → faults_now ≡ one_more faults → IsWritten line false kept (record { wanted = true; sent = sent_now; faults = faults_now; broken = true })
  written_cut part rose =
      subst (λ (k : Kept). IsWritten line false k (record { wanted = true; sent = sent_now; faults = faults_now; broken = true })) (sym kept_is)
      (boarding.cut_off refl refl (subst (λ (x : List ℕ). SendsPart sent sent_now x) piece_is part) (λ i. record { wanted = true; sent = sent_now; faults = rose i; broken = true }))

-- a call behind one whose record was cut off
pub noted_later : {h : Head} {who : Option ℕ} {op object : List ℕ} {arg at : ℕ} {asks : List Ask} {kept : Kept} → kept.wanted ≡ true → kept.broken ≡ true → asks ≡ []
    → IsNoted h who (Call op object arg) (Refused at 20) asks kept kept
noted_later on broken unasked = records.later on broken (tt, refl) unasked refl

-- a record that is due
pub due_verdict : (n hit value : ℕ) (verdict : Verdict) (told : Reply) → told ≡ verdict_reply n hit value verdict → Records told n (recorded.Told verdict)
due_verdict n hit value verdict told is = subst (λ (r : Reply). Records r n (recorded.Told verdict)) (sym is) (verdict_records n hit value verdict)

-- what is noted of a session is so of it behind its look
pub noted_here : (s m : BoardSession) (p : ℕ) {request : Request} {reply : Reply} {asks : List Ask} {kept kept_now : Kept} → who_of s ≡ Some p → m.pass.board ≡ s.pass.board
    → IsNoted (head_of m) (Some p) request reply asks kept kept_now → IsNoted (head_of s) (who_of s) request reply asks kept kept_now
noted_here s m p {request} {reply} {asks} {kept} {kept_now} who board_is noted =
    subst (λ (w : Option ℕ). IsNoted (head_of s) w request reply asks kept kept_now) (sym who)
    (subst (λ (b : Identity Entry Head). IsNoted b.origin.setting (Some p) request reply asks kept kept_now) board_is noted)

-- who is admitted in a session that can answer
pub admitted_here : (board : Identity Entry Head) (s : BoardSession) (p : ℕ) → IsReady board s → who_of s ≡ Some p → IsAdmitted (head_of s) p s.admitted
admitted_here board s p ready who = of s.admitted refl who ready.who
  where
    of : (o : Option Admitted) → s.admitted ≡ o → option_map (λ (a : Admitted). a.number) o ≡ Some p
        → IfSome o (λ (a : Admitted). (a.number < length board.origin.setting.principals) × (a.name ≡ name_of board.origin.setting.principals a.number)) → IsAdmitted (head_of s) p s.admitted
    of None is none named = absurd (cc none)
    of (Some a) is some named =
        let number : a.number ≡ p = cc some in
        record {
          admitted = a;
          is_who = is;
          number = number;
          name = named.1 ∙ ap (λ (b : Identity Entry Head). name_of b.origin.setting.principals a.number) (sym ready.board_is) ∙ ap (name_of (head_of s).principals) number;
        }

-- what the guard found is what is told, without the value of a step
pub found_is : (at : ℕ) (f : Finding) → found_reply at f ≡ verdict_reply at 0 0 (verdict_of f)
found_is at (AllowedFinding asks) = refl
found_is at (DeniedFinding cause) = refl

-- what is noted of a case that was taken, by the session before
pub noted_as : (s m : BoardSession) {p : ℕ} {op given object : List ℕ} {arg : ℕ} {reply : Reply} {asks : List Ask} {kept kept_now : Kept} → m.pass.board ≡ s.pass.board → given ≡ object
    → IsNoted (head_of m) (Some p) (Call op given arg) reply asks kept kept_now → IsNoted (head_of s) (Some p) (Call op object arg) reply asks kept kept_now
noted_as s m {p} {op} {given} {object} {arg} {reply} {asks} {kept} {kept_now} board_is same noted =
    subst (λ (x : List ℕ). IsNoted (head_of s) (Some p) (Call op x arg) reply asks kept kept_now) same
    (subst (λ (b : Identity Entry Head). IsNoted b.origin.setting (Some p) (Call op given arg) reply asks kept kept_now) board_is noted)

-- by who is admitted
module _ (h : Head) (p : ℕ) (op object : List ℕ) (arg at : ℕ) (v : Recorded) (given : List Bool) (asks : List Ask) {who : Option Admitted} (admitted : IsAdmitted h p who) (a : Admitted) (is : who ≡ Some a) (gave : given ≡ given_in asks) where
  named_so : a.name ≡ name_of h.principals p
  named_so = let same : a ≡ admitted.admitted = cc (is, admitted.is_who) in ap (λ (x : Admitted). x.name) same ∙ admitted.name

  module _ {done : Bool} {kept kept_now : Kept} (whole : kept.broken ≡ false) (names : kept.wanted ≡ true → IsName a.name × IsName op × IsName object) where
    pub noted_by_sent : done ≡ true → (reply : Reply) → Records reply at v → IsWritten (ended (record_text a.name (record_of p op object at (Known given) v))) done kept kept_now → IsNoted h (Some p) (Call op object arg) reply asks kept kept_now
    noted_by_sent sent reply records_it written = noted_sent h p op object a.name arg at v given asks named_so gave whole names reply sent records_it written

    pub noted_by_cut : done ≡ false → IsWritten (ended (record_text a.name (record_of p op object at (Known given) v))) done kept kept_now → IsNoted h (Some p) (Call op object arg) (Refused at 20) asks kept kept_now
    noted_by_cut cut written = noted_cut h p op object a.name arg at v given asks named_so gave whole names cut written
