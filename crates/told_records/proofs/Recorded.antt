-- What a session had recorded: whole lines of right records, and at most one that is cut off; and no reply that has a record goes without.
use Rattle.std.proofs.Common.{◌≡◌, ◌<◌, ◌+◌, ◌-◌, ◌^◌, min, ℕ, List, [], ◌∷◌, ◌++◌, Bool, true, false, length, take, refl, sym, ap, subst, ◌∙◌, ◌⊎◌, inl, inr, append_assoc}
use Rattle.std.specs.List.{flat_map}
use Rattle.std.proofs.lemmas.Grind.{flat_map-append}
use Rattle.std.proofs.lemmas.List.{append-nil}
use Rattle.std.proofs.lemmas.List.Elements.{All-append, All-cons, All-nil}
use Rattle.nal_rules.specs.declared.verdicts.Cause.{Cause}
use Rattle.nal_rules.specs.declared.verdicts.Verdict.TheVariants as verdict
use Rattle.proof_text.specs.Laws.{IsOneLine}
use Rattle.policy_history.specs.declared.heads.Head.{Head}
use Rattle.policy_history.specs.Events.{EntryTree, name_of}
use Rattle.policy_history.specs.PolicyTexts.{ended}
use Rattle.authority_ask.specs.Panels.{Told as Ask}
use Rattle.session_wire.specs.declared.requests.Request.{Request}
use Rattle.session_wire.specs.declared.replies.Reply.{Reply}
use Rattle.session_wire.specs.declared.replies.Reply.TheVariants.{Allowed, Denied, Refused, Down}
use Rattle.journal_text.specs.CutLaws.{IsWritten}
use Rattle.verdict_words.specs.declared.views.Item.{Item}
use Rattle.audit_check.specs.declared.records.Answers.TheVariants.{Known}
use Rattle.audit_check.specs.declared.records.Record.{Record}
use Rattle.audit_check.specs.declared.records.Recorded.{Recorded}
use Rattle.audit_check.specs.declared.records.Recorded.TheVariants as recorded
use Rattle.audit_form.specs.AuditLaws.{IsRightLine}
use Rattle.audit_form.specs.RecordLines.{record_text}
use Rattle.audit_form.specs.ReplyRecords.{Records, record_of}
use Rattle.session_core.specs.Records.{AreNoted, IsLineOf, IsNotRecorded, IsNoted, IsUntold, Kept, given_in}
use Rattle.session_core.specs.Records as records
use Rattle.session_core.specs.Standing.{Standing, beginning}
use Rattle.session_core.specs.Calls.{Turn}
use Rattle.session_core.specs.Told.{Leads}
use Rattle.told_records.specs.Recordings.{AreRightLines, NoneIsLeftOut, OneBehindTheOther, RecordedIsRight}
use Rattle.told_records.specs.ToldRecords.{IsRightTurn}
use Rattle.told_records.proofs.Numbers.{one_cause}
use Rattle.told_records.proofs.OneLines.{part_line, record_line}
use Rattle.told_records.proofs.RightLines.{right_line}
use Rattle.told_records.proofs.Turns.{replies_are_right}

-- ---- One behind the other

module _ (h : Head) (es : List EntryTree) where
  -- nothing was sent
  pub nothing : {kept kept_now : Kept} → kept_now ≡ kept → AreRightLines h es kept kept_now
  nothing {kept} same = subst (AreRightLines h es kept) (sym same) (record {
    lines = [];
    part = [];
    sent = sym (append-nil kept.sent);
    right = All-nil (IsRightLine h es);
    one_line = refl;
    whole = λ e. refl;
    unfailed = λ e. refl;
    failed = λ other. absurd (other refl);
    still = λ e. refl;
    wanted = refl;
  })

  module _ {kept kept_then kept_now : Kept} (one : AreRightLines h es kept kept_then) (two : AreRightLines h es kept_then kept_now) where
    -- where no record is cut off yet
    joined : kept_then.broken ≡ kept.broken → AreRightLines h es kept kept_now
    joined whole =
        let lines : kept_then.sent ≡ kept.sent ++ flat_map ended one.lines =
        one.sent ∙ ap (λ t. kept.sent ++ (flat_map ended one.lines ++ t)) (one.whole whole) ∙ ap (λ t. kept.sent ++ t) (append-nil (flat_map ended one.lines)) in
        let texts : flat_map ended one.lines ++ (flat_map ended two.lines ++ two.part) ≡ flat_map ended (one.lines ++ two.lines) ++ two.part =
        sym (append_assoc (flat_map ended one.lines) (flat_map ended two.lines) two.part) ∙ ap (λ t. t ++ two.part) (sym (flat_map-append ended one.lines two.lines)) in
        record {
          lines = one.lines ++ two.lines;
          part = two.part;
          sent =
              two.sent ∙ ap (λ t. t ++ (flat_map ended two.lines ++ two.part)) lines ∙ append_assoc kept.sent (flat_map ended one.lines) (flat_map ended two.lines ++ two.part)
              ∙ ap (λ t. kept.sent ++ t) texts;
          right = All-append (IsRightLine h es) one.lines two.lines one.right two.right;
          one_line = two.one_line;
          whole = λ e. two.whole (e ∙ sym whole);
          unfailed = λ e. two.unfailed (e ∙ sym whole) ∙ one.unfailed whole;
          failed = λ other. two.failed (λ e. other (e ∙ whole)) ∙ ap (λ n. min (n + 1) (2 ^ 64 - 1)) (one.unfailed whole);
          still = λ off. let first = one.still off in two.still (stays first off) ∙ first;
          wanted = two.wanted ∙ one.wanted;
        }
      where
        stays : kept_then ≡ kept → (kept.wanted ≡ false) ⊎ (kept.broken ≡ true) → (kept_then.wanted ≡ false) ⊎ (kept_then.broken ≡ true)
        stays same (inl off) = inl (ap (λ (k : Kept). k.wanted) same ∙ off)
        stays same (inr off) = inr (ap (λ (k : Kept). k.broken) same ∙ off)

    behind : AreRightLines h es kept kept_now
    behind = of kept.broken kept_then.broken refl refl
      where
        of : (a b : Bool) → kept.broken ≡ a → kept_then.broken ≡ b → AreRightLines h es kept kept_now
        of true b first second = subst (λ (k : Kept). AreRightLines h es k kept_now) (one.still (inr first)) two
        of false false first second = joined (second ∙ sym first)
        of false true first second = subst (AreRightLines h es kept) (sym (two.still (inr second))) one

pub one_behind_the_other : OneBehindTheOther
one_behind_the_other h es kept kept_then kept_now one two = behind h es one two

-- ---- One request

-- a record is sent where they are wanted, and none is cut off
neither : {A : Type 0} (kept : Kept) → kept.wanted ≡ true → kept.broken ≡ false → (kept.wanted ≡ false) ⊎ (kept.broken ≡ true) → A
neither kept on intact (inl e) = absurd (cc (on, e))
neither kept on intact (inr e) = absurd (cc (intact, e))

module _ (h : Head) (es : List EntryTree) {kept kept_now : Kept} (on : kept.wanted ≡ true) (intact : kept.broken ≡ false) where
  -- a whole line was sent
  line_sent : (text line : List ℕ) → IsRightLine h es text → line ≡ ended text → kept_now ≡ record kept { sent = kept.sent ++ line } → AreRightLines h es kept kept_now
  line_sent text line right is now = subst (AreRightLines h es kept) (sym now) (record {
    lines = text ∷ [];
    part = [];
    sent = ap (λ t. kept.sent ++ t) (is ∙ sym (append-nil (ended text)) ∙ sym (append-nil (ended text ++ [])));
    right = All-cons (IsRightLine h es) text [] right (All-nil (IsRightLine h es));
    one_line = refl;
    whole = λ e. refl;
    unfailed = λ e. refl;
    failed = λ other. absurd (other refl);
    still = neither kept on intact;
    wanted = refl;
  })

  -- a part of one was
  part_sent : (part : List ℕ) → IsOneLine part → kept_now.sent ≡ kept.sent ++ part
      → kept_now ≡ record { wanted = true; sent = kept_now.sent; faults = min (kept.faults + 1) (2 ^ 64 - 1); broken = true } → AreRightLines h es kept kept_now
  part_sent part one sent now =
      let broken : kept_now.broken ≡ true = ap (λ (k : Kept). k.broken) now in
      record {
        lines = [];
        part = part;
        sent = sent;
        right = All-nil (IsRightLine h es);
        one_line = one;
        whole = λ e. absurd (cc (broken, e, intact));
        unfailed = λ e. absurd (cc (broken, e, intact));
        failed = λ other. ap (λ (k : Kept). k.faults) now;
        still = neither kept on intact;
        wanted = ap (λ (k : Kept). k.wanted) now ∙ sym on;
      }

module _ (h : Head) (es : List EntryTree) (written : IsWritten h es) where
  -- what was recorded of a turn
  noted_right : (before : Standing) (request : Request) (turn : Turn) → IsRightTurn h es before request turn → (kept kept_now : Kept)
      → IsNoted h before.who request turn.reply turn.asks kept kept_now → AreRightLines h es kept kept_now
  noted_right before request turn right kept kept_now (records.not_wanted off told same) = nothing h es same
  noted_right before request turn right kept kept_now (records.untold none same) = nothing h es same
  noted_right before request turn right kept kept_now (records.sent at v line on intact records_it of now) =
      let call = right of.principal of.op of.object of.arg at v of.who_is of.call records_it in
      let r : Record = record_of of.principal of.op of.object at (Known (given_in turn.asks)) v in
      line_sent h es on intact (record_text (name_of h.principals of.principal) r) line (right_line h es written r call.with_answers call.within of.named.0 of.named.1 of.named.2) of.line_is now
  noted_right before request turn right kept kept_now (records.cut_off at v line on intact refused of (n, less, part) now) =
      let name = name_of h.principals of.principal in
      let r : Record = record_of of.principal of.op of.object at (Known (given_in turn.asks)) v in
      let one = part_line (record_text name r) n (record_line name r of.named.0 of.named.1 of.named.2) (subst (λ (t : List ℕ). n < length t) of.line_is less) in
      part_sent h es on intact (take n line) (subst (λ (t : List ℕ). IsOneLine (take n t)) (sym of.line_is) one) part now
  noted_right before request turn right kept kept_now (records.later on broken told unasked same) = nothing h es same

  -- ---- All requests

  lines_along : (s : ℕ) (before : Standing) (requests : List Request) (replies : List Reply) (asks : List Ask) (steps : List Item) (added : List EntryTree) (last : Standing)
      (led : Leads h es s before requests replies asks steps added last) (kept kept_now : Kept) → AreNoted h es s before requests replies asks steps added last led kept kept_now
      → AreRightLines h es kept kept_now
  lines_along s before [] [] asks steps added last led kept kept_now noted = nothing h es noted
  lines_along s before (q ∷ qs) (r ∷ rs) asks steps added last led kept kept_now noted =
      behind h es (noted_right before q led.0 (replies_are_right h es s before q led.0 led.4) kept noted.0 noted.1)
      (lines_along s led.0.after qs rs led.1 led.2 led.3 last led.9 noted.0 kept_now noted.3)
  lines_along s before [] (r ∷ rs) asks steps added last led kept kept_now noted = absurd noted
  lines_along s before (q ∷ qs) [] asks steps added last led kept kept_now noted = absurd noted

pub recorded_is_right : RecordedIsRight
recorded_is_right h es s low requests replies asks trail last kept kept_now written told =
    lines_along h es written s (beginning told.0.first) requests replies asks told.0.steps told.0.added last told.0.leads kept kept_now told.1

-- ---- None is left out

-- a reply makes one record
one_record : (reply : Reply) (a b : ℕ) (v w : Recorded) → Records reply a v → Records reply b w → (a ≡ b) × (v ≡ w)
one_record (Allowed n hit value) a b v w r s = (r.0 ∙ sym s.0, r.1 ∙ sym s.1)
one_record (Denied n cause line fault) a b v w (c, c_is, a_is, v_is) (d, d_is, b_is, w_is) =
    (a_is ∙ sym b_is, v_is ∙ ap (λ (x : Cause). recorded.Told (verdict.Denied x)) (one_cause c d (c_is ∙ sym d_is)) ∙ sym w_is)
one_record (Refused n refusal) a b v w r s = (r.1 ∙ sym s.1, r.2 ∙ sym s.2)
one_record (Down n line) a b v w r s = (r.0 ∙ sym s.0, r.1 ∙ sym s.1)
one_record _ a b v w r s = absurd r

-- and it is neither one of which there is none, nor one that says so
told_of : (reply : Reply) (at : ℕ) (v : Recorded) → Records reply at v → IsUntold reply → ⊥
told_of (Refused n refusal) at v r none = absurd (cc (r.0, none))
told_of (Allowed n hit value) at v r none = absurd none
told_of (Denied n cause line fault) at v r none = absurd none
told_of (Down n line) at v r none = absurd none
told_of _ at v r none = absurd r

recorded_of : (reply : Reply) (at : ℕ) (v : Recorded) → Records reply at v → IsNotRecorded reply → ⊥
recorded_of (Refused n refusal) at v r is = absurd (cc (r.0, is))
recorded_of (Allowed n hit value) at v r is = absurd is
recorded_of (Denied n cause line fault) at v r is = absurd is
recorded_of (Down n line) at v r is = absurd is
recorded_of _ at v r is = absurd r

pub none_is_left_out : NoneIsLeftOut
none_is_left_out h who request reply asks kept kept_now at v (records.not_wanted off told same) call r on = absurd (cc (off, on))
none_is_left_out h who request reply asks kept kept_now at v (records.untold none same) call r on = absurd (told_of reply at v r (none call))
none_is_left_out h who request reply asks kept kept_now at v (records.sent b w line wanted intact s of now) call r on =
    let same = one_record reply b at w v s r in
    (line, subst (λ (x : Recorded). IsLineOf h who request asks at x line) same.1 (subst (λ (n : ℕ). IsLineOf h who request asks n w line) same.0 of), now)
none_is_left_out h who request reply asks kept kept_now at v (records.cut_off b w line wanted intact refused of part now) call r on =
    absurd (recorded_of (Refused b 20) at v (subst (λ (x : Reply). Records x at v) refused r) refl)
none_is_left_out h who request reply asks kept kept_now at v (records.later wanted broken told unasked same) call r on = absurd (recorded_of reply at v r told.1)
