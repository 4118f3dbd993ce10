-- What a turn leaves, by its reply, and what sessions are never told.
use Rattle.std.proofs.Common.{◌≡◌, ◌≤◌, ◌<◌, ◌+◌, ℕ, zero, suc, List, [], ◌∷◌, length, Bool, true, false, true≢false, Option, Some, None, refl, sym, ap, subst, arith, ◌∙◌, length-append, map, ◌++◌}
use Rattle.std.specs.Prelude.{slice_get}
use Rattle.std.proofs.lemmas.Option.{slice_get_within}
use Rattle.nal_rules.specs.Verdicts.{CaseTree, IsVerdict}
use Rattle.nal_rules.specs.declared.verdicts.Cause.TheVariants.{LabelMissing}
use Rattle.nal_rules.specs.declared.verdicts.Verdict.{Verdict}
use Rattle.nal_rules.specs.declared.verdicts.Verdict.TheVariants.{Allowed as AllowedVerdict, Denied as DeniedVerdict}
use Rattle.object_table.specs.Objects.{number_of}
use Rattle.policy_history.specs.declared.heads.Head.{Head}
use Rattle.policy_history.specs.Events.{EntryTree, EventTree, admitted}
use Rattle.policy_history.specs.Judged.{IsLasting, IsRightIn, case_at, case_of_row}
use Rattle.policy_history.specs.States.{State}
use Rattle.guard_core.specs.Judging.{IsJudged, answers_in, told_of, verdict_of}
use Rattle.guard_core.specs.declared.findings.Finding.{Finding}
use Rattle.authority_ask.specs.Panels.{Told as Ask}
use Rattle.session_wire.specs.declared.requests.Request.{Request}
use Rattle.session_wire.specs.declared.requests.Request.TheVariants.{Hello, Call}
use Rattle.session_wire.specs.declared.replies.Reply.{Reply}
use Rattle.session_wire.specs.declared.replies.Reply.TheVariants.{Welcome, Done, Allowed, Denied, NoMemory}
use Rattle.verdict_words.specs.declared.places.CasePlace.{CasePlace}
use Rattle.verdict_words.specs.declared.views.Item.{Item}
use Rattle.session_core.specs.Answers.{greeted}
use Rattle.session_core.specs.Standing.{Standing, Triple, knows}
use Rattle.session_core.specs.Calls.{Calls, IsPlaceIn, IsSeen, Judges, Looks, Misses, Turn, state_at, verdict_reply}
use Rattle.session_core.specs.Unanswered.{GivesUp, GoesUnrecorded}
use Rattle.session_core.specs.Changes.{Changes}
use Rattle.session_core.specs.Told.{Answers, Leads}
use Rattle.session_core.specs.Calls as calling
use Rattle.session_core.specs.Unanswered as unanswered
use Rattle.session_core.specs.Changes as changing
use Rattle.session_core.specs.Told as told
use Rattle.session_core.proofs.ToldLaws.{unrecorded_reply}
use Rattle.session_core.proofs.WorkedParts.{label_allowed, label_deleted, label_missing, label_shown, one_line}
use Rattle.session_core.proofs.OneLineVerdicts.{line}
use Rattle.session_core.proofs.ToldRows.{deleted_at, label_at}
use Rattle.session_core.proofs.WorkedAsks.{ask_at, ask_shown, asking_case, open_case, ported}
use Rattle.nal_rules.specs.Asking.{asks_for}
use Rattle.authority_ask.specs.declared.panels.Ask.TheVariants.{Yes}
use Rattle.proof_store.specs.Cases.{CaseRow}
use Rattle.proof_lines.specs.declared.rules.Rule.TheVariants.{Label}
use Rattle.session_core.specs.Inner.ToldRows.{YesUsedTwice, asked, asking_entries, asking_head, by_ask, AllowedThenDenied, DeletedStillAllowed, DoneWithoutEntry, FirstCallHits, allowed_entries, alice_says_ok, deleted_entries, f, head, read}

-- ---- What a turn leaves

abbrev is_done_reply : Reply → Bool
is_done_reply (Done at number) = true
is_done_reply _ = false

abbrev pub is_verdict_reply : Reply → Bool
is_verdict_reply (Allowed at hit value) = true
is_verdict_reply (Denied at cause line fault) = true
is_verdict_reply _ = false

verdict_not_done : (n hit value : ℕ) (v : Verdict) → is_done_reply (verdict_reply n hit value v) ≡ false
verdict_not_done n hit value AllowedVerdict = refl
verdict_not_done n hit value (DeniedVerdict cause) = refl

greeting_not_done : (at s : ℕ) (who found : Option ℕ) → is_done_reply (greeted at s who found).reply ≡ false
greeting_not_done at s (Some p) found = refl
greeting_not_done at s None None = refl
greeting_not_done at s None (Some p) = refl

pub greeting_no_verdict : (at s : ℕ) (who found : Option ℕ) → is_verdict_reply (greeted at s who found).reply ≡ false
greeting_no_verdict at s (Some p) found = refl
greeting_no_verdict at s None None = refl
greeting_no_verdict at s None (Some p) = refl

-- a turn whose reply is another kind than this
pub other_kind : (kind : Reply → Bool) {turn of : Turn} {reply : Reply} → turn ≡ of → turn.reply ≡ reply → kind reply ≡ true → kind of.reply ≡ false → ⊥
other_kind kind is replied in_kind off = true≢false (sym in_kind ∙ sym (ap kind replied) ∙ ap (λ (t : Turn). kind t.reply) is ∙ off)

module _ {turn : Turn} {at number : ℕ} (replied : turn.reply ≡ Done at number) where
  no_verdict_done : (n hit value : ℕ) (v : Verdict) {of : Turn} → turn ≡ of → of.reply ≡ verdict_reply n hit value v → ⊥
  no_verdict_done n hit value v is reply_is = other_kind is_done_reply is replied refl (ap is_done_reply reply_is ∙ verdict_not_done n hit value v)

  -- a change that was done leaves the session behind its entry
  change_leaves : {h : Head} {es : List EntryTree} {s : ℕ} {before : Standing} {p : ℕ} {e : EventTree} → Changes h es s before p e turn → (turn.after ≡ record before { low = at }) × (0 < at) × (at ≤ length es)
  change_leaves (changing.refused m refusal met seen decided meets is) = absurd (other_kind is_done_reply is replied refl refl)
  change_leaves (changing.not_recorded m due met seen decided meets is) = absurd (other_kind is_done_reply is replied refl refl)
  change_leaves {es = es} {before = before} (changing.done m due met seen decided got meets is) =
      let same : Done at number ≡ Done (m + 1) due.number = sym replied ∙ ap (λ (t : Turn). t.reply) is in
      let low : m + 1 ≡ at = cc in
      let within = slice_get_within es m _ got in
      (ap (λ (t : Turn). t.after) is ∙ ap (λ (n : ℕ). record before { low = n }) low, omega (arith, low), omega (arith, low, within))

  judges_done : {h : Head} {before : Standing} {st : State} {p : ℕ} {op object : List ℕ} {arg n : ℕ} {looked : List Item} → Judges h st before p op object arg n looked turn → ⊥
  judges_done (calling.no_object none is) = other_kind is_done_reply is replied refl refl
  judges_done {n = n} (calling.judged k value finding kept ran object_is judged keeps runs is) = no_verdict_done n 0 value (verdict_of finding) is refl
  judges_done (calling.down k line object_is broken is) = other_kind is_done_reply is replied refl refl

  call_done : {h : Head} {es : List EntryTree} {before : Standing} {p : ℕ} {op object : List ℕ} {arg : ℕ} → Calls h es before p op object arg turn → ⊥
  call_done (calling.hit n place slot of_object of_store value held verdict ran looks makes stands right runs is) = no_verdict_done n 1 value verdict is refl
  call_done (calling.snapped low n looked misses seen judges) = judges_done judges

  gives_up_done : {h : Head} {es : List EntryTree} {before : Standing} {p : ℕ} {op object : List ℕ} → GivesUp h es before p op object turn → ⊥
  gives_up_done (unanswered.looked low steps misses is) = other_kind is_done_reply is replied refl refl
  gives_up_done (unanswered.met low n steps misses seen asked is) = other_kind is_done_reply is replied refl refl

  pub done_leaves : {h : Head} {es : List EntryTree} {s : ℕ} {before : Standing} {request : Request} → Answers h es s before request turn → (turn.after ≡ record before { low = at }) × (0 < at) × (at ≤ length es)
  done_leaves {h = h} {s = s} {before = before} (told.hello name secret greeting is greeted_is turn_is) =
      absurd (other_kind is_done_reply turn_is replied refl (ap (λ g. is_done_reply g.reply) greeted_is ∙ greeting_not_done before.low s before.who (admitted h.principals name secret)))
  done_leaves (told.early nobody other is) = absurd (other_kind is_done_reply is replied refl refl)
  done_leaves (told.change p e who event changes) = change_leaves changes
  done_leaves (told.call p op object arg who is calls) = absurd (call_done calls)
  done_leaves (told.given_up wants is) = absurd (other_kind is_done_reply is replied refl refl)
  done_leaves (told.call_given_up p op object arg who is gives_up) = absurd (gives_up_done gives_up)
  done_leaves (told.call_unrecorded p op object arg who is goes) = absurd (true≢false (ap is_done_reply (sym replied ∙ (unrecorded_reply goes).1)))
  done_leaves (told.see p k who is (changing.seen m seen there turn_is)) = absurd (other_kind is_done_reply turn_is replied refl refl)
  done_leaves (told.see p k who is (changing.not_yet m seen far turn_is)) = absurd (other_kind is_done_reply turn_is replied refl refl)

-- ---- Whoever is admitted stays so

who_of : {turn of : Turn} {w : Option ℕ} {p : ℕ} → turn ≡ of → of.after.who ≡ w → w ≡ Some p → turn.after.who ≡ Some p
who_of is same who = ap (λ (t : Turn). t.after.who) is ∙ same ∙ who

module _ {before : Standing} {turn : Turn} {p : ℕ} (who : before.who ≡ Some p) where
  judges_stay : {h : Head} {st : State} {q : ℕ} {op object : List ℕ} {arg n : ℕ} {looked : List Item} → Judges h st before q op object arg n looked turn → turn.after.who ≡ Some p
  judges_stay (calling.no_object none is) = who_of is refl who
  judges_stay (calling.judged k value finding kept ran object_is judged keeps runs is) = who_of is refl who
  judges_stay (calling.down k line object_is broken is) = who_of is refl who

  call_stays : {h : Head} {es : List EntryTree} {q : ℕ} {op object : List ℕ} {arg : ℕ} → Calls h es before q op object arg turn → turn.after.who ≡ Some p
  call_stays (calling.hit n place slot of_object of_store value held verdict ran looks makes stands right runs is) = who_of is refl who
  call_stays (calling.snapped low n looked misses seen judges) = judges_stay judges

  gives_up_stays : {h : Head} {es : List EntryTree} {q : ℕ} {op object : List ℕ} → GivesUp h es before q op object turn → turn.after.who ≡ Some p
  gives_up_stays (unanswered.looked low steps misses is) = who_of is refl who
  gives_up_stays (unanswered.met low n steps misses seen asked is) = who_of is refl who

  unrecorded_stays : {h : Head} {es : List EntryTree} {q : ℕ} {op object : List ℕ} → GoesUnrecorded h es before q op object turn → turn.after.who ≡ Some p
  unrecorded_stays (unanswered.hit_unrecorded n place slot of_object of_store held looks makes is) = who_of is refl who
  unrecorded_stays (unanswered.snap_unrecorded low n steps misses seen asked is) = who_of is refl who
  unrecorded_stays (unanswered.later_unrecorded is) = who_of is refl who

  change_stays : {h : Head} {es : List EntryTree} {s q : ℕ} {e : EventTree} → Changes h es s before q e turn → turn.after.who ≡ Some p
  change_stays (changing.refused m refusal met seen decided meets is) = who_of is refl who
  change_stays (changing.not_recorded m due met seen decided meets is) = who_of is refl who
  change_stays (changing.done m due met seen decided got meets is) = who_of is refl who

  pub stays : {h : Head} {es : List EntryTree} {s : ℕ} {request : Request} → Answers h es s before request turn → turn.after.who ≡ Some p
  stays {h = h} {s = s} (told.hello name secret greeting is greeted_is turn_is) =
      let found = admitted h.principals name secret in
      ap (λ (t : Turn). t.after.who) turn_is ∙ ap (λ g. g.who) greeted_is ∙ ap (λ (w : Option ℕ). (greeted before.low s w found).who) who
  stays (told.early nobody other is) = who_of is refl who
  stays (told.change q e who_is event changes) = change_stays changes
  stays (told.call q op object arg who_is is calls) = call_stays calls
  stays (told.given_up wants is) = who_of is refl who
  stays (told.call_given_up q op object arg who_is is gives_up) = gives_up_stays gives_up
  stays (told.call_unrecorded q op object arg who_is is goes) = unrecorded_stays goes
  stays (told.see q k who_is is (changing.seen m seen there turn_is)) = who_of turn_is refl who
  stays (told.see q k who_is is (changing.not_yet m seen far turn_is)) = who_of turn_is refl who

-- who says hello with the name and the secret of a principal, and is welcomed, is that one from then on
pub welcomed : {h : Head} {es : List EntryTree} {s p at session : ℕ} {before : Standing} {name secret : List ℕ} {turn : Turn} → before.who ≡ None → admitted h.principals name secret ≡ Some p
    → Answers h es s before (Hello name secret) turn → turn.reply ≡ Welcome session at → turn.after ≡ record before { who = Some p }
welcomed {h = h} {s = s} {before = before} {name = name} {secret = secret} nobody found (told.hello name2 secret2 greeting is greeted_is turn_is) replied =
    let names : name2 ≡ name = cc in
    let secrets : secret2 ≡ secret = cc in
    let here : admitted h.principals name2 secret2 ≡ Some _ = ap (λ x. admitted h.principals x secret2) names ∙ ap (λ x. admitted h.principals name x) secrets ∙ found in
    let who = ap (λ g. g.who) greeted_is ∙ ap (λ (w : Option ℕ). (greeted before.low s w (admitted h.principals name2 secret2)).who) nobody ∙ ap (λ (x : Option ℕ). (greeted before.low s None x).who) here in
    ap (λ (t : Turn). t.after) turn_is ∙ ap (λ (w : Option ℕ). record before { who = w }) who
welcomed nobody found (told.early none other is) replied = absurd (other _ _ refl)
welcomed nobody found (told.change q e who event changes) replied = absurd event
welcomed nobody found (told.call q op object arg who is calls) replied = absurd (cc is)
welcomed nobody found (told.given_up wants is) replied = let same = sym replied ∙ ap (λ (t : Turn). t.reply) is in absurd (cc same)
welcomed nobody found (told.call_given_up q op object arg who is gives_up) replied = absurd (cc is)
welcomed nobody found (told.call_unrecorded q op object arg who is goes) replied = absurd (cc is)
welcomed nobody found (told.see q k who is sees) replied = absurd (cc is)

-- ---- A call that is allowed or denied

-- what its verdict rests on: the one that was kept, where the case is known, or the one that was judged
pub data RestsOnCase (h : Head) (es : List EntryTree) (before : Standing) (p : ℕ) (op object : List ℕ) (n hit : ℕ) (v : Verdict) (asks : List Ask) : Type 0 where
  on_kept : (place : CasePlace) → hit ≡ 1 → Looks h es before p op object n place → IsRightIn h (state_at h es n) place.case v
      → RestsOnCase h es before p op object n hit v asks
  on_judged : (k : ℕ) (finding : Finding) → hit ≡ 0 → number_of (state_at h es n).objects object ≡ Some k → verdict_of finding ≡ v
      → IsJudged (case_at h (state_at h es n) p op k) asks finding → RestsOnCase h es before p op object n hit v asks

pub record IsVerdictOf (h : Head) (es : List EntryTree) (before : Standing) (p : ℕ) (op object : List ℕ) (turn : Turn) : Type 0 where
  pub n : ℕ
  pub hit : ℕ
  pub value : ℕ
  pub verdict : Verdict
  pub reply_is : turn.reply ≡ verdict_reply n hit value verdict
  pub low_is : turn.after.low ≡ n
  pub late : before.low ≤ n
  pub within : n ≤ length es
  pub rests : RestsOnCase h es before p op object n hit verdict turn.asks
  pub unasked : hit ≡ 1 → turn.asks ≡ []

pub misses_low : {h : Head} {es : List EntryTree} {before : Standing} {p : ℕ} {op object : List ℕ} {low : ℕ} {steps : List Item} → Misses h es before p op object low steps → before.low ≤ low
misses_low (calling.unknown is_known low_is none) = omega (arith, low_is)
misses_low (calling.missed place slot of_object of_store looks no_hit steps_are) = looks.seen.0

module _ (h : Head) (es : List EntryTree) (before : Standing) (turn : Turn) (p : ℕ) (op object : List ℕ) (arg : ℕ) (told_so : is_verdict_reply turn.reply ≡ true) where
  abbrev IsVerdictHere : Type 0
  IsVerdictHere = IsVerdictOf h es before p op object turn

  no_verdict : {of : Turn} {A : Type 0} → turn ≡ of → is_verdict_reply of.reply ≡ false → A
  no_verdict is off = absurd (other_kind is_verdict_reply is refl told_so off)

  judges_verdict : {n : ℕ} {looked : List Item} → before.low ≤ n → n ≤ length es → Judges h (state_at h es n) before p op object arg n looked turn → IsVerdictHere
  judges_verdict late within (calling.no_object none is) = no_verdict is refl
  judges_verdict {n = n} late within (calling.judged k value finding kept ran object_is judged keeps runs is) = record {
    n = n;
    hit = 0;
    value = value;
    verdict = verdict_of finding;
    reply_is = ap (λ (t : Turn). t.reply) is;
    low_is = ap (λ (t : Turn). t.after.low) is;
    late = late;
    within = within;
    rests = on_judged k finding refl object_is refl judged;
    unasked = λ one. absurd (omega (arith, one));
  }
  judges_verdict late within (calling.down k line object_is broken is) = no_verdict is refl

  pub call_verdict : Calls h es before p op object arg turn → IsVerdictHere
  call_verdict (calling.hit n place slot of_object of_store value held verdict ran looks makes stands right runs is) = record {
    n = n;
    hit = 1;
    value = value;
    verdict = verdict;
    reply_is = ap (λ (t : Turn). t.reply) is;
    low_is = ap (λ (t : Turn). t.after.low) is;
    late = looks.seen.0;
    within = looks.seen.1;
    rests = on_kept place refl looks right;
    unasked = λ _. ap (λ (t : Turn). t.asks) is;
  }
  call_verdict (calling.snapped low n looked misses seen judges) = let least = misses_low misses in judges_verdict (omega (arith, least, seen.0)) seen.1 judges

pub gives_up_silent : {h : Head} {es : List EntryTree} {before : Standing} {p : ℕ} {op object : List ℕ} {turn : Turn} → GivesUp h es before p op object turn → turn.reply ≡ NoMemory
gives_up_silent (unanswered.looked low steps misses is) = ap (λ (t : Turn). t.reply) is
gives_up_silent (unanswered.met low n steps misses seen asked is) = ap (λ (t : Turn). t.reply) is

-- what a call comes to, by the request
abbrev CallsBy : Head → List EntryTree → Standing → ℕ → Turn → Request → Type 0
CallsBy h es before p turn (Call op object arg) = Calls h es before p op object arg turn
CallsBy h es before p turn _ = ⊥

-- a reply that allows or denies is that of a call by the principal that is admitted
pub verdict_of_call : {h : Head} {es : List EntryTree} {s : ℕ} {before : Standing} {turn : Turn} {p : ℕ} (op object : List ℕ) (arg : ℕ) → before.who ≡ Some p → is_verdict_reply turn.reply ≡ true
    → Answers h es s before (Call op object arg) turn → IsVerdictOf h es before p op object turn
verdict_of_call op object arg who told_so (told.hello name secret greeting is greeted_is turn_is) = absurd (cc is)
verdict_of_call op object arg who told_so (told.early nobody other is) = absurd (cc (who, nobody))
verdict_of_call op object arg who told_so (told.change q e who_is event changes) = absurd event
verdict_of_call {h} {es} {s} {before} {turn} {p} op object arg who told_so (told.call q op2 object2 arg2 who_is is calls) =
    let same : q ≡ p = cc in
    let by : CallsBy h es before q turn (Call op object arg) = subst (λ (r : Request). CallsBy h es before q turn r) (sym is) calls in
    call_verdict h es before turn p op object arg told_so (subst (λ (x : ℕ). CallsBy h es before x turn (Call op object arg)) same by)
verdict_of_call op object arg who told_so (told.given_up wants is) = absurd (other_kind is_verdict_reply is refl told_so refl)
verdict_of_call op object arg who told_so (told.call_given_up q op2 object2 arg2 who_is is gives_up) =
    absurd (true≢false (sym told_so ∙ ap is_verdict_reply (gives_up_silent gives_up)))
verdict_of_call op object arg who told_so (told.call_unrecorded q op2 object2 arg2 who_is is goes) =
    absurd (true≢false (sym told_so ∙ ap is_verdict_reply (unrecorded_reply goes).1))
verdict_of_call op object arg who told_so (told.see q k who_is is sees) = absurd (cc is)

-- ---- What is never told

pub done_without_entry : DoneWithoutEntry
done_without_entry at number asks trail last t =
    let done = t.leads.9 in
    let leaves = done_leaves done.5 done.4 in
    omega (arith, leaves.1, leaves.2)

-- where no case is known, none is allowed by a verdict that was kept
no_first_hit : {h : Head} {es : List EntryTree} {before : Standing} {p : ℕ} {op object : List ℕ} {turn : Turn} {at value : ℕ} → before.known ≡ [] → turn.reply ≡ Allowed at 1 value
    → IsVerdictOf h es before p op object turn → ⊥
no_first_hit {h} {es} {before} {p} {op} {object} {turn} {at} {value} none replied v = of v.verdict v.rests (sym v.reply_is ∙ replied)
  where
    of : (verdict : Verdict) → RestsOnCase h es before p op object v.n v.hit verdict turn.asks → verdict_reply v.n v.hit v.value verdict ≡ Allowed at 1 value → ⊥
    of (DeniedVerdict cause) rests is = cc is
    of AllowedVerdict (on_kept place hit looks right) is = true≢false (sym looks.known ∙ ap (λ known. knows known op object) none)
    of AllowedVerdict (on_judged k finding hit named found judged) is = cc (is, hit)

-- the standing behind a change that was done
moved : {before after : Standing} {who : Option ℕ} {low at : ℕ} {known : List Triple} → after ≡ record before { low = at } → before ≡ record { who = who; low = low; known = known }
    → after ≡ record { who = who; low = at; known = known }
moved {at = at} leaves is = leaves ∙ ap (λ (b : Standing). record b { low = at }) is

pub first_call_hits : FirstCallHits
first_call_hits at value asks trail last t =
    let l0 = t.leads in
    let l1 = l0.9 in
    let l2 = l1.9 in
    let l3 = l2.9 in
    let l4 = l3.9 in
    let l5 = l4.9 in
    let s0 : l0.0.after ≡ record { who = Some 0; low = t.first; known = [] } = welcomed refl refl l0.4 l0.5 in
    let s1 = moved (done_leaves l1.5 l1.4).0 s0 in
    let s2 = moved (done_leaves l2.5 l2.4).0 s1 in
    let s3 = moved (done_leaves l3.5 l3.4).0 s2 in
    let s4 = moved (done_leaves l4.5 l4.4).0 s3 in
    no_first_hit (ap (λ (b : Standing). b.known) s4) l5.5 (verdict_of_call read f 0 (ap (λ (b : Standing). b.who) s4) (ap is_verdict_reply l5.5) l5.4)

-- ---- What a call rests on where its state is known

one_row : {A : Type 0} (x y : A) (k : ℕ) → slice_get (x ∷ []) k ≡ Some y → x ≡ y
one_row x y zero is = cc
one_row x y (suc k) is = let within = slice_get_within (x ∷ []) (suc k) y is in absurd (omega (arith, within))

-- the only case in this state is that of alice's `read f`, and what it comes to is this
record IsOnlyCase (st : State) (c : CaseTree) : Type 0 where
  row : CaseRow
  rows_are : st.cases ≡ row ∷ []
  right_of : case_of_row head st row ≡ c
  named : (k : ℕ) → number_of st.objects f ≡ Some k → case_at head st 0 read k ≡ c

-- so that is its verdict with some answers, kept or not
verdict_there : (es : List EntryTree) (before : Standing) (m n hit : ℕ) (st : State) (c : CaseTree) (v : Verdict) → state_at head es m ≡ st → n ≡ m → IsOnlyCase st c
    → {asks : List Ask} → RestsOnCase head es before 0 read f n hit v asks → (answers : List Bool) × IsVerdict c answers v
verdict_there es before m n hit st c v at same only (on_kept place hit_is looks right) =
    let there : state_at head es n ≡ st = ap (state_at head es) same ∙ at in
    let right2 : IsRightIn head st place.case v = subst (λ (x : State). IsRightIn head x place.case v) there right in
    let row_is : only.row ≡ right2.row = one_row only.row right2.row place.case (ap (λ rows. slice_get rows place.case) (sym only.rows_are) ∙ right2.stands) in
    ([], subst (λ (x : CaseTree). IsVerdict x [] v) (ap (case_of_row head st) (sym row_is) ∙ only.right_of) right2.told)
verdict_there es before m n hit st c v at same only {asks} (on_judged k finding hit_is named found judged) =
    let there : state_at head es n ≡ st = ap (state_at head es) same ∙ at in
    let named2 : number_of st.objects f ≡ Some k = ap (λ (x : State). number_of x.objects f) (sym there) ∙ named in
    let verdict : IsVerdict (case_at head (state_at head es n) 0 read k) (answers_in asks) v = subst (IsVerdict (case_at head (state_at head es n) 0 read k) (answers_in asks)) found judged.verdict in
    (answers_in asks, subst (λ (x : CaseTree). IsVerdict x (answers_in asks) v) (ap (λ (x : State). case_at head x 0 read k) there ∙ only.named k named2) verdict)

abbrev shown_case : CaseTree
shown_case = one_line (Some alice_says_ok) (line Label alice_says_ok) (alice_says_ok ∷ [])

abbrev deleted_case : CaseTree
deleted_case = one_line (Some alice_says_ok) (line Label alice_says_ok) []

only_shown : IsOnlyCase label_shown shown_case
only_shown = record { row = _; rows_are = refl; right_of = refl; named = λ k is. let zero_is : 0 ≡ k = cc in ap (case_at head label_shown 0 read) (sym zero_is) }

only_deleted : IsOnlyCase label_deleted deleted_case
only_deleted = record { row = _; rows_are = refl; right_of = refl; named = λ k is. let zero_is : 0 ≡ k = cc in ap (case_at head label_deleted 0 read) (sym zero_is) }

-- behind the label that is held no call is denied, and behind that which was deleted none is allowed
none_denied : {before : Standing} {turn : Turn} {at cause line fault : ℕ} (v : IsVerdictOf head allowed_entries before 0 read f turn) → v.n ≡ 4 → turn.reply ≡ Denied at cause line fault → ⊥
none_denied {before} {turn} {at} {cause} {line} {fault} v here replied =
    let found = verdict_there allowed_entries before 4 v.n v.hit label_shown shown_case v.verdict label_at here only_shown v.rests in
    of v.verdict (sym v.reply_is ∙ replied) found.0 found.1
  where
    of : (verdict : Verdict) → verdict_reply v.n v.hit v.value verdict ≡ Denied at cause line fault → (answers : List Bool) → IsVerdict shown_case answers verdict → ⊥
    of AllowedVerdict is answers has = cc is
    of (DeniedVerdict cause2) is answers has = label_allowed answers cause2 has.0

none_allowed : {before : Standing} {turn : Turn} {at hit value : ℕ} (v : IsVerdictOf head deleted_entries before 0 read f turn) → v.n ≡ 5 → turn.reply ≡ Allowed at hit value → ⊥
none_allowed {before} {turn} {at} {hit} {value} v here replied =
    let found = verdict_there deleted_entries before 5 v.n v.hit label_deleted deleted_case v.verdict deleted_at here only_deleted v.rests in
    of v.verdict (sym v.reply_is ∙ replied) found.0 found.1
  where
    of : (verdict : Verdict) → verdict_reply v.n v.hit v.value verdict ≡ Allowed at hit value → (answers : List Bool) → IsVerdict deleted_case answers verdict → ⊥
    of (DeniedVerdict cause) is answers has = cc is
    of AllowedVerdict is answers has = has (LabelMissing 1) label_missing.0

pub allowed_then_denied : AllowedThenDenied
allowed_then_denied at cause line fault asks trail last t =
    let l0 = t.leads in
    let l1 = l0.9 in
    let l2 = l1.9 in
    let l3 = l2.9 in
    let l4 = l3.9 in
    let l5 = l4.9 in
    let l6 = l5.9 in
    let s0 : l0.0.after ≡ record { who = Some 0; low = t.first; known = [] } = welcomed refl refl l0.4 l0.5 in
    let s1 = moved (done_leaves l1.5 l1.4).0 s0 in
    let s2 = moved (done_leaves l2.5 l2.4).0 s1 in
    let s3 = moved (done_leaves l3.5 l3.4).0 s2 in
    let s4 = moved (done_leaves l4.5 l4.4).0 s3 in
    let who5 = ap (λ (b : Standing). b.who) s4 in
    let low5 : l4.0.after.low ≡ 4 = ap (λ (b : Standing). b.low) s4 in
    let v5 = verdict_of_call read f 0 who5 (ap is_verdict_reply l5.5) l5.4 in
    let v6 = verdict_of_call read f 0 (stays who5 l5.4) (ap is_verdict_reply l6.5) l6.4 in
    none_denied v6 (omega (arith, low5, v5.late, v5.low_is, v6.late, v6.within)) l6.5

pub deleted_still_allowed : DeletedStillAllowed
deleted_still_allowed at hit value asks trail last t =
    let l0 = t.leads in
    let l1 = l0.9 in
    let l2 = l1.9 in
    let l3 = l2.9 in
    let l4 = l3.9 in
    let l5 = l4.9 in
    let l6 = l5.9 in
    let l7 = l6.9 in
    let l8 = l7.9 in
    let s0 : l0.0.after ≡ record { who = Some 0; low = t.first; known = [] } = welcomed refl refl l0.4 l0.5 in
    let who1 = ap (λ (b : Standing). b.who) s0 in
    let who2 = stays who1 l1.4 in
    let who3 = stays who2 l2.4 in
    let who4 = stays who3 l3.4 in
    let who5 = stays who4 l4.4 in
    let who6 = stays who5 l5.4 in
    let who7 = stays who6 l6.4 in
    let who8 = stays who7 l7.4 in
    let low8 : l7.0.after.low ≡ 5 = ap (λ (b : Standing). b.low) (done_leaves l7.5 l7.4).0 in
    let v = verdict_of_call read f 0 who8 (ap is_verdict_reply l8.5) l8.4 in
    none_allowed v (omega (arith, low8, v.late, v.within)) l8.5

-- ---- An authority is asked for each call that is allowed

-- the only case is the one that asks
asking_row : (y : CaseRow) (k : ℕ) → slice_get ask_shown.cases k ≡ Some y → case_of_row asking_head ask_shown y ≡ asking_case
asking_row y k is = ap (case_of_row asking_head ask_shown) (sym (one_row (0, read, 0, Some by_ask) y k is))

asking_named : (k : ℕ) → number_of ask_shown.objects f ≡ Some k → case_at asking_head ask_shown 0 read k ≡ asking_case
asking_named k is = let zero_is : 0 ≡ k = cc in ap (case_at asking_head ask_shown 0 read) (sym zero_is)

-- it is not kept, and where it is judged something is asked
never_kept : (k : ℕ) → IsRightIn asking_head ask_shown k AllowedVerdict → ⊥
never_kept k right = cc (subst (λ (c : CaseTree). IsLasting c AllowedVerdict) (asking_row right.row k right.stands) right.lasting)

some_asked : (asks : List Ask) (finding : Finding) → IsJudged asking_case asks finding → 0 < length asks
some_asked asks finding judged =
    let told_is : asks ≡ map told_of (asks_for ported by_ask (answers_in asks)) = judged.told_is ∙ ap (map told_of) (judged.asked.1 open_case) in
    let long : length asks ≡ length (map told_of (asks_for ported by_ask (answers_in asks))) = ap length told_is in
    omega (arith, long)

asked_for : {before : Standing} {turn : Turn} {at hit value : ℕ} (v : IsVerdictOf asking_head asking_entries before 0 read f turn) → v.n ≡ 4 → turn.reply ≡ Allowed at hit value → 0 < length turn.asks
asked_for {before} {turn} {at} {hit} {value} v here replied = of v.verdict (sym v.reply_is ∙ replied) v.rests
  where
    there : state_at asking_head asking_entries v.n ≡ ask_shown
    there = ap (state_at asking_head asking_entries) here ∙ ask_at

    of : (verdict : Verdict) → verdict_reply v.n v.hit v.value verdict ≡ Allowed at hit value → RestsOnCase asking_head asking_entries before 0 read f v.n v.hit verdict turn.asks → 0 < length turn.asks
    of (DeniedVerdict cause) is rests = absurd (cc is)
    of AllowedVerdict is (on_kept place hit_is looks right) = absurd (never_kept place.case (subst (λ (x : State). IsRightIn asking_head x place.case AllowedVerdict) there right))
    of AllowedVerdict is (on_judged k finding hit_is named found judged) =
        let named2 : number_of ask_shown.objects f ≡ Some k = ap (λ (x : State). number_of x.objects f) (sym there) ∙ named in
        let case_is : case_at asking_head (state_at asking_head asking_entries v.n) 0 read k ≡ asking_case = ap (λ (x : State). case_at asking_head x 0 read k) there ∙ asking_named k named2 in
        some_asked turn.asks finding (subst (λ (c : CaseTree). IsJudged c turn.asks finding) case_is judged)

parts : (xs ys zs : List Ask) → xs ≡ ys ++ zs → length xs ≡ length ys + length zs
parts xs ys zs is = ap length is ∙ length-append ys zs

pub yes_used_twice : YesUsedTwice
yes_used_twice hit value later_hit later_value trail last t =
    let l0 = t.leads in
    let l1 = l0.9 in
    let l2 = l1.9 in
    let l3 = l2.9 in
    let l4 = l3.9 in
    let l5 = l4.9 in
    let l6 = l5.9 in
    let s0 : l0.0.after ≡ record { who = Some 0; low = t.first; known = [] } = welcomed refl refl l0.4 l0.5 in
    let s1 = moved (done_leaves l1.5 l1.4).0 s0 in
    let s2 = moved (done_leaves l2.5 l2.4).0 s1 in
    let s3 = moved (done_leaves l3.5 l3.4).0 s2 in
    let s4 = moved (done_leaves l4.5 l4.4).0 s3 in
    let who5 = ap (λ (b : Standing). b.who) s4 in
    let low5 : l4.0.after.low ≡ 4 = ap (λ (b : Standing). b.low) s4 in
    let v5 = verdict_of_call read f 0 who5 (ap is_verdict_reply l5.5) l5.4 in
    let v6 = verdict_of_call read f 0 (stays who5 l5.4) (ap is_verdict_reply l6.5) l6.4 in
    let first = asked_for v5 (omega (arith, low5, v5.late, v5.within)) l5.5 in
    let second = asked_for v6 (omega (arith, low5, v5.late, v5.low_is, v6.late, v6.within)) l6.5 in
    let p0 : 1 ≡ length l0.0.asks + length l0.1 = parts (asked Yes ∷ []) l0.0.asks l0.1 l0.6 in
    let p1 = parts l0.1 l1.0.asks l1.1 l1.6 in
    let p2 = parts l1.1 l2.0.asks l2.1 l2.6 in
    let p3 = parts l2.1 l3.0.asks l3.1 l3.6 in
    let p4 = parts l3.1 l4.0.asks l4.1 l4.6 in
    let p5 = parts l4.1 l5.0.asks l5.1 l5.6 in
    let p6 = parts l5.1 l6.0.asks l6.1 l6.6 in
    omega (arith, first, second, p0, p1, p2, p3, p4, p5, p6)
