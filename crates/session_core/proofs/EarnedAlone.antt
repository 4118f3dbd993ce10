-- What calls of sessions over one journal make true.
use Rattle.std.proofs.Common.{◌≡◌, ◌≤◌, ◌+◌, ◌⊎◌, inl, inr, ℕ, zero, suc, List, [], ◌∷◌, ◌++◌, length, take, true, false, Option, Some, None, Result, Ok, Err, refl, sym, ap, subst, arith, ◌∙◌, append_assoc, length-append, slice_set}
use Rattle.std.proofs.lemmas.List.{append-nil}
use Rattle.std.proofs.Math.Seq.{take-append_seam}
use Rattle.std.specs.List.{flat_map}
use Rattle.std.specs.Prelude.{slice_get, unwrap_or}
use Rattle.nal_rules.specs.Asking.{IsAsked}
use Rattle.nal_rules.specs.Verdicts.{IsVerdict}
use Rattle.object_table.specs.Objects.{number_of}
use Rattle.policy_history.specs.declared.heads.Head.{Head}
use Rattle.policy_history.specs.declared.events.Due.{Due}
use Rattle.policy_history.specs.declared.events.Refusal.{Refusal}
use Rattle.policy_history.specs.Events.{EntryTree, EventTree, admitted}
use Rattle.policy_history.specs.Judged.{case_at}
use Rattle.policy_history.specs.Machine.{replay}
use Rattle.policy_history.specs.Values.{decision}
use Rattle.authority_ask.specs.Panels.{Told}
use Rattle.policy_history.specs.States.{State}
use Rattle.guard_core.specs.Judging.{IsJudged, answers_in, verdict_of}
use Rattle.guard_core.specs.declared.findings.Finding.{Finding}
use Rattle.guard_core.specs.declared.findings.Finding.TheVariants.{Allowed as AllowedFinding, Denied as DeniedFinding}
use Rattle.session_wire.specs.declared.requests.Request.{Request}
use Rattle.session_wire.specs.declared.requests.Request.TheVariants.{Hello, Call, See}
use Rattle.session_wire.specs.declared.replies.Reply.{Reply}
use Rattle.session_wire.specs.declared.replies.Reply.TheVariants.{Welcome, Allowed, Denied}
use Rattle.session_core.specs.Answers.{HasOutcome, IsAnswer, IsCalledOn, IsGivenUp, Outcome, answered, changed, down, found, found_reply, given_up}
use Rattle.session_core.specs.Earned.{IsAskingOf, IsEarned, IsRefuted, IsWelcomedIn, TellsWhatIsTrueAlone}
use Rattle.session_core.specs.Sessions.{Point, Told1, admitted_in, behind}
use Rattle.session_core.specs.Calls.{state_at}
use Rattle.session_core.specs.declared.lines.Asking.{Asking}
use Rattle.session_core.proofs.EarnedCalls.{IsFound, earned_of, refuted_of}
use Rattle.session_core.proofs.EarnedReplies.{greeted_who, refuted_as}
use Rattle.session_core.proofs.RisingAlone.{points_rise_alone, seen_lasts_alone}
use Rattle.session_core.proofs.ToldRefusals.{greeting_no_verdict, is_verdict_reply}

-- ---- One request

-- the request is a call that was judged behind these entries
record IsJudgedNow (h : Head) (es : List EntryTree) (who : Option ℕ) (request : Request) (outcome : Outcome) : Type 0 where
  principal : ℕ
  op : List ℕ
  object : List ℕ
  arg : ℕ
  number : ℕ
  finding : Finding
  who_is : who ≡ Some principal
  call : request ≡ Call op object arg
  object_is : number_of (replay h es).objects object ≡ Some number
  judged : IsJudged (case_at h (replay h es) principal op number) outcome.asks finding
  reply_is : outcome.reply ≡ found_reply (length es) finding

-- an outcome with a reply of another kind tells no verdict
no_verdict_in : {outcome of : Outcome} {A : Type 0} → is_verdict_reply outcome.reply ≡ true → outcome ≡ of → is_verdict_reply of.reply ≡ false → A
no_verdict_in tells is off = absurd (cc (tells, ap (λ (o : Outcome). is_verdict_reply o.reply) is, off))

changed_no_verdict : (es : List EntryTree) (session p : ℕ) (e : EventTree) (r : Result Due Refusal) → is_verdict_reply (changed es session p e r).reply ≡ false
changed_no_verdict es session p e (Ok due) = refl
changed_no_verdict es session p e (Err refusal) = refl

module _ (h : Head) (es : List EntryTree) (session : ℕ) (outcome : Outcome) where
  called_now : (p : ℕ) (op object : List ℕ) (arg : ℕ) (number : Option ℕ) → is_verdict_reply outcome.reply ≡ true → number_of (replay h es).objects object ≡ number → IsCalledOn h es p op number outcome
      → IsJudgedNow h es (Some p) (Call op object arg) outcome
  called_now p op object arg None tells e is = no_verdict_in tells is refl
  called_now p op object arg (Some n) tells e (found finding judged is) = record {
    principal = p;
    op = op;
    object = object;
    arg = arg;
    number = n;
    finding = finding;
    who_is = refl;
    call = refl;
    object_is = e;
    judged = judged;
    reply_is = ap (λ (o : Outcome). o.reply) is;
  }
  called_now p op object arg (Some n) tells e (down k broken is) = no_verdict_in tells is refl

  answered_now : (who : Option ℕ) (request : Request) → is_verdict_reply outcome.reply ≡ true → IsAnswer h es session who request outcome → IsJudgedNow h es who request outcome
  answered_now who (Hello name secret) tells is = no_verdict_in tells is (greeting_no_verdict (length es) session who (admitted h.principals name secret))
  answered_now (Some p) (Call op object arg) tells is = called_now p op object arg (number_of (replay h es).objects object) tells refl is
  answered_now None (Call op object arg) tells is = no_verdict_in tells is refl
  answered_now None _ tells is = no_verdict_in tells is refl
  answered_now (Some p) (See k) tells (inl is) = no_verdict_in tells is.1 refl
  answered_now (Some p) (See k) tells (inr is) = no_verdict_in tells is.1 refl
  answered_now (Some p) _ tells is = no_verdict_in tells is.2 (changed_no_verdict es session p is.0 (decision h (replay h es) session p is.0))

  given_up_now : (who : Option ℕ) (request : Request) {A : Type 0} → is_verdict_reply outcome.reply ≡ true → IsGivenUp h es who request outcome → A
  given_up_now (Some p) (Call op object arg) tells is = no_verdict_in tells is.1 refl
  given_up_now None (Call op object arg) tells is = no_verdict_in tells is refl
  given_up_now (Some p) _ tells is = no_verdict_in tells is refl
  given_up_now None _ tells is = no_verdict_in tells is refl

  judged_now : (who : Option ℕ) (request : Request) → is_verdict_reply outcome.reply ≡ true → HasOutcome h es session who request outcome → IsJudgedNow h es who request outcome
  judged_now who request tells (answered is) = answered_now who request tells is
  judged_now who request tells (given_up wants is) = given_up_now who request tells is

  -- whoever is admitted afterwards was so before, or is welcomed now
  abbrev CameInNow : Option ℕ → Request → ℕ → Type 0
  CameInNow who request p = (who ≡ Some p) ⊎ ((name secret : List ℕ) × (request ≡ Hello name secret) × (outcome.reply ≡ Welcome session (length es)) × (admitted h.principals name secret ≡ Some p))

  same_now : (who : Option ℕ) (request : Request) (p : ℕ) {of : Outcome} → outcome ≡ of → of.who ≡ who → outcome.who ≡ Some p → CameInNow who request p
  same_now who request p is same after = inl (sym same ∙ sym (ap (λ (o : Outcome). o.who) is) ∙ after)

  called_who : (p : ℕ) (request : Request) (q : ℕ) (op object : List ℕ) (number : Option ℕ) → IsCalledOn h es p op number outcome → outcome.who ≡ Some q → CameInNow (Some p) request q
  called_who p request q op object None is after = same_now (Some p) request q is refl after
  called_who p request q op object (Some n) (found finding judged is) after = same_now (Some p) request q is refl after
  called_who p request q op object (Some n) (down k broken is) after = same_now (Some p) request q is refl after

  changed_who : (p : ℕ) (e : EventTree) (r : Result Due Refusal) → (changed es session p e r).who ≡ Some p
  changed_who p e (Ok due) = refl
  changed_who p e (Err refusal) = refl

  answered_who : (who : Option ℕ) (request : Request) (p : ℕ) → IsAnswer h es session who request outcome → outcome.who ≡ Some p → CameInNow who request p
  answered_who who (Hello name secret) p is after =
      let found = admitted h.principals name secret in
      elim (greeted_who (length es) session who found p (sym (ap (λ (o : Outcome). o.who) is) ∙ after)) [
        | inl same ↦ inl same
        | inr new ↦ inr (name, secret, refl, ap (λ (o : Outcome). o.reply) is ∙ new.0, new.1)
      ]
  answered_who (Some q) (Call op object arg) p is after = called_who q (Call op object arg) p op object (number_of (replay h es).objects object) is after
  answered_who None (Call op object arg) p is after = same_now None (Call op object arg) p is refl after
  answered_who None request p is after = same_now None request p is refl after
  answered_who (Some q) (See k) p (inl is) after = same_now (Some q) (See k) p is.1 refl after
  answered_who (Some q) (See k) p (inr is) after = same_now (Some q) (See k) p is.1 refl after
  answered_who (Some q) request p is after = same_now (Some q) request p is.2 (changed_who q is.0 (decision h (replay h es) session q is.0)) after

  given_up_who : (who : Option ℕ) (request : Request) (p : ℕ) → IsGivenUp h es who request outcome → outcome.who ≡ Some p → CameInNow who request p
  given_up_who (Some q) (Call op object arg) p is after = same_now (Some q) (Call op object arg) p is.1 refl after
  given_up_who None (Call op object arg) p is after = same_now None (Call op object arg) p is refl after
  given_up_who (Some q) request p is after = same_now (Some q) request p is refl after
  given_up_who None request p is after = same_now None request p is refl after

  who_now : (who : Option ℕ) (request : Request) (p : ℕ) → HasOutcome h es session who request outcome → outcome.who ≡ Some p → CameInNow who request p
  who_now who request p (answered is) after = answered_who who request p is after
  who_now who request p (given_up wants is) after = given_up_who who request p is after

-- ---- All requests

-- what one place of a list holds after another one was set
set_place : (xs : List (Option ℕ)) (i j : ℕ) (w : Option ℕ) (p : ℕ) → unwrap_or (slice_get (slice_set xs i w) j) None ≡ Some p → ((i ≡ j) × (w ≡ Some p)) ⊎ (unwrap_or (slice_get xs j) None ≡ Some p)
set_place [] i j w p e = inr e
set_place (x ∷ xs) zero zero w p e = inl (refl, e)
set_place (x ∷ xs) zero (suc j) w p e = inr e
set_place (x ∷ xs) (suc i) zero w p e = inr e
set_place (x ∷ xs) (suc i) (suc j) w p e = elim (set_place xs i j w p e) [ inl here ↦ inl (ap suc here.0, here.1) | inr there ↦ inr there ]

-- the entries only grow
entries_grow : (h : Head) (first : ℕ) (point last : Point) (askings : List Asking) (replies : List Reply) (asks : List Told) → Told1 h first point askings replies asks last
    → (more : List EntryTree) × (last.entries ≡ point.entries ++ more)
entries_grow h first point last [] [] asks told = ([], ap (λ (p : Point). p.entries) told.1 ∙ sym (append-nil point.entries))
entries_grow h first point last [] (r ∷ rs) asks told = absurd told
entries_grow h first point last (q ∷ qs) [] asks told = absurd told
entries_grow h first point last (q ∷ qs) (r ∷ rs) asks told =
    let later = entries_grow h first (behind point q.place told.0) last qs rs told.1 told.5 in
    (told.0.added ++ later.0, later.1 ∙ append_assoc point.entries told.0.added later.0)

-- a case that was judged in a state is that of the point which has this state
found_in : (h : Head) (es : List EntryTree) (p : ℕ) (op object : List ℕ) (at n : ℕ) (asked : List Told) (finding : Finding) (st : State) → st ≡ state_at h es at → number_of st.objects object ≡ Some n
    → IsJudged (case_at h st p op n) asked finding → IsFound h es p op object at asked (verdict_of finding)
found_in h es p op object at n asked finding st then object_is judged = record {
  number = n;
  asks = judged.asks;
  object_is = subst (λ (s : State). number_of s.objects object ≡ Some n) then object_is;
  asked_is = judged.told_is;
  is_asked = subst (λ (s : State). IsAsked (case_at h s p op n) (answers_in asked) judged.asks) then judged.asked;
  is_verdict = subst (λ (s : State). IsVerdict (case_at h s p op n) (answers_in asked) (verdict_of finding)) then judged.verdict;
}

-- what was asked for each request
abbrev asked_in : (h : Head) (first : ℕ) (point last : Point) (askings : List Asking) (replies : List Reply) (asks : List Told) → Told1 h first point askings replies asks last → List (List Told)
asked_in h first point last [] [] asks told = []
asked_in h first point last [] (r ∷ rs) asks told = absurd told
asked_in h first point last (q ∷ qs) [] asks told = absurd told
asked_in h first point last (q ∷ qs) (r ∷ rs) asks told = told.0.asks ∷ asked_in h first (behind point q.place told.0) last qs rs told.1 told.5

asked_all : (h : Head) (first : ℕ) (point last : Point) (askings : List Asking) (replies : List Reply) (asks : List Told) (told : Told1 h first point askings replies asks last)
    → asks ≡ flat_map (λ (mine : List Told). mine) (asked_in h first point last askings replies asks told)
asked_all h first point last [] [] asks told = told.0
asked_all h first point last [] (r ∷ rs) asks told = absurd told
asked_all h first point last (q ∷ qs) [] asks told = absurd told
asked_all h first point last (q ∷ qs) (r ∷ rs) asks told =
    told.4 ∙ ap (λ (later : List Told). told.0.asks ++ later) (asked_all h first (behind point q.place told.0) last qs rs told.1 told.5)

record CalledAlone (h : Head) (first : ℕ) (point : Point) (es : List EntryTree) (askings : List Asking) (replies : List Reply) (asked_for : List (List Told)) (i : ℕ) (reply : Reply) : Type 0 where
  principal : ℕ
  place : ℕ
  op : List ℕ
  object : List ℕ
  arg : ℕ
  asked : List Told
  at : ℕ
  finding : Finding
  call : slice_get askings i ≡ Some (record { place = place; request = Call op object arg })
  who : (admitted_in point place ≡ Some principal) ⊎ IsWelcomedIn h first askings replies i place principal
  asked_is : slice_get asked_for i ≡ Some asked
  reply_is : reply ≡ found_reply at finding
  within : at ≤ length es
  told : IsFound h es principal op object at asked (verdict_of finding)

welcomed_in_later : {h : Head} {first : ℕ} {asking : Asking} {reply : Reply} {askings : List Asking} {replies : List Reply} {i place p : ℕ} → IsWelcomedIn h first askings replies i place p
    → IsWelcomedIn h first (asking ∷ askings) (reply ∷ replies) (suc i) place p
welcomed_in_later w = record { number = suc w.number; at = w.at; name = w.name; secret = w.secret; before = omega (arith, w.before); hello = w.hello; welcome = w.welcome; admitted_is = w.admitted_is }

-- whoever is admitted in a place behind the first request was so before, or was welcomed by it
admitted_later : (h : Head) (first : ℕ) (point : Point) (q : Asking) (outcome : Outcome) (r : Reply) (qs : List Asking) (rs : List Reply) (i place p : ℕ) → HasOutcome h point.entries (first + q.place) (admitted_in point q.place) q.request outcome
    → outcome.reply ≡ r → admitted_in (behind point q.place outcome) place ≡ Some p → (admitted_in point place ≡ Some p) ⊎ IsWelcomedIn h first (q ∷ qs) (r ∷ rs) (suc i) place p
admitted_later h first point q outcome r qs rs i place p has same after = elim (set_place point.admitted q.place place outcome.who p after) [
  | inl here ↦ elim (who_now h point.entries (first + q.place) outcome (admitted_in point q.place) q.request p has here.1) [
    | inl who ↦ inl (subst (λ (x : ℕ). admitted_in point x ≡ Some p) here.0 who)
    | inr new ↦ inr record {
      number = 0;
      at = length point.entries;
      name = new.0;
      secret = new.1;
      before = omega arith;
      hello = ap (λ (x : Request). Some (record { place = q.place; request = x })) new.2 ∙ ap (λ (x : ℕ). Some (record { place = x; request = Hello new.0 new.1 })) here.0;
      welcome = ap Some (sym same ∙ new.3) ∙ ap (λ (x : ℕ). Some (Welcome (first + x) (length point.entries))) here.0;
      admitted_is = new.4;
    }
  ]
  | inr there ↦ inl there
]

called_alone : (h : Head) (first : ℕ) (point last : Point) (askings : List Asking) (replies : List Reply) (asks : List Told) (told : Told1 h first point askings replies asks last)
    (i : ℕ) (reply : Reply) → slice_get replies i ≡ Some reply → is_verdict_reply reply ≡ true
    → CalledAlone h first point last.entries askings replies (asked_in h first point last askings replies asks told) i reply
called_alone h first point last [] [] asks told i reply here tells = absurd (cc here)
called_alone h first point last [] (r ∷ rs) asks told i reply here tells = absurd told
called_alone h first point last (q ∷ qs) [] asks told i reply here tells = absurd (cc here)
called_alone h first point last (q ∷ qs) (r ∷ rs) asks told zero reply here tells =
    let outcome = told.0 in
    let same : outcome.reply ≡ reply = cc (told.3, here) in
    let j = judged_now h point.entries (first + q.place) outcome (admitted_in point q.place) q.request (ap is_verdict_reply same ∙ tells) told.2 in
    let grows = entries_grow h first point last (q ∷ qs) (r ∷ rs) asks told in
    let front : take (length point.entries) last.entries ≡ point.entries = ap (take (length point.entries)) grows.1 ∙ take-append_seam point.entries grows.0 in
    let then : replay h point.entries ≡ replay h (take (length point.entries) last.entries) = ap (replay h) (sym front) in
    record {
      principal = j.principal;
      place = q.place;
      op = j.op;
      object = j.object;
      arg = j.arg;
      asked = outcome.asks;
      at = length point.entries;
      finding = j.finding;
      call = ap (λ (x : Request). Some (record { place = q.place; request = x })) j.call;
      who = inl j.who_is;
      asked_is = refl;
      reply_is = sym same ∙ j.reply_is;
      within = omega (arith, ap length grows.1, length-append point.entries grows.0);
      told = found_in h last.entries j.principal j.op j.object (length point.entries) j.number outcome.asks j.finding (replay h point.entries) then j.object_is j.judged;
    }
called_alone h first point last (q ∷ qs) (r ∷ rs) asks told (suc i) reply here tells =
    let outcome = told.0 in
    let c = called_alone h first (behind point q.place outcome) last qs rs told.1 told.5 i reply here tells in
    record {
      principal = c.principal;
      place = c.place;
      op = c.op;
      object = c.object;
      arg = c.arg;
      asked = c.asked;
      at = c.at;
      finding = c.finding;
      call = c.call;
      who = elim c.who [
        | inl who ↦ admitted_later h first point q outcome r qs rs i c.place c.principal told.2 told.3 who
        | inr w ↦ inr (welcomed_in_later w)
      ];
      asked_is = c.asked_is;
      reply_is = c.reply_is;
      within = c.within;
      told = c.told;
    }

module _ {h : Head} {first : ℕ} {point : Point} {es : List EntryTree} {askings : List Asking} {replies : List Reply} {asked_for : List (List Told)} (nobody : (place : ℕ) → admitted_in point place ≡ None) where
  welcomed_alone : {i : ℕ} {reply : Reply} (c : CalledAlone h first point es askings replies asked_for i reply) → IsWelcomedIn h first askings replies i c.place c.principal
  welcomed_alone c = elim c.who [ inl who ↦ absurd (cc (who, nobody c.place)) | inr w ↦ w ]

  allowed_alone : {i at hit value : ℕ} (c : CalledAlone h first point es askings replies asked_for i (Allowed at hit value)) (finding : Finding) → Allowed at hit value ≡ found_reply c.at finding
      → IsFound h es c.principal c.op c.object c.at c.asked (verdict_of finding) → IsAskingOf h first es askings replies asked_for i at (λ p op object asked. IsEarned h es p op object at asked)
  allowed_alone c (DeniedFinding reason) is told = absurd (cc is)
  allowed_alone {i} {at} c (AllowedFinding count) is told =
      let same : c.at ≡ at = cc is in
      record {
        principal = c.principal;
        place = c.place;
        op = c.op;
        object = c.object;
        arg = c.arg;
        asked = c.asked;
        call = c.call;
        welcomed = welcomed_alone c;
        asked_is = c.asked_is;
        within = omega (arith, c.within, same);
        truth = subst (λ (n : ℕ). IsEarned h es c.principal c.op c.object n c.asked) same (earned_of told);
      }

  denied_alone : {i at cause line fault : ℕ} (c : CalledAlone h first point es askings replies asked_for i (Denied at cause line fault)) (finding : Finding) → Denied at cause line fault ≡ found_reply c.at finding
      → IsFound h es c.principal c.op c.object c.at c.asked (verdict_of finding) → IsAskingOf h first es askings replies asked_for i at (λ p op object asked. IsRefuted h es p op object at asked cause line fault)
  denied_alone c (AllowedFinding count) is told = absurd (cc is)
  denied_alone {i} {at} c (DeniedFinding reason) is told =
      let same : c.at ≡ at = cc is in
      record {
        principal = c.principal;
        place = c.place;
        op = c.op;
        object = c.object;
        arg = c.arg;
        asked = c.asked;
        call = c.call;
        welcomed = welcomed_alone c;
        asked_is = c.asked_is;
        within = omega (arith, c.within, same);
        truth = refuted_as (sym same) (cc is) (cc is) (cc is) (refuted_of reason told);
      }

pub tells_what_is_true_alone : TellsWhatIsTrueAlone
tells_what_is_true_alone h first point last askings replies asks nobody told = record {
  asked_for = asked_in h first point last askings replies asks told;
  asks_are = asked_all h first point last askings replies asks told;
  allowed = λ i at hit value here. let c = called_alone h first point last askings replies asks told i (Allowed at hit value) here refl in allowed_alone nobody c c.finding c.reply_is c.told;
  denied = λ i at cause line fault here. let c = called_alone h first point last askings replies asks told i (Denied at cause line fault) here refl in denied_alone nobody c c.finding c.reply_is c.told;
  points = points_rise_alone h first point last askings replies asks told;
  seen = seen_lasts_alone h first point last askings replies asks told;
}
