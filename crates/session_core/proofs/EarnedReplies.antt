-- What all calls of a session make true.
use Rattle.std.proofs.Common.{◌≡◌, ◌≤◌, ◌⊎◌, inl, inr, ℕ, zero, suc, List, [], ◌∷◌, ◌++◌, length, true, false, Option, Some, None, refl, sym, ap, subst, arith, ◌∙◌, append_assoc}
use Rattle.std.specs.List.{flat_map}
use Rattle.std.specs.Prelude.{slice_get}
use Rattle.nal_rules.specs.declared.verdicts.Verdict.{Verdict}
use Rattle.nal_rules.specs.declared.verdicts.Verdict.TheVariants.{Allowed as AllowedVerdict, Denied as DeniedVerdict}
use Rattle.policy_history.specs.declared.heads.Head.{Head}
use Rattle.policy_history.specs.Events.{EntryTree, EventTree, admitted}
use Rattle.authority_ask.specs.Panels.{Told as Ask}
use Rattle.session_wire.specs.declared.requests.Request.{Request}
use Rattle.session_wire.specs.declared.requests.Request.TheVariants.{Hello, Call}
use Rattle.session_wire.specs.declared.replies.Reply.{Reply}
use Rattle.session_wire.specs.declared.replies.Reply.TheVariants.{Welcome, Allowed, Denied}
use Rattle.verdict_words.specs.declared.views.Item.{Item}
use Rattle.session_core.specs.Answers.{greeted}
use Rattle.session_core.specs.Standing.{Standing, beginning}
use Rattle.session_core.specs.Calls.{Calls, Judges, Turn, verdict_reply}
use Rattle.session_core.specs.Unanswered.{GivesUp, GoesUnrecorded}
use Rattle.session_core.specs.Changes.{Changes}
use Rattle.session_core.specs.Told.{Answers, IsTold, Leads}
use Rattle.session_core.specs.Calls as calling
use Rattle.session_core.specs.Unanswered as unanswered
use Rattle.session_core.specs.Changes as changing
use Rattle.session_core.specs.Told as told
use Rattle.session_core.specs.Earned.{IsCallOf, IsEarned, IsRefuted, IsWelcomed, TellsWhatIsTrue}
use Rattle.session_core.proofs.EarnedCalls.{IsFound, earned_of, found_of, refuted_of}
use Rattle.session_core.proofs.ToldRefusals.{IsVerdictOf, call_verdict, gives_up_silent, greeting_no_verdict, is_verdict_reply, misses_low, other_kind}
use Rattle.session_core.proofs.ToldLaws.{unrecorded_reply}

-- ---- What a request leaves of a session

-- a turn leaves the length that was seen last, or a later one
judges_low : {h : Head} {st : _} {before : Standing} {p : ℕ} {op object : List ℕ} {arg n : ℕ} {looked : List Item} {turn : Turn} → before.low ≤ n → Judges h st before p op object arg n looked turn → before.low ≤ turn.after.low
judges_low late (calling.no_object none is) = omega (arith, late, ap (λ (t : Turn). t.after.low) is)
judges_low late (calling.judged k value finding kept ran object_is judged keeps runs is) = omega (arith, late, ap (λ (t : Turn). t.after.low) is)
judges_low late (calling.down k line object_is broken is) = omega (arith, late, ap (λ (t : Turn). t.after.low) is)

changes_low : {h : Head} {es : List EntryTree} {s : ℕ} {before : Standing} {p : ℕ} {e : EventTree} {turn : Turn} → Changes h es s before p e turn → before.low ≤ turn.after.low
changes_low (changing.refused m refusal met seen decided meets is) = omega (arith, seen.0, ap (λ (t : Turn). t.after.low) is)
changes_low (changing.not_recorded m due met seen decided meets is) = omega (arith, seen.0, ap (λ (t : Turn). t.after.low) is)
changes_low (changing.done m due met seen decided got meets is) = omega (arith, seen.0, ap (λ (t : Turn). t.after.low) is)

calls_low : {h : Head} {es : List EntryTree} {before : Standing} {p : ℕ} {op object : List ℕ} {arg : ℕ} {turn : Turn} → Calls h es before p op object arg turn → before.low ≤ turn.after.low
calls_low (calling.hit n place slot of_object of_store value held verdict ran looks makes stands right runs is) = omega (arith, looks.seen.0, ap (λ (t : Turn). t.after.low) is)
calls_low (calling.snapped low n looked misses seen judges) = let least = misses_low misses in judges_low (omega (arith, least, seen.0)) judges

gives_up_low : {h : Head} {es : List EntryTree} {before : Standing} {p : ℕ} {op object : List ℕ} {turn : Turn} → GivesUp h es before p op object turn → before.low ≤ turn.after.low
gives_up_low (unanswered.looked low steps misses is) = let least = misses_low misses in omega (arith, least, ap (λ (t : Turn). t.after.low) is)
gives_up_low (unanswered.met low n steps misses seen asked is) = let least = misses_low misses in omega (arith, least, seen.0, ap (λ (t : Turn). t.after.low) is)

unrecorded_low : {h : Head} {es : List EntryTree} {before : Standing} {p : ℕ} {op object : List ℕ} {turn : Turn} → GoesUnrecorded h es before p op object turn → before.low ≤ turn.after.low
unrecorded_low (unanswered.hit_unrecorded n place slot of_object of_store held looks makes is) = omega (arith, looks.seen.0, ap (λ (t : Turn). t.after.low) is)
unrecorded_low (unanswered.snap_unrecorded low n steps misses seen asked is) = let least = misses_low misses in omega (arith, least, seen.0, ap (λ (t : Turn). t.after.low) is)
unrecorded_low (unanswered.later_unrecorded is) = omega (arith, ap (λ (t : Turn). t.after.low) is)

pub answers_low : {h : Head} {es : List EntryTree} {s : ℕ} {before : Standing} {request : Request} {turn : Turn} → Answers h es s before request turn → before.low ≤ turn.after.low
answers_low (told.hello name secret greeting is greeted_is turn_is) = omega (arith, ap (λ (t : Turn). t.after.low) turn_is)
answers_low (told.early nobody other is) = omega (arith, ap (λ (t : Turn). t.after.low) is)
answers_low (told.change p e who event changes) = changes_low changes
answers_low (told.call p op object arg who is calls) = calls_low calls
answers_low (told.given_up wants is) = omega (arith, ap (λ (t : Turn). t.after.low) is)
answers_low (told.call_given_up p op object arg who is gives_up) = gives_up_low gives_up
answers_low (told.call_unrecorded p op object arg who is goes) = unrecorded_low goes
answers_low (told.see p k who is (changing.seen m seen there turn_is)) = omega (arith, seen.0, ap (λ (t : Turn). t.after.low) turn_is)
answers_low (told.see p k who is (changing.not_yet m seen far turn_is)) = omega (arith, seen.0, ap (λ (t : Turn). t.after.low) turn_is)

-- ---- Who is admitted

-- the request is a hello with the name and the secret of principal p, who is welcomed
record Welcomes (h : Head) (s : ℕ) (request : Request) (reply : Reply) (p : ℕ) : Type 0 where
  name : List ℕ
  secret : List ℕ
  at : ℕ
  hello : request ≡ Hello name secret
  welcome : reply ≡ Welcome s at
  admitted_is : admitted h.principals name secret ≡ Some p

pub greeted_who : (at s : ℕ) (who found : Option ℕ) (p : ℕ) → (greeted at s who found).who ≡ Some p → (who ≡ Some p) ⊎ (((greeted at s who found).reply ≡ Welcome s at) × (found ≡ Some p))
greeted_who at s (Some q) found p e = inl e
greeted_who at s None None p e = absurd (cc e)
greeted_who at s None (Some q) p e = inr (refl, e)

same_who : (before : Standing) {turn of : Turn} {p : ℕ} {A : Type 0} → turn ≡ of → of.after.who ≡ before.who → turn.after.who ≡ Some p → (before.who ≡ Some p) ⊎ A
same_who before is same who = inl (sym same ∙ sym (ap (λ (t : Turn). t.after.who) is) ∙ who)

module _ (h : Head) (es : List EntryTree) (s : ℕ) (before : Standing) (request : Request) (turn : Turn) (p : ℕ) (who : turn.after.who ≡ Some p) where
  abbrev CameIn : Type 0
  CameIn = (before.who ≡ Some p) ⊎ Welcomes h s request turn.reply p

  judges_who : {st : _} {q : ℕ} {op object : List ℕ} {arg n : ℕ} {looked : List Item} → Judges h st before q op object arg n looked turn → CameIn
  judges_who (calling.no_object none is) = same_who before is refl who
  judges_who (calling.judged k value finding kept ran object_is judged keeps runs is) = same_who before is refl who
  judges_who (calling.down k line object_is broken is) = same_who before is refl who

  calls_who : {q : ℕ} {op object : List ℕ} {arg : ℕ} → Calls h es before q op object arg turn → CameIn
  calls_who (calling.hit n place slot of_object of_store value held verdict ran looks makes stands right runs is) = same_who before is refl who
  calls_who (calling.snapped low n looked misses seen judges) = judges_who judges

  changes_who : {q : ℕ} {e : EventTree} → Changes h es s before q e turn → CameIn
  changes_who (changing.refused m refusal met seen decided meets is) = same_who before is refl who
  changes_who (changing.not_recorded m due met seen decided meets is) = same_who before is refl who
  changes_who (changing.done m due met seen decided got meets is) = same_who before is refl who

  gives_up_who : {q : ℕ} {op object : List ℕ} → GivesUp h es before q op object turn → CameIn
  gives_up_who (unanswered.looked low steps misses is) = same_who before is refl who
  gives_up_who (unanswered.met low n steps misses seen asked is) = same_who before is refl who

  unrecorded_who : {q : ℕ} {op object : List ℕ} → GoesUnrecorded h es before q op object turn → CameIn
  unrecorded_who (unanswered.hit_unrecorded n place slot of_object of_store held looks makes is) = same_who before is refl who
  unrecorded_who (unanswered.snap_unrecorded low n steps misses seen asked is) = same_who before is refl who
  unrecorded_who (unanswered.later_unrecorded is) = same_who before is refl who

  came_in : Answers h es s before request turn → CameIn
  came_in (told.hello name secret greeting is greeted_is turn_is) =
      let found = admitted h.principals name secret in
      let here : (greeted before.low s before.who found).who ≡ Some p = sym (ap (λ g. g.who) greeted_is) ∙ sym (ap (λ (t : Turn). t.after.who) turn_is) ∙ who in
      elim (greeted_who before.low s before.who found p here) [
        | inl same ↦ inl same
        | inr new ↦ inr record {
          name = name;
          secret = secret;
          at = before.low;
          hello = is;
          welcome = ap (λ (t : Turn). t.reply) turn_is ∙ ap (λ g. g.reply) greeted_is ∙ new.0;
          admitted_is = new.1;
        }
      ]
  came_in (told.early nobody other is) = same_who before is refl who
  came_in (told.change q e who_is event changes) = changes_who changes
  came_in (told.call q op object arg who_is is calls) = calls_who calls
  came_in (told.given_up wants is) = same_who before is refl who
  came_in (told.call_given_up q op object arg who_is is gives_up) = gives_up_who gives_up
  came_in (told.call_unrecorded q op object arg who_is is goes) = unrecorded_who goes
  came_in (told.see q k who_is is (changing.seen m seen there turn_is)) = same_who before turn_is refl who
  came_in (told.see q k who_is is (changing.not_yet m seen far turn_is)) = same_who before turn_is refl who

-- ---- The turn that a verdict is told in

-- a turn with a reply of another kind tells no verdict
no_verdict_told : {turn of : Turn} {A : Type 0} → is_verdict_reply turn.reply ≡ true → turn ≡ of → is_verdict_reply of.reply ≡ false → A
no_verdict_told tells is off = absurd (other_kind is_verdict_reply is refl tells off)

changes_no_verdict : {h : Head} {es : List EntryTree} {s : ℕ} {before : Standing} {p : ℕ} {e : EventTree} {turn : Turn} {A : Type 0} → is_verdict_reply turn.reply ≡ true → Changes h es s before p e turn → A
changes_no_verdict tells (changing.refused m refusal met seen decided meets is) = no_verdict_told tells is refl
changes_no_verdict tells (changing.not_recorded m due met seen decided meets is) = no_verdict_told tells is refl
changes_no_verdict tells (changing.done m due met seen decided got meets is) = no_verdict_told tells is refl

record CallTurn (h : Head) (es : List EntryTree) (before : Standing) (request : Request) (turn : Turn) : Type 0 where
  principal : ℕ
  op : List ℕ
  object : List ℕ
  arg : ℕ
  who : before.who ≡ Some principal
  call : request ≡ Call op object arg
  verdict_turn : IsVerdictOf h es before principal op object turn

turn_of : {h : Head} {es : List EntryTree} {s : ℕ} {before : Standing} {request : Request} {turn : Turn} → is_verdict_reply turn.reply ≡ true → Answers h es s before request turn → CallTurn h es before request turn
turn_of {h} {es} {s} {before} {request} {turn} tells (told.hello name secret greeting is greeted_is turn_is) =
    no_verdict_told tells turn_is (ap (λ g. is_verdict_reply g.reply) greeted_is ∙ greeting_no_verdict before.low s before.who (admitted h.principals name secret))
turn_of tells (told.early nobody other is) = no_verdict_told tells is refl
turn_of tells (told.change p e who event changes) = changes_no_verdict tells changes
turn_of {h} {es} {s} {before} {request} {turn} tells (told.call p op object arg who is calls) = record {
  principal = p;
  op = op;
  object = object;
  arg = arg;
  who = who;
  call = is;
  verdict_turn = call_verdict h es before turn p op object arg tells calls;
}
turn_of tells (told.given_up wants is) = no_verdict_told tells is refl
turn_of tells (told.call_given_up p op object arg who is gives_up) = absurd (cc (tells, ap is_verdict_reply (gives_up_silent gives_up)))
turn_of tells (told.call_unrecorded p op object arg who is goes) = absurd (cc (tells, ap is_verdict_reply (unrecorded_reply goes).1))
turn_of tells (told.see p k who is (changing.seen m seen there turn_is)) = no_verdict_told tells turn_is refl
turn_of tells (told.see p k who is (changing.not_yet m seen far turn_is)) = no_verdict_told tells turn_is refl

-- ---- A whole session

-- what was asked for each request
abbrev asked_in : (h : Head) (es : List EntryTree) (s : ℕ) (requests : List Request) (replies : List Reply) (before : Standing) (asks : List Ask) (steps : List Item) (added : List EntryTree) (last : Standing)
    → Leads h es s before requests replies asks steps added last → List (List Ask)
asked_in h es s [] [] before asks steps added last leads = []
asked_in h es s [] (r ∷ rs) before asks steps added last leads = absurd leads
asked_in h es s (q ∷ qs) [] before asks steps added last leads = absurd leads
asked_in h es s (q ∷ qs) (r ∷ rs) before asks steps added last leads = leads.0.asks ∷ asked_in h es s qs rs leads.0.after leads.1 leads.2 leads.3 last leads.9

asked_all : (h : Head) (es : List EntryTree) (s : ℕ) (requests : List Request) (replies : List Reply) (before : Standing) (asks : List Ask) (steps : List Item) (added : List EntryTree) (last : Standing)
    (leads : Leads h es s before requests replies asks steps added last) → asks ≡ flat_map (λ (mine : List Ask). mine) (asked_in h es s requests replies before asks steps added last leads)
asked_all h es s [] [] before asks steps added last leads = leads.0
asked_all h es s [] (r ∷ rs) before asks steps added last leads = absurd leads
asked_all h es s (q ∷ qs) [] before asks steps added last leads = absurd leads
asked_all h es s (q ∷ qs) (r ∷ rs) before asks steps added last leads =
    leads.6 ∙ ap (λ (later : List Ask). leads.0.asks ++ later) (asked_all h es s qs rs leads.0.after leads.1 leads.2 leads.3 last leads.9)

-- the reply to request i tells a verdict: on the call of a principal who was admitted as the session came here, or was welcomed since
record Called (h : Head) (es : List EntryTree) (s : ℕ) (before : Standing) (requests : List Request) (replies : List Reply) (asked_for : List (List Ask)) (i : ℕ) (reply : Reply) : Type 0 where
  principal : ℕ
  op : List ℕ
  object : List ℕ
  arg : ℕ
  asked : List Ask
  at : ℕ
  hit : ℕ
  value : ℕ
  verdict : Verdict
  call : slice_get requests i ≡ Some (Call op object arg)
  who : (before.who ≡ Some principal) ⊎ IsWelcomed h s requests replies i principal
  asked_is : slice_get asked_for i ≡ Some asked
  reply_is : reply ≡ verdict_reply at hit value verdict
  late : before.low ≤ at
  within : at ≤ length es
  found : IsFound h es principal op object at asked verdict
  kept : hit ≡ 1 → asked ≡ []

-- whoever was admitted behind the first request was so before, or was welcomed by it
welcomed_before : {h : Head} {s : ℕ} (before : Standing) {request : Request} {reply reply' : Reply} {requests : List Request} {replies : List Reply} {i p : ℕ} → reply' ≡ reply
    → (before.who ≡ Some p) ⊎ Welcomes h s request reply' p → (before.who ≡ Some p) ⊎ IsWelcomed h s (request ∷ requests) (reply ∷ replies) (suc i) p
welcomed_before before same (inl who) = inl who
welcomed_before before same (inr w) = inr record {
  place = 0;
  at = w.at;
  name = w.name;
  secret = w.secret;
  before = omega arith;
  hello = ap Some w.hello;
  welcome = ap Some (sym same ∙ w.welcome);
  admitted_is = w.admitted_is;
}

welcomed_later : {h : Head} {s : ℕ} {request : Request} {reply : Reply} {requests : List Request} {replies : List Reply} {i p : ℕ} → IsWelcomed h s requests replies i p
    → IsWelcomed h s (request ∷ requests) (reply ∷ replies) (suc i) p
welcomed_later w = record { place = suc w.place; at = w.at; name = w.name; secret = w.secret; before = omega (arith, w.before); hello = w.hello; welcome = w.welcome; admitted_is = w.admitted_is }

called : {h : Head} {es : List EntryTree} {s : ℕ} (requests : List Request) (replies : List Reply) (before : Standing) (asks : List Ask) (steps : List Item) (added : List EntryTree) (last : Standing)
    (leads : Leads h es s before requests replies asks steps added last) (i : ℕ) (reply : Reply) → slice_get replies i ≡ Some reply → is_verdict_reply reply ≡ true
    → Called h es s before requests replies (asked_in h es s requests replies before asks steps added last leads) i reply
called [] [] before asks steps added last leads i reply none tells = absurd (cc none)
called [] (r ∷ rs) before asks steps added last leads i reply none tells = absurd leads
called (q ∷ qs) [] before asks steps added last leads i reply none tells = absurd (cc none)
called {h} {es} {s} (q ∷ qs) (r ∷ rs) before asks steps added last leads zero reply here tells =
    let turn = leads.0 in
    let reply_is : turn.reply ≡ reply = cc (leads.5, here) in
    let t = turn_of (ap is_verdict_reply reply_is ∙ tells) leads.4 in
    let v = t.verdict_turn in
    record {
      principal = t.principal;
      op = t.op;
      object = t.object;
      arg = t.arg;
      asked = turn.asks;
      at = v.n;
      hit = v.hit;
      value = v.value;
      verdict = v.verdict;
      call = ap Some t.call;
      who = inl t.who;
      asked_is = refl;
      reply_is = sym reply_is ∙ v.reply_is;
      late = v.late;
      within = v.within;
      found = found_of v;
      kept = v.unasked;
    }
called {h} {es} {s} (q ∷ qs) (r ∷ rs) before asks steps added last leads (suc i) reply here tells =
    let turn = leads.0 in
    let c = called qs rs turn.after leads.1 leads.2 leads.3 last leads.9 i reply here tells in
    let least = answers_low leads.4 in
    record {
      principal = c.principal;
      op = c.op;
      object = c.object;
      arg = c.arg;
      asked = c.asked;
      at = c.at;
      hit = c.hit;
      value = c.value;
      verdict = c.verdict;
      call = c.call;
      who = elim c.who [
        | inl who ↦ welcomed_before before leads.5 (came_in h es s before q turn c.principal who leads.4)
        | inr w ↦ inr (welcomed_later w)
      ];
      asked_is = c.asked_is;
      reply_is = c.reply_is;
      late = omega (arith, least, c.late);
      within = c.within;
      found = c.found;
      kept = c.kept;
    }

pub refuted_as : {h : Head} {es : List EntryTree} {p : ℕ} {op object : List ℕ} {asked : List Ask} {at at' cause cause' line line' fault fault' : ℕ} → at' ≡ at → cause' ≡ cause → line' ≡ line → fault' ≡ fault
    → IsRefuted h es p op object at asked cause line fault → IsRefuted h es p op object at' asked cause' line' fault'
refuted_as {h} {es} {p} {op} {object} {asked} {at} {at'} {cause} {cause'} {line} {line'} {fault} {fault'} a c l f refuted =
    subst (λ (x : ℕ). IsRefuted h es p op object at' asked cause' line' x) (sym f)
    (subst (λ (x : ℕ). IsRefuted h es p op object at' asked cause' x fault) (sym l)
    (subst (λ (x : ℕ). IsRefuted h es p op object at' asked x line fault) (sym c)
    (subst (λ (x : ℕ). IsRefuted h es p op object x asked cause line fault) (sym a) refuted)))

module _ {h : Head} {es : List EntryTree} {s low : ℕ} {requests : List Request} {replies : List Reply} {asks : List Ask} {trail : List Item} {last : Standing}
    (t : IsTold h es s low requests replies asks trail last) where
  abbrev asked_here : List (List Ask)
  asked_here = asked_in h es s requests replies (beginning t.first) asks t.steps t.added last t.leads

  welcomed : {i : ℕ} {reply : Reply} (c : Called h es s (beginning t.first) requests replies asked_here i reply) → IsWelcomed h s requests replies i c.principal
  welcomed c = elim c.who [ inl who ↦ absurd (cc who) | inr w ↦ w ]

  allowed_as : {i at hit value : ℕ} (c : Called h es s (beginning t.first) requests replies asked_here i (Allowed at hit value)) (verdict : Verdict) → Allowed at hit value ≡ verdict_reply c.at c.hit c.value verdict
      → IsFound h es c.principal c.op c.object c.at c.asked verdict
      → IsCallOf h es s low requests replies asked_here i at (λ p op object asked. IsEarned h es p op object at asked × (hit ≡ 1 → asked ≡ []))
  allowed_as c (DeniedVerdict reason) is found = absurd (cc is)
  allowed_as {i} {at} {hit} c AllowedVerdict is found =
      let same : c.at ≡ at = cc is in
      let hits : c.hit ≡ hit = cc is in
      let first = t.seen.0 in
      record {
        principal = c.principal;
        op = c.op;
        object = c.object;
        arg = c.arg;
        asked = c.asked;
        call = c.call;
        welcomed = welcomed c;
        asked_is = c.asked_is;
        late = omega (arith, c.late, same, first);
        within = omega (arith, c.within, same);
        truth = (
          subst (λ (n : ℕ). IsEarned h es c.principal c.op c.object n c.asked) same (earned_of found),
          λ one. c.kept (hits ∙ one),
        );
      }

  denied_as : {i at cause line fault : ℕ} (c : Called h es s (beginning t.first) requests replies asked_here i (Denied at cause line fault)) (verdict : Verdict) → Denied at cause line fault ≡ verdict_reply c.at c.hit c.value verdict
      → IsFound h es c.principal c.op c.object c.at c.asked verdict
      → IsCallOf h es s low requests replies asked_here i at (λ p op object asked. IsRefuted h es p op object at asked cause line fault)
  denied_as c AllowedVerdict is found = absurd (cc is)
  denied_as {i} {at} {cause} {line} {fault} c (DeniedVerdict reason) is found =
      let same : c.at ≡ at = cc is in
      let first = t.seen.0 in
      let refuted = refuted_of reason found in
      record {
        principal = c.principal;
        op = c.op;
        object = c.object;
        arg = c.arg;
        asked = c.asked;
        call = c.call;
        welcomed = welcomed c;
        asked_is = c.asked_is;
        late = omega (arith, c.late, same, first);
        within = omega (arith, c.within, same);
        truth = refuted_as (sym same) (cc is) (cc is) (cc is) refuted;
      }

pub tells_what_is_true : TellsWhatIsTrue
tells_what_is_true h es s low requests replies asks trail last t = record {
  asked_for = asked_here t;
  asks_are = asked_all h es s requests replies (beginning t.first) asks t.steps t.added last t.leads;
  allowed = λ i at hit value here. let c = called requests replies (beginning t.first) asks t.steps t.added last t.leads i (Allowed at hit value) here refl in allowed_as t c c.verdict c.reply_is c.found;
  denied = λ i at cause line fault here. let c = called requests replies (beginning t.first) asks t.steps t.added last t.leads i (Denied at cause line fault) here refl in denied_as t c c.verdict c.reply_is c.found;
}
