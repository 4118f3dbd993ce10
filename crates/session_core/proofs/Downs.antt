-- An authority was down as often as a reply tells it.
use Rattle.std.proofs.Common.{◌≡◌, ◌≤◌, ◌+◌, ◌⊎◌, ℕ, inl, inr, List, [], ◌∷◌, ◌++◌, length, cond, Option, Some, None, arith, refl, sym, ap, subst, ◌∙◌}
use Rattle.std.specs.Prelude.{Result, Ok, Err}
use Rattle.std.proofs.lemmas.List.Sums.{sum_by-cons}
use Rattle.nal_rules.specs.declared.verdicts.Verdict.{Verdict}
use Rattle.nal_rules.specs.declared.verdicts.Verdict.TheVariants.{Allowed, Denied}
use Rattle.object_table.specs.Objects.{number_of}
use Rattle.policy_history.specs.declared.events.Due.{Due}
use Rattle.policy_history.specs.declared.events.Refusal.{Refusal}
use Rattle.policy_history.specs.declared.heads.Head.{Head}
use Rattle.policy_history.specs.Events.{EntryTree, EventTree, admitted}
use Rattle.policy_history.specs.Machine.{replay}
use Rattle.policy_history.specs.States.{State}
use Rattle.policy_history.specs.Values.{decision}
use Rattle.authority_ask.specs.PanelCalls.{downs_in}
use Rattle.authority_ask.specs.Panels.{Told as Ask}
use Rattle.authority_ask.proofs.ForCallers.{downs_append}
use Rattle.guard_core.specs.Judging.{verdict_of}
use Rattle.guard_core.proofs.ForCallers.{broken_downs, judged_downs, memory_downs}
use Rattle.session_wire.specs.declared.requests.Request.{Request}
use Rattle.session_wire.specs.declared.requests.Request.TheVariants.{Call, Hello, See}
use Rattle.session_wire.specs.declared.replies.Reply.{Reply}
use Rattle.verdict_words.specs.declared.views.Item.{Item}
use Rattle.session_core.specs.Answers as alone
use Rattle.session_core.specs.Answers.{HasOutcome, IsAnswer, IsCalledOn, IsGivenUp, IsJudgedCall, IsSeenAt, Outcome, changed, downs_told, found_reply, greeted, is_down}
use Rattle.guard_core.specs.declared.findings.Finding.{Finding}
use Rattle.guard_core.specs.declared.findings.Finding.TheVariants.{Allowed as AllowedFinding, Denied as DeniedFinding}
use Rattle.session_core.specs.Sessions.{behind}
use Rattle.session_core.specs.Standing.{Standing}
use Rattle.session_core.specs.Calls as calling
use Rattle.session_core.specs.Unanswered as unanswered
use Rattle.session_core.specs.Changes as changing
use Rattle.session_core.specs.Told as told
use Rattle.session_core.specs.Calls.{Calls, Judges, Turn, state_at, verdict_reply}
use Rattle.session_core.specs.Unanswered.{AreAskedInVain, GivesUp}
use Rattle.session_core.specs.Changes.{Changes}
use Rattle.session_core.specs.Told.{Answers, IsTold, Leads}
use Rattle.session_core.specs.Records.{IsCall, IsNotRecorded, IsUnrecordedCall}
use Rattle.session_core.specs.ToldLaws.{AreAllRecorded, DownsAreTold, DownsAreToldAlone}
use Rattle.session_core.proofs.ToldLaws.{unrecorded_reply}

-- how often a reply tells that an authority was down
abbrev told_down : Reply → ℕ
told_down reply = cond (is_down reply) 1 0

-- what was asked for a reply was answered Down where the reply tells it, and nowhere else
abbrev Fits : List Ask → Reply → Type 0
Fits asks reply = downs_in asks ≡ told_down reply

abbrev FitsTurn : Turn → Type 0
FitsTurn turn = Fits turn.asks turn.reply

fits_turn : {a b : Turn} → a ≡ b → FitsTurn b → FitsTurn a
fits_turn is fits = ap (λ (t : Turn). downs_in t.asks) is ∙ fits ∙ sym (ap (λ (t : Turn). told_down t.reply) is)

abbrev FitsOutcome : Outcome → Type 0
FitsOutcome outcome = Fits outcome.asks outcome.reply

fits_outcome : {a b : Outcome} → a ≡ b → FitsOutcome b → FitsOutcome a
fits_outcome is fits = ap (λ (t : Outcome). downs_in t.asks) is ∙ fits ∙ sym (ap (λ (t : Outcome). told_down t.reply) is)

verdict_up : (at hit value : ℕ) (verdict : Verdict) → told_down (verdict_reply at hit value verdict) ≡ 0
verdict_up at hit value Allowed = refl
verdict_up at hit value (Denied cause) = refl

found_up : (at : ℕ) (finding : Finding) → told_down (found_reply at finding) ≡ 0
found_up at (AllowedFinding asks) = refl
found_up at (DeniedFinding cause) = refl

greeted_fits : (at session : ℕ) (who found : Option ℕ) → FitsOutcome (greeted at session who found)
greeted_fits at session (Some p) found = refl
greeted_fits at session None None = refl
greeted_fits at session None (Some p) = refl

-- ---- A session beside others

judges_fit : {h : Head} {st : State} {before : Standing} {p : ℕ} {op object : List ℕ} {arg n : ℕ} {looked : List Item} {turn : Turn} → Judges h st before p op object arg n looked turn → FitsTurn turn
judges_fit (calling.no_object none is) = fits_turn is refl
judges_fit {n = n} (calling.judged k value finding kept ran object_is judged keeps runs is) =
    judged_downs _ _ finding judged ∙ sym (ap (λ (t : Turn). told_down t.reply) is ∙ verdict_up n 0 value (verdict_of finding))
judges_fit (calling.down k line object_is broken is) = broken_downs _ _ line broken ∙ sym (ap (λ (t : Turn). told_down t.reply) is)

calls_fit : {h : Head} {es : List EntryTree} {before : Standing} {p : ℕ} {op object : List ℕ} {arg : ℕ} {turn : Turn} → Calls h es before p op object arg turn → FitsTurn turn
calls_fit (calling.hit n place slot of_object of_store value held verdict ran looks makes stands right runs is) = fits_turn is (sym (verdict_up n 1 value verdict))
calls_fit (calling.snapped low n looked misses seen judges) = judges_fit judges

in_vain : (h : Head) (st : State) (p : ℕ) (op object : List ℕ) (asks : List Ask) → AreAskedInVain h st p op object asks → downs_in asks ≡ 0
in_vain h st p op object asks (inl none) = ap downs_in none
in_vain h st p op object asks (inr some) = memory_downs _ _ some.2

gives_up_fit : {h : Head} {es : List EntryTree} {before : Standing} {p : ℕ} {op object : List ℕ} {turn : Turn} → GivesUp h es before p op object turn → FitsTurn turn
gives_up_fit (unanswered.looked low steps misses is) = fits_turn is refl
gives_up_fit {h} {es} {before} {p} {op} {object} {turn} (unanswered.met low n steps misses seen asked is) = in_vain h (state_at h es n) p op object turn.asks asked ∙ sym (ap (λ (t : Turn). told_down t.reply) is)

changes_fit : {h : Head} {es : List EntryTree} {s : ℕ} {before : Standing} {p : ℕ} {e : EventTree} {turn : Turn} → Changes h es s before p e turn → FitsTurn turn
changes_fit (changing.refused m refusal met seen decided meets is) = fits_turn is refl
changes_fit (changing.not_recorded m due met seen decided meets is) = fits_turn is refl
changes_fit (changing.done m due met seen decided got meets is) = fits_turn is refl

answers_fit : {h : Head} {es : List EntryTree} {s : ℕ} {before : Standing} {request : Request} {turn : Turn} → Answers h es s before request turn
    → FitsTurn turn ⊎ (IsUnrecordedCall request turn.reply × (told_down turn.reply ≡ 0))
answers_fit {h} {es} {s} {before} (told.hello name secret greeting asked is same) =
    let fits : FitsOutcome greeting = fits_outcome is (greeted_fits before.low s before.who (admitted h.principals name secret)) in
    let up : downs_in greeting.asks ≡ 0 = ap (λ (t : Outcome). downs_in t.asks) is ∙ none_asked before.low s before.who (admitted h.principals name secret) in
    inl (fits_turn same (sym up ∙ fits))
  where
    none_asked : (at session : ℕ) (who found : Option ℕ) → downs_in (greeted at session who found).asks ≡ 0
    none_asked at session (Some p) found = refl
    none_asked at session None None = refl
    none_asked at session None (Some p) = refl
answers_fit (told.early nobody other is) = inl (fits_turn is refl)
answers_fit (told.change p e who event changes) = inl (changes_fit changes)
answers_fit (told.call p op object arg who is calls) = inl (calls_fit calls)
answers_fit (told.given_up wants is) = inl (fits_turn is refl)
answers_fit (told.call_given_up p op object arg who is gives_up) = inl (gives_up_fit gives_up)
answers_fit {turn = turn} (told.call_unrecorded p op object arg who is goes) =
    let reply = unrecorded_reply goes in
    inr ((subst IsCall (sym is) tt, subst IsNotRecorded (sym reply.1) refl), ap told_down reply.1)
answers_fit (told.see p k who is (changing.seen m seen there turn_is)) = inl (fits_turn turn_is refl)
answers_fit (told.see p k who is (changing.not_yet m seen far turn_is)) = inl (fits_turn turn_is refl)

one_more : (asks first later : List Ask) (reply : Reply) (replies : List Reply) → asks ≡ first ++ later → Fits first reply → downs_in later ≡ downs_told replies → downs_in asks ≡ downs_told (reply ∷ replies)
one_more asks first later reply replies is fits more =
    ap downs_in is ∙ downs_append first later ∙ (λ i. fits i + more i) ∙ sym (sum_by-cons told_down reply replies)

-- what a turn tells of authorities that were down, and of it all
both_fit : (asks first later : List Ask) (request : Request) (told reply : Reply) (requests : List Request) (replies : List Reply) → asks ≡ first ++ later → told ≡ reply
    → (downs_in first ≡ told_down told) ⊎ (IsUnrecordedCall request told × (told_down told ≡ 0))
    → (downs_told replies ≤ downs_in later) × (AreAllRecorded requests replies → downs_in later ≡ downs_told replies)
    → (downs_told (reply ∷ replies) ≤ downs_in asks) × (AreAllRecorded (request ∷ requests) (reply ∷ replies) → downs_in asks ≡ downs_told (reply ∷ replies))
both_fit asks first later request told reply requests replies is same fits more =
    let sum : downs_in asks ≡ downs_in first + downs_in later = ap downs_in is ∙ downs_append first later in
    let said : downs_told (reply ∷ replies) ≡ told_down reply + downs_told replies = sum_by-cons told_down reply replies in
    let least : told_down reply ≤ downs_in first = at_least fits in
    let rest = more.0 in
    (omega (arith, sum, said, least, rest), λ recorded. one_more asks first later reply replies is (exact fits recorded.0) (more.1 recorded.1))
  where
    at_least : (downs_in first ≡ told_down told) ⊎ (IsUnrecordedCall request told × (told_down told ≡ 0)) → told_down reply ≤ downs_in first
    at_least (inl equal) = let down = ap told_down same in omega (arith, equal, down)
    at_least (inr none) = let down = ap told_down same in let zero_down = none.1 in omega (arith, down, zero_down)

    exact : (downs_in first ≡ told_down told) ⊎ (IsUnrecordedCall request told × (told_down told ≡ 0)) → ¬ IsUnrecordedCall request reply → downs_in first ≡ told_down reply
    exact (inl equal) recorded = equal ∙ ap told_down same
    exact (inr none) recorded = absurd (recorded (subst (IsUnrecordedCall request) same none.0))

leads_fit : (h : Head) (es : List EntryTree) (s : ℕ) (before : Standing) (requests : List Request) (replies : List Reply) (asks : List Ask) (steps : List Item) (added : List EntryTree) (last : Standing)
    → Leads h es s before requests replies asks steps added last → (downs_told replies ≤ downs_in asks) × (AreAllRecorded requests replies → downs_in asks ≡ downs_told replies)
leads_fit h es s before [] [] asks steps added last leads = (let none = ap downs_in leads.0 in omega (arith, none), λ recorded. ap downs_in leads.0)
leads_fit h es s before (q ∷ qs) (r ∷ rs) asks steps added last leads =
    both_fit asks leads.0.asks leads.1 q leads.0.reply r qs rs leads.6 leads.5 (answers_fit leads.4) (leads_fit h es s leads.0.after qs rs leads.1 leads.2 leads.3 last leads.9)
leads_fit h es s before [] (r ∷ rs) asks steps added last leads = absurd leads
leads_fit h es s before (q ∷ qs) [] asks steps added last leads = absurd leads

pub downs_are_told : DownsAreTold
downs_are_told h es s low requests replies asks trail last is = leads_fit h es s _ requests replies asks is.steps is.added last is.leads

-- ---- Sessions alone

judged_call_fit : {at p : ℕ} {c : _} {outcome : Outcome} → IsJudgedCall at p c outcome → FitsOutcome outcome
judged_call_fit {at} (alone.found finding judged is) = judged_downs _ _ finding judged ∙ sym (ap (λ (t : Outcome). told_down t.reply) is ∙ found_up at finding)
judged_call_fit (alone.down k broken is) = broken_downs _ _ k broken ∙ sym (ap (λ (t : Outcome). told_down t.reply) is)

called_fit : (h : Head) (es : List EntryTree) (p : ℕ) (op : List ℕ) (number : Option ℕ) (outcome : Outcome) → IsCalledOn h es p op number outcome → FitsOutcome outcome
called_fit h es p op None outcome is = fits_outcome is refl
called_fit h es p op (Some n) outcome judged = judged_call_fit judged

changed_fits : (es : List EntryTree) (session p : ℕ) (e : EventTree) (d : Result Due Refusal) → FitsOutcome (changed es session p e d)
changed_fits es session p e (Err refusal) = refl
changed_fits es session p e (Ok due) = refl

answer_fits : (h : Head) (es : List EntryTree) (session : ℕ) (who : Option ℕ) (request : Request) (outcome : Outcome) → IsAnswer h es session who request outcome → FitsOutcome outcome
answer_fits h es session who (Hello name secret) outcome is = fits_outcome is (greeted_fits _ session who (admitted h.principals name secret))
answer_fits h es session (Some p) (Call op object arg) outcome calls = called_fit h es p op (number_of (replay h es).objects object) outcome calls
answer_fits h es session None request outcome is = fits_outcome is refl
answer_fits h es session (Some p) (See k) outcome seen = seen_fits seen
  where
    seen_fits : IsSeenAt (length es) p k outcome → FitsOutcome outcome
    seen_fits (inl is) = fits_outcome is.1 refl
    seen_fits (inr is) = fits_outcome is.1 refl
answer_fits h es session (Some p) request outcome is = fits_outcome is.2 (changed_fits es session p is.0 (decision h (replay h es) session p is.0))

given_up_fits : (h : Head) (es : List EntryTree) (who : Option ℕ) (request : Request) (outcome : Outcome) → IsGivenUp h es who request outcome → FitsOutcome outcome
given_up_fits h es (Some p) (Call op object arg) outcome given = vain given.0 ∙ sym (ap (λ (t : Outcome). told_down t.reply) given.1)
  where
    vain : alone.AreGivenUp h es p op object outcome.asks → downs_in outcome.asks ≡ 0
    vain (inl none) = ap downs_in none
    vain (inr some) = memory_downs _ _ some.2
given_up_fits h es who request outcome is = fits_outcome is refl

outcome_fits : {h : Head} {es : List EntryTree} {session : ℕ} {who : Option ℕ} {request : Request} {outcome : Outcome} → HasOutcome h es session who request outcome → FitsOutcome outcome
outcome_fits {h} {es} {session} {who} {request} {outcome} (alone.answered is) = answer_fits h es session who request outcome is
outcome_fits {h} {es} {session} {who} {request} {outcome} (alone.given_up wants is) = given_up_fits h es who request outcome is

pub downs_are_told_alone : DownsAreToldAlone
downs_are_told_alone h first point [] [] asks last is = ap downs_in is.0
downs_are_told_alone h first point (q ∷ qs) (r ∷ rs) asks last is =
    one_more asks is.0.asks is.1 r rs is.4 (outcome_fits is.2 ∙ ap told_down is.3) (downs_are_told_alone h first (behind point q.place is.0) qs rs is.1 last is.5)
downs_are_told_alone h first point [] (r ∷ rs) asks last is = absurd is
downs_are_told_alone h first point (q ∷ qs) [] asks last is = absurd is
