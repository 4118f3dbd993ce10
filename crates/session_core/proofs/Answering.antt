-- How the answer to a request comes from its parts.
use Rattle.std.proofs.Common.{◌≡◌, ◌<◌, ◌≤◌, ◌⊎◌, ℕ, List, [], Option, Some, None, refl, sym, subst, inr, length, inl}
use Rattle.std.specs.Prelude.{Result, Ok, Err}
use Rattle.nx_io.specs.Streams.{gained, Grows}
use Rattle.nx_io.proofs.ForCallers.{gained-nothing, grows-nothing}
use Rattle.nal_rules.specs.Verdicts.{CaseTree}
use Rattle.object_table.specs.Objects.{number_of}
use Rattle.policy_history.specs.declared.heads.Head.{Head}
use Rattle.policy_history.specs.declared.events.Due.{Due}
use Rattle.policy_history.specs.declared.events.Refusal.{Refusal}
use Rattle.policy_history.specs.Events.{EntryTree, EventTree}
use Rattle.policy_history.specs.Judged.{case_at}
use Rattle.policy_history.specs.Machine.{replay}
use Rattle.policy_history.specs.Values.{decision}
use Rattle.authority_ask.specs.Panels.{Told}
use Rattle.guard_core.specs.declared.findings.GuardError.TheVariants.{Down as DownError, Memory as MemoryError}
use Rattle.guard_core.specs.Judging.{IsBrokenOff, IsJudged}
use Rattle.session_wire.specs.Answers.{WantsMemory}
use Rattle.session_wire.specs.declared.requests.Request.{Request}
use Rattle.session_wire.specs.declared.requests.Request.TheVariants.{Hello, Call, See}
use Rattle.session_wire.specs.declared.replies.Reply.{Reply}
use Rattle.session_wire.specs.declared.replies.Reply.TheVariants.{Refused, NoMemory, Seen}
use Rattle.journal_text.specs.RequestEvents.{IsChange, IsEventOf}
use Rattle.session_core.specs.Answers.{HasOutcome, answered, given_up, IsAnswer, IsCalledOn, IsGivenUp, Outcome, called, changed, found as found_call, down as down_call, outcome_of, replied}
use Rattle.session_core.specs.Inner.Steps.{IsCallReply, answered as call_answered, given_up as call_given_up, IsChanged, asked, no_memory as change_no_memory, decided, no_memory as decide_no_memory, IsHello, IsJudgedReply, found, down, no_memory}

-- only a reply
pub still : (who : Option ℕ) (reply : Reply) (asks : List Told) (es : List EntryTree) → asks ≡ [] → outcome_of reply who asks es es ≡ replied who reply
still who reply asks es none = rw (none, gained-nothing es) refl

-- a request before a hello
pub not_open : (h : Head) (es : List EntryTree) (session : ℕ) (request : Request) (asks : List Told) → asks ≡ [] → ¬ IsHello request
    → HasOutcome h es session None request (outcome_of (Refused (length es) 1) None asks es es)
not_open h es session (Hello name secret) asks none other = absurd (other tt)
not_open h es session request asks none other = answered (still None (Refused (length es) 1) asks es none)

-- a request for a change is answered as its event is
change_answer : (h : Head) (es : List EntryTree) (session p : ℕ) (request : Request) (outcome : Outcome) → IsChange request
    → (e : EventTree) → IsEventOf request e → outcome ≡ changed es session p e (decision h (replay h es) session p e) → IsAnswer h es session (Some p) request outcome
change_answer h es session p (Hello name secret) outcome change e event same = absurd change
change_answer h es session p (Call op object arg) outcome change e event same = absurd change
change_answer h es session p (See k) outcome change e event same = absurd change
change_answer h es session p request outcome change e event same = (e, event, same)

-- and wants memory
change_wants : (request : Request) → IsChange request → WantsMemory request
change_wants request change k same = subst IsChange same change

change_given_up : (h : Head) (es : List EntryTree) (p : ℕ) (request : Request) (outcome : Outcome) → IsChange request → outcome ≡ replied (Some p) NoMemory
    → IsGivenUp h es (Some p) request outcome
change_given_up h es p (Call op object arg) outcome change same = absurd change
change_given_up h es p request outcome change same = same

-- what was decided, as an outcome
whole : (es es_now : List EntryTree) (session p : ℕ) (e : EventTree) (reply : Reply) (asks : List Told) (d : Result Due Refusal) → asks ≡ []
    → reply ≡ (changed es session p e d).reply → gained es es_now ≡ (changed es session p e d).added
    → outcome_of reply (Some p) asks es es_now ≡ changed es session p e d
whole es es_now session p e reply asks (Err refusal) none r a = rw (r, a, none) refl
whole es es_now session p e reply asks (Ok due) none r a = rw (r, a, none) refl

given_up_change : (h : Head) (es es_now : List EntryTree) (session p : ℕ) (request : Request) (reply : Reply) (asks : List Told) → asks ≡ [] → IsChange request
    → reply ≡ NoMemory → es_now ≡ es → HasOutcome h es session (Some p) request (outcome_of reply (Some p) asks es es_now)
given_up_change h es es_now session p request reply asks none change r same =
    given_up (change_wants request change) (change_given_up h es p request _ change (rw (r, same) (still (Some p) NoMemory asks es none)))

-- a request for a change
pub by_change : (h : Head) (es es_now : List EntryTree) (session p : ℕ) (request : Request) (reply : Reply) (asks : List Told) → asks ≡ [] → IsChange request
    → IsChanged h es es_now session p request reply → HasOutcome h es session (Some p) request (outcome_of reply (Some p) asks es es_now)
by_change h es es_now session p request reply asks none change (asked e event (decided g r a)) =
    answered (change_answer h es session p request _ change e event (whole es es_now session p e reply asks _ none r a))
by_change h es es_now session p request reply asks none change (asked e event (decide_no_memory r same)) = given_up_change h es es_now session p request reply asks none change r same
by_change h es es_now session p request reply asks none change (change_no_memory r same) = given_up_change h es es_now session p request reply asks none change r same

-- what a change leaves of the journal
pub change_grows : (h : Head) (es es_now : List EntryTree) (session p : ℕ) (request : Request) (reply : Reply) → IsChanged h es es_now session p request reply → Grows es es_now
change_grows h es es_now session p request reply (asked e event (decided g r a)) = g
change_grows h es es_now session p request reply (asked e event (decide_no_memory r same)) = rw same (grows-nothing es)
change_grows h es es_now session p request reply (change_no_memory r same) = rw same (grows-nothing es)

-- a call, by its reply
pub by_call : (h : Head) (es : List EntryTree) (session p : ℕ) (op object : List ℕ) (arg : ℕ) (reply : Reply) (asks : List Told)
    → IsCallReply h es p op object asks reply
    → HasOutcome h es session (Some p) (Call op object arg) (outcome_of reply (Some p) asks es es)
by_call h es session p op object arg reply asks (call_answered c) =
    let Given : List EntryTree → Type 0 = λ added. IsCalledOn h es p op (number_of (replay h es).objects object) (record { reply = reply; who = Some p; asks = asks; added = added }) in
    answered (subst Given (sym (gained-nothing es)) c)
by_call h es session p op object arg reply asks (call_given_up r a) = given_up (λ k same. absurd (cc same)) (a, rw (r, gained-nothing es) refl)

-- a call of an object that is not there
pub call_none : (h : Head) (es : List EntryTree) (p : ℕ) (op object : List ℕ) (at : ℕ) (asks : List Told) → asks ≡ [] → number_of (replay h es).objects object ≡ None → at ≡ length es
    → IsCallReply h es p op object asks (Refused at 8)
call_none h es p op object at asks unasked none at_is =
    call_answered (subst (λ (m : Option ℕ). IsCalledOn h es p op m (called p asks (Refused at 8))) (sym none) (rw (unasked, at_is) refl))

-- a call of an object that is there
pub call_judged : (h : Head) (es : List EntryTree) (p : ℕ) (op object : List ℕ) (at n : ℕ) (c : CaseTree) (asks : List Told) (reply : Reply)
    → number_of (replay h es).objects object ≡ Some n → c ≡ case_at h (replay h es) p op n → at ≡ length es → IsJudgedReply at c asks reply
    → IsCallReply h es p op object asks reply
call_judged h es p op object at n c asks reply number case at_is (found finding judged r) =
    call_answered (subst (λ (m : Option ℕ). IsCalledOn h es p op m (called p asks reply)) (sym number)
    (found_call finding (subst (λ (d : CaseTree). IsJudged d asks finding) case judged) (rw (r, at_is) refl)))
call_judged h es p op object at n c asks reply number case at_is (down k broken r) =
    call_answered (subst (λ (m : Option ℕ). IsCalledOn h es p op m (called p asks reply)) (sym number)
    (down_call k (subst (λ (d : CaseTree). IsBrokenOff d asks (DownError k)) case broken) (rw (r, at_is) refl)))
call_judged h es p op object at n c asks reply number case at_is (no_memory broken r) =
    call_given_up r (inr (n, number, subst (λ (d : CaseTree). IsBrokenOff d asks MemoryError) case broken))

-- a request that is no hello, no call and no question of a point asks for a change
pub is_change : (request : Request) → ¬ IsHello request → ((op object : List ℕ) (arg : ℕ) → request ≡ Call op object arg → ⊥) → ((k : ℕ) → request ≡ See k → ⊥) → IsChange request
is_change (Hello name secret) other call see = absurd (other tt)
is_change (Call op object arg) other call see = absurd (call op object arg refl)
is_change (See k) other call see = absurd (see k refl)
is_change request other call see = tt

-- a session that asks whether it has come to a point
pub by_see : (h : Head) (es : List EntryTree) (session p k : ℕ) (reply : Reply) (asks : List Told) → asks ≡ []
    → ((k ≤ length es) × (reply ≡ Seen (length es))) ⊎ ((length es < k) × (reply ≡ Refused (length es) 23))
    → HasOutcome h es session (Some p) (See k) (outcome_of reply (Some p) asks es es)
by_see h es session p k reply asks none (inl is) = answered (inl (is.0, rw is.1 (still (Some p) (Seen (length es)) asks es none)))
by_see h es session p k reply asks none (inr is) = answered (inr (is.0, rw is.1 (still (Some p) (Refused (length es) 23) asks es none)))

-- a request for which there was no memory, whichever it is that wants any
pub given_up_outcome : (h : Head) (es : List EntryTree) (session : ℕ) (who : Option ℕ) (request : Request) → WantsMemory request
    → HasOutcome h es session who request (outcome_of NoMemory who [] es es)
given_up_outcome h es session (Some p) (Call op object arg) wants = given_up wants (inl refl, rw (gained-nothing es) refl)
given_up_outcome h es session (Some p) request wants = given_up wants (still (Some p) NoMemory [] es refl)
given_up_outcome h es session None request wants = given_up wants (still None NoMemory [] es refl)
