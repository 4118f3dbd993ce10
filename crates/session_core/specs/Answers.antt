-- What a session is answered at a point of the journal, without a cache: one request.
use Rattle.std.specs.Prelude.{◌≡◌, ◌<◌, ◌≤◌, ◌+◌, ◌⊎◌, ℕ, Bool, true, false, List, [], ◌∷◌, length, Option, Some, None, Result, Ok, Err}
use Rattle.std.specs.List.{count_by}
use Rattle.nal_rules.specs.Numbers.{cause_numbers}
use Rattle.nal_rules.specs.Verdicts.{CaseTree}
use Rattle.object_table.specs.Objects.{number_of}
use Rattle.policy_history.specs.declared.heads.Head.{Head}
use Rattle.policy_history.specs.declared.events.Due.{Due}
use Rattle.policy_history.specs.declared.events.Refusal.{Refusal}
use Rattle.policy_history.specs.declared.events.Refusal.TheVariants.{NoSuchObject}
use Rattle.policy_history.specs.Events.{EventTree, EntryTree, admitted}
use Rattle.policy_history.specs.Machine.{replay}
use Rattle.policy_history.specs.Judged.{case_at}
use Rattle.policy_history.specs.Laws.{refusal_number}
use Rattle.policy_history.specs.Values.{decision}
use Rattle.nx_io.specs.Streams.{gained}
use Rattle.authority_ask.specs.Panels.{Told}
use Rattle.guard_core.specs.declared.findings.Finding.{Finding}
use Rattle.guard_core.specs.declared.findings.Finding.TheVariants.{Allowed as AllowedFinding, Denied as DeniedFinding}
use Rattle.guard_core.specs.declared.findings.GuardError.TheVariants.{Down as DownError, Memory as MemoryError}
use Rattle.guard_core.specs.Judging.{IsJudged, IsBrokenOff}
use Rattle.session_wire.specs.Answers.{WantsMemory}
use Rattle.session_wire.specs.declared.requests.Request.{Request}
use Rattle.session_wire.specs.declared.requests.Request.TheVariants.{Hello, Call, See}
use Rattle.session_wire.specs.declared.replies.Reply.{Reply}
use Rattle.session_wire.specs.declared.replies.Reply.TheVariants.{Welcome, Done, Allowed, Denied, Refused, Down, NoMemory, Seen}
use Rattle.journal_text.specs.RequestEvents.{IsEventOf}
use Rattle.session_core.specs.Refusals.{already_open, bad_secret, not_open, not_yet}

-- What a session comes to by one request: the reply, the principal that is admitted afterwards, what authorities were
-- asked, and what was added to the journal.
pub record Outcome : Type 0 where
  pub reply : Reply
  pub who : Option ℕ
  pub asks : List Told
  pub added : List EntryTree

-- only a reply: nobody is asked, and nothing is added
abbrev pub replied : Option ℕ → Reply → Outcome
replied who reply = record { reply = reply; who = who; asks = []; added = [] }

-- A hello, where the principal with its name and its secret is this one, or nobody is: the principal is welcomed, and else
-- it is refused. Where a principal is admitted already, it is refused too.
abbrev pub greeted : ℕ → ℕ → Option ℕ → Option ℕ → Outcome
greeted at session (Some p) found = replied (Some p) (Refused at already_open)
greeted at session None None = replied None (Refused at bad_secret)
greeted at session None (Some p) = replied (Some p) (Welcome session at)

-- A change that principal p asks for: what the journal decides of it. One that is accepted is added, and the reply is at
-- the journal's length behind it.
abbrev pub changed : List EntryTree → ℕ → ℕ → EventTree → Result Due Refusal → Outcome
changed es session p e (Err refusal) = replied (Some p) (Refused (length es) (refusal_number refusal))
changed es session p e (Ok due) = record {
  reply = Done (length es + 1) due.number;
  who = Some p;
  asks = [];
  added = record { session = session; principal = p; event = e } ∷ [];
}

-- the reply that a finding of the guard is at a point: the hit is 0, and so is the value
abbrev pub found_reply : ℕ → Finding → Reply
found_reply at (AllowedFinding asks) = Allowed at 0 0
found_reply at (DeniedFinding cause) = Denied at (cause_numbers cause).0 (cause_numbers cause).1 (cause_numbers cause).2

-- a call of principal p has this reply, and this was asked for it
abbrev pub called : ℕ → List Told → Reply → Outcome
called p asks reply = record { reply = reply; who = Some p; asks = asks; added = [] }

-- A call whose object stands: the guard judged the case with the answers that were given to this call, or it broke off at
-- line k, which was not answered.
pub data IsJudgedCall (at p : ℕ) (c : CaseTree) (outcome : Outcome) : Type 0 where
  found : (finding : Finding) → IsJudged c outcome.asks finding → outcome ≡ called p outcome.asks (found_reply at finding) → IsJudgedCall at p c outcome
  down : (k : ℕ) → IsBrokenOff c outcome.asks (DownError k) → outcome ≡ called p outcome.asks (Down at k) → IsJudgedCall at p c outcome

-- a call of principal p, where the object has this number or none has the name: refused then, and else judged
abbrev pub IsCalledOn : Head → List EntryTree → ℕ → List ℕ → Option ℕ → Outcome → Type 0
IsCalledOn h es p op None outcome = outcome ≡ replied (Some p) (Refused (length es) (refusal_number NoSuchObject))
IsCalledOn h es p op (Some n) outcome = IsJudgedCall (length es) p (case_at h (replay h es) p op n) outcome

abbrev pub IsCalled : Head → List EntryTree → ℕ → List ℕ → List ℕ → Outcome → Type 0
IsCalled h es p op object outcome = IsCalledOn h es p op (number_of (replay h es).objects object) outcome

-- A session of principal p asks at the length n whether it has come to the length k: it is told n where it has, and else is refused.
abbrev pub IsSeenAt : ℕ → ℕ → ℕ → Outcome → Type 0
IsSeenAt n p k outcome =
    ((k ≤ n) × (outcome ≡ replied (Some p) (Seen n))) ⊎ ((n < k) × (outcome ≡ replied (Some p) (Refused n not_yet)))

-- `IsAnswer h es session who request outcome`: behind the entries es of a journal with the head h, a session in which this
-- principal is admitted, or nobody, comes to this outcome by the request. A hello is answered in every session; any other
-- request is refused before one, and so is a second hello.
abbrev pub IsAnswer : Head → List EntryTree → ℕ → Option ℕ → Request → Outcome → Type 0
IsAnswer h es session who (Hello name secret) outcome = outcome ≡ greeted (length es) session who (admitted h.principals name secret)
IsAnswer h es session None request outcome = outcome ≡ replied None (Refused (length es) not_open)
IsAnswer h es session (Some p) (Call op object arg) outcome = IsCalled h es p op object outcome
IsAnswer h es session (Some p) (See k) outcome = IsSeenAt (length es) p k outcome
IsAnswer h es session (Some p) request outcome =
    (e : EventTree) × IsEventOf request e × (outcome ≡ changed es session p e (decision h (replay h es) session p e))

-- what was asked for a call that was given up: nothing, or the asks of its case up to and with one for which there was no
-- memory
abbrev pub AreGivenUp : Head → List EntryTree → ℕ → List ℕ → List ℕ → List Told → Type 0
AreGivenUp h es p op object asks =
    (asks ≡ []) ⊎ ((n : ℕ) × (number_of (replay h es).objects object ≡ Some n) × IsBrokenOff (case_at h (replay h es) p op n) asks MemoryError)

-- A request was given up for want of memory: nothing is added, and whoever is admitted stays so. Only a call may have asked.
abbrev pub IsGivenUp : Head → List EntryTree → Option ℕ → Request → Outcome → Type 0
IsGivenUp h es (Some p) (Call op object arg) outcome = AreGivenUp h es p op object outcome.asks × (outcome ≡ called p outcome.asks NoMemory)
IsGivenUp h es who request outcome = outcome ≡ replied who NoMemory

-- a request has this outcome behind these entries: it is answered, or given up for want of memory
pub data HasOutcome (h : Head) (es : List EntryTree) (session : ℕ) (who : Option ℕ) (request : Request) (outcome : Outcome) : Type 0 where
  answered : IsAnswer h es session who request outcome → HasOutcome h es session who request outcome
  given_up : WantsMemory request → IsGivenUp h es who request outcome → HasOutcome h es session who request outcome

-- the request is none that wants memory: a hello, one that asks whether the session has come to a point, or any request where nobody is
-- admitted
abbrev pub IsFrugal : Option ℕ → Request → Type 0
IsFrugal None request = Unit {0}
IsFrugal (Some p) (Hello name secret) = Unit {0}
IsFrugal (Some p) (See k) = Unit {0}
IsFrugal (Some p) request = ⊥

-- what a call came to, by the reply, by who is admitted afterwards, by what was asked, and by what the journal's entries gained
abbrev pub outcome_of : Reply → Option ℕ → List Told → List EntryTree → List EntryTree → Outcome
outcome_of reply who asks es es_now = record { reply = reply; who = who; asks = asks; added = gained es es_now }

-- whether an authority was down, by a reply
abbrev pub is_down : Reply → Bool
is_down (Down at k) = true
is_down _ = false

-- how many of these replies tell that an authority was down
abbrev pub downs_told : List Reply → ℕ
downs_told replies = count_by is_down replies
