-- What is recorded of the calls of a session.
use Rattle.std.specs.Prelude.{◌≡◌, ℕ, List, [], ◌∷◌, ◌++◌, Bool, true, false, Option, Some, None}
use Rattle.nal_term.specs.Names.{IsName}
use Rattle.nx_io.specs.Streams.{SendsPart, one_more}
use Rattle.policy_history.specs.declared.heads.Head.{Head}
use Rattle.policy_history.specs.declared.events.Refusal.TheVariants.{NotRecorded}
use Rattle.policy_history.specs.Events.{EntryTree, name_of}
use Rattle.policy_history.specs.Laws.{refusal_number}
use Rattle.policy_history.specs.PolicyTexts.{ended}
use Rattle.authority_ask.specs.Panels.{Told as Ask}
use Rattle.authority_ask.specs.declared.panels.Ask.{Ask as Answer}
use Rattle.authority_ask.specs.declared.panels.Ask.TheVariants.{Yes, No}
use Rattle.session_wire.specs.declared.requests.Request.{Request}
use Rattle.session_wire.specs.declared.requests.Request.TheVariants.{Call}
use Rattle.session_wire.specs.declared.replies.Reply.{Reply}
use Rattle.session_wire.specs.declared.replies.Reply.TheVariants.{Refused, NoMemory}
use Rattle.verdict_words.specs.declared.views.Item.{Item}
use Rattle.audit_check.specs.declared.records.Answers.TheVariants.{Known}
use Rattle.audit_check.specs.declared.records.Recorded.{Recorded}
use Rattle.audit_form.specs.RecordLines.{record_text}
use Rattle.audit_form.specs.ReplyRecords.{Records, record_of}
use Rattle.session_core.specs.Refusals.{not_open}
use Rattle.session_core.specs.Standing.{Standing, beginning}
use Rattle.session_core.specs.Told.{IsTold, Leads}

-- an answer Yes or No, and those behind it; another one is none
abbrev pub given_first : Answer → List Bool → List Bool
given_first Yes later = true ∷ later
given_first No later = false ∷ later
given_first _ later = later

-- the answers Yes and No that were given to asks
abbrev pub given_in : List Ask → List Bool
given_in [] = []
given_in (t ∷ ts) = given_first t.answer (given_in ts)

-- the request is a call
abbrev pub IsCall : Request → Type 0
IsCall (Call op object arg) = Unit {0}
IsCall _ = ⊥

-- the reply says that something was not recorded
abbrev pub IsNotRecorded : Reply → Type 0
IsNotRecorded (Refused at number) = number ≡ refusal_number NotRecorded
IsNotRecorded _ = ⊥

-- a change was told not to be recorded
abbrev pub IsUnrecorded : Request → Reply → Type 0
IsUnrecorded request reply = (¬ IsCall request) × IsNotRecorded reply

-- a call was told that its record could not be sent
abbrev pub IsUnrecordedCall : Request → Reply → Type 0
IsUnrecordedCall request reply = IsCall request × IsNotRecorded reply

-- the reply of a call of which there is no record: before a hello, or for want of memory
abbrev pub IsUntold : Reply → Type 0
IsUntold (Refused at number) = number ≡ not_open
IsUntold NoMemory = Unit {0}
IsUntold _ = ⊥

-- what is kept of records: whether they are wanted; what was sent of them; how often the sink of them failed; and whether one was cut off,
-- so that nothing is sent behind it
pub record Kept : Type 0 where
  pub wanted : Bool
  pub sent : List ℕ
  pub faults : ℕ
  pub broken : Bool

-- they are not wanted
abbrev pub unwanted : Kept
unwanted = record { wanted = false; sent = []; faults = 0; broken = false }

-- what is kept of them by this sink, or by nobody
abbrev pub kept_by : {C : Type 0} → (C → List ℕ) → (C → ℕ) → Option C → Bool → Kept
kept_by sent faults None broken = unwanted
kept_by sent faults (Some sink) broken = record { wanted = true; sent = sent sink; faults = faults sink; broken = broken }

-- the line of the record of a call that was told this, at this length of the history, with what authorities answered to it: its principal
-- is who is admitted
pub record IsLineOf (h : Head) (who : Option ℕ) (request : Request) (asks : List Ask) (at : ℕ) (v : Recorded) (line : List ℕ) : Type 0 where
  pub principal : ℕ
  pub op : List ℕ
  pub object : List ℕ
  pub arg : ℕ
  pub who_is : who ≡ Some principal
  pub call : request ≡ Call op object arg
  pub named : IsName (name_of h.principals principal) × IsName op × IsName object
  pub line_is : line ≡ ended (record_text (name_of h.principals principal) (record_of principal op object at (Known (given_in asks)) v))

-- one request of a session in which this principal is admitted, with what it was told and what authorities answered to it; and what was
-- kept of records before and then
module _ (h : Head) (who : Option ℕ) (request : Request) (reply : Reply) (asks : List Ask) (kept kept_now : Kept) where
  -- What was recorded of it. Nothing, where records are not wanted, or where there is none of it. Else the line of its record was sent,
  -- whole, or a proper part of it, since the sink failed; and behind such a part nothing is sent, and nobody asked. A call is told that it
  -- was not recorded exactly in these two cases
  pub data IsNoted : Type 0 where
    not_wanted : kept.wanted ≡ false → ¬ IsUnrecordedCall request reply → kept_now ≡ kept → IsNoted
    untold : (IsCall request → IsUntold reply) → kept_now ≡ kept → IsNoted
    sent : (at : ℕ) (v : Recorded) (line : List ℕ) → kept.wanted ≡ true → kept.broken ≡ false → Records reply at v
        → IsLineOf h who request asks at v line → kept_now ≡ record kept { sent = kept.sent ++ line } → IsNoted
    cut_off : (at : ℕ) (v : Recorded) (line : List ℕ) → kept.wanted ≡ true → kept.broken ≡ false
        → reply ≡ Refused at (refusal_number NotRecorded) → IsLineOf h who request asks at v line → SendsPart kept.sent kept_now.sent line
        → kept_now ≡ record { wanted = true; sent = kept_now.sent; faults = one_more kept.faults; broken = true } → IsNoted
    later : kept.wanted ≡ true → kept.broken ≡ true → IsUnrecordedCall request reply → asks ≡ [] → kept_now ≡ kept → IsNoted

-- behind a record that was cut off nothing is done for a call, whatever it is told: its session takes no step, and nobody is asked
abbrev pub IsIdle : Kept → Request → List Item → List Ask → Type 0
IsIdle kept request steps asks = kept.broken ≡ true → IsCall request → (steps ≡ []) × (asks ≡ [])

-- session s over this history
module _ (h : Head) (es : List EntryTree) (s : ℕ) where
  -- So it is of each of its requests, in their order
  abbrev pub AreNoted : (before : Standing) (requests : List Request) (replies : List Reply) (asks : List Ask) (steps : List Item)
      (added : List EntryTree) (last : Standing) → Leads h es s before requests replies asks steps added last → Kept → Kept → Type 0
  AreNoted before [] [] asks steps added last led kept kept_now = kept_now ≡ kept
  AreNoted before (request ∷ requests) (reply ∷ replies) asks steps added last led kept kept_now =
      (kept_then : Kept) × IsNoted h before.who request led.0.reply led.0.asks kept kept_then
      × IsIdle kept request led.0.steps led.0.asks
      × AreNoted led.0.after requests replies led.1 led.2 led.3 last led.9 kept_then kept_now
  AreNoted before _ _ asks steps added last led kept kept_now = ⊥

  -- it was told this, and so much was recorded of it
  abbrev pub IsToldAndNoted : ℕ → List Request → List Reply → List Ask → List Item → Standing → Kept → Kept → Type 0
  IsToldAndNoted low requests replies asks trail last kept kept_now =
      (told : IsTold h es s low requests replies asks trail last)
      × AreNoted (beginning told.first) requests replies asks told.steps told.added last told.leads kept kept_now
