-- The records that the replies of a session make are right.
use Rattle.std.specs.Prelude.{◌≡◌, ◌≤◌, ℕ, List, [], ◌∷◌, length, Some}
use Rattle.policy_history.specs.declared.heads.Head.{Head}
use Rattle.policy_history.specs.Events.{EntryTree}
use Rattle.authority_ask.specs.Panels.{Told as Ask}
use Rattle.session_wire.specs.declared.requests.Request.{Request}
use Rattle.session_wire.specs.declared.requests.Request.TheVariants.{Call}
use Rattle.session_wire.specs.declared.replies.Reply.{Reply}
use Rattle.verdict_words.specs.declared.views.Item.{Item}
use Rattle.session_core.specs.Answers.{HasOutcome, Outcome}
use Rattle.session_core.specs.Records.{given_in}
use Rattle.session_core.specs.Standing.{Standing, beginning}
use Rattle.session_core.specs.Calls.{Turn}
use Rattle.session_core.specs.Told.{Answers, IsTold, Leads}
use Rattle.audit_check.specs.declared.records.Answers.TheVariants.{Known, Unknown}
use Rattle.audit_check.specs.declared.records.Recorded.{Recorded}
use Rattle.audit_check.specs.Records.{IsRightRecord}
use Rattle.audit_form.specs.ReplyRecords.{Records, record_of}

-- the record of the call is right over this history, at a length of it, with the answers that were given to these asks, and with answers
-- that are not known
pub record IsRightCall (h : Head) (es : List EntryTree) (p : ℕ) (op object : List ℕ) (asks : List Ask) (at : ℕ) (v : Recorded) : Type 0 where
  pub within : at ≤ length es
  pub with_answers : IsRightRecord h es (record_of p op object at (Known (given_in asks)) v)
  pub without : IsRightRecord h es (record_of p op object at Unknown v)

-- what a turn of a session records is right, where it is that of a call
abbrev pub IsRightTurn : Head → List EntryTree → Standing → Request → Turn → Type 0
IsRightTurn h es before request turn =
    (p : ℕ) (op object : List ℕ) (arg at : ℕ) (v : Recorded) → before.who ≡ Some p → request ≡ Call op object arg → Records turn.reply at v → IsRightCall h es p op object turn.asks at v

-- so it is of each turn
abbrev pub AreRightTurns : (h : Head) (es : List EntryTree) (s : ℕ) (before : Standing) (requests : List Request) (replies : List Reply) (asks : List Ask) (steps : List Item) (added : List EntryTree) (last : Standing)
    → Leads h es s before requests replies asks steps added last → Type 0
AreRightTurns h es s before [] [] asks steps added last led = Unit {0}
AreRightTurns h es s before (request ∷ requests) (reply ∷ replies) asks steps added last led =
    IsRightTurn h es before request led.0 × AreRightTurns h es s led.0.after requests replies led.1 led.2 led.3 last led.9
AreRightTurns h es s before _ _ asks steps added last led = Unit {0}

-- one request of a session beside others
abbrev pub RepliesAreRight : Type 0
RepliesAreRight = (h : Head) (es : List EntryTree) (s : ℕ) (before : Standing) (request : Request) (turn : Turn) → Answers h es s before request turn → IsRightTurn h es before request turn

-- all that such a session was told
abbrev pub ToldIsRight : Type 0
ToldIsRight =
    (h : Head) (es : List EntryTree) (s low : ℕ) (requests : List Request) (replies : List Reply) (asks : List Ask) (trail : List Item) (last : Standing)
    (told : IsTold h es s low requests replies asks trail last)
    → AreRightTurns h es s (beginning told.first) requests replies asks told.steps told.added last told.leads

-- one request of a session alone, behind these entries
abbrev pub AloneIsRight : Type 0
AloneIsRight =
    (h : Head) (es : List EntryTree) (session p : ℕ) (op object : List ℕ) (arg at : ℕ) (v : Recorded) (outcome : Outcome)
    → HasOutcome h es session (Some p) (Call op object arg) outcome → Records outcome.reply at v → IsRightCall h es p op object outcome.asks at v
