-- A session over a link between two of its turns, and one turn.
use Rattle.std.specs.Prelude.{◌≡◌, ◌<◌, ◌≤◌, ◌⊎◌, ℕ, List, [], ◌∷◌, length, Option, None, Some, IfSome}
use Rattle.nx_io.specs.Streams.{Sends, SendsPart, one_more}
use Rattle.policy_history.specs.declared.heads.Head.{Head}
use Rattle.policy_history.specs.Events.{EntryTree}
use Rattle.authority_ask.specs.PanelCalls.{HasOnlyAsked, PanelHistory, asked_since}
use Rattle.session_wire.specs.declared.requests.Request.{Request}
use Rattle.session_wire.specs.declared.replies.Reply.{Reply}
use Rattle.session_wire.specs.declared.replies.Reply.TheVariants.{Bad}
use Rattle.session_wire.specs.Frames.{reply_frame}
use Rattle.session_core.specs.declared.ends.SessionEnd.{SessionEnd}
use Rattle.session_core.specs.declared.ends.SessionEnd.TheVariants.{BadFrame, WriteFault}
use Rattle.session_core.specs.Ends.{askings_of, at_first}
use Rattle.session_core.specs.Sessions.{Told1}

-- the session has a number, and who is admitted in it is a principal
abbrev pub IsOpen : Head → ℕ → Option ℕ → Type 0
IsOpen h session who = (1 ≤ session) × IfSome who (λ p. p < length h.principals)

-- how far a session is that is alone: its number, who is admitted in it, and what journal and panel are
pub record Course : Type 0 where
  pub number : ℕ
  pub who : Option ℕ
  pub head : Head
  pub es : List EntryTree
  pub asked : PanelHistory

-- from the beginning b to c it was told these replies, and nothing else became of journal and panel
pub record IsAlone (b c : Course) (requests : List Request) (replies : List Reply) : Type 0 where
  pub told : Told1 b.head b.number (at_first b.es) (askings_of requests) replies (asked_since b.asked c.asked) (record { entries = c.es; admitted = c.who ∷ [] })
  pub number_is : c.number ≡ b.number
  pub head_is : c.head ≡ b.head
  pub only_asked : HasOnlyAsked b.asked c.asked

-- the reply was sent, and no end came of it; or a proper part of it was, and the link failed
abbrev pub IsSent : Reply → Option SessionEnd → List ℕ → List ℕ → Type 0
IsSent reply end sent sent_now =
    ((end ≡ None) × Sends sent sent_now (reply_frame reply)) ⊎ ((end ≡ Some WriteFault) × SendsPart sent sent_now (reply_frame reply))

-- the end of a session at bytes that are no frame: that, or the link failed as they were answered so
abbrev pub IsRefused : ℕ → Option SessionEnd → List ℕ → List ℕ → Type 0
IsRefused place end sent sent_now =
    ((end ≡ Some (BadFrame place)) × Sends sent sent_now (reply_frame (Bad place))) ⊎ ((end ≡ Some WriteFault) × SendsPart sent sent_now (reply_frame (Bad place)))

-- the count of a link's faults after something was to be sent: one more where that failed, the same otherwise
abbrev pub faults_after_sending : Option SessionEnd → ℕ → ℕ
faults_after_sending (Some WriteFault) faults = one_more faults
faults_after_sending _ faults = faults
