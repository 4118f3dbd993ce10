-- A session over a link between two of its turns, and one turn, whoever answers its requests.
use Rattle.std.specs.Prelude.{◌≡◌, ℕ, List, [], ◌∷◌, ◌++◌, length, Option, Some}
use Rattle.session_wire.specs.declared.requests.Request.{Request}
use Rattle.session_wire.specs.declared.replies.Reply.{Reply}
use Rattle.session_wire.specs.declared.frame_reader.Framed.{Framed}
use Rattle.session_wire.specs.declared.frame_reader.Framed.TheVariants as framed
use Rattle.session_wire.specs.Answers.{WantsMemory}
use Rattle.session_wire.specs.Frames.{reply_frames}
use Rattle.session_wire.specs.Beginnings.{Spells}
use Rattle.session_core.specs.declared.ends.SessionEnd.{SessionEnd}
use Rattle.session_core.specs.declared.ends.SessionEnd.TheVariants.{Closed, Torn, ReadFault}
use Rattle.session_core.specs.Ends.{HasEnded}
use Rattle.session_core.specs.Inner.Serving.{IsRefused, IsSent}

-- what was told so far: requests, and their replies
abbrev pub Telling : Type 1
Telling = List Request → List Reply → Type 0

-- so many requests were answered, and each reply was sent
pub record IsSitting (Told : Telling) (taken sent : List ℕ) (count : ℕ) : Type 0 where
  pub requests : List Request
  pub replies : List Reply
  pub spelled : Spells taken requests []
  pub many : length requests ≡ count
  pub sent_is : sent ≡ reply_frames replies
  pub told : Told requests replies

-- the session has ended so
pub record HasSat (Told : Telling) (end : SessionEnd) (taken sent : List ℕ) : Type 0 where
  pub requests : List Request
  pub replies : List Reply
  pub ended : HasEnded end taken sent requests replies
  pub told : Told requests replies

-- one request more was told this reply
abbrev pub TellsMore : Telling → Telling → Request → Reply → Type 0
TellsMore Told Now request reply = (requests : List Request) (replies : List Reply) → Told requests replies → Now (requests ++ request ∷ []) (replies ++ reply ∷ [])

-- what was told stays told
abbrev pub TellsNoMore : Telling → Telling → Type 0
TellsNoMore Told Now = (requests : List Request) (replies : List Reply) → Told requests replies → Now requests replies

-- a request was told a reply, which was sent, or a part of it
pub record IsReplied (Told Now : Telling) (sent sent_now : List ℕ) (request : Request) (end : Option SessionEnd) : Type 0 where
  pub reply : Reply
  pub told : TellsMore Told Now request reply
  pub reply_sent : IsSent reply end sent sent_now

-- what one turn comes to, by what the reader gave
abbrev pub IsTurnOf : Framed → Telling → Telling → List ℕ → List ℕ → Option SessionEnd → Type 0
IsTurnOf (framed.Request q) Told Now sent sent_now end = IsReplied Told Now sent sent_now q end
IsTurnOf framed.Memory Told Now sent sent_now end = (q : Request) → WantsMemory q → IsReplied Told Now sent sent_now q end
IsTurnOf (framed.Bad fault place) Told Now sent sent_now end = TellsNoMore Told Now × IsRefused place end sent sent_now
IsTurnOf framed.End Told Now sent sent_now end = TellsNoMore Told Now × (sent_now ≡ sent) × (end ≡ Some Closed)
IsTurnOf framed.Torn Told Now sent sent_now end = TellsNoMore Told Now × (sent_now ≡ sent) × (end ≡ Some Torn)
IsTurnOf framed.ReadFault Told Now sent sent_now end = TellsNoMore Told Now × (sent_now ≡ sent) × (end ≡ Some ReadFault)
