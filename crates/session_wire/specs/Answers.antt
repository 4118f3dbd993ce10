-- What the answers of the readers of frames say.
use Rattle.std.specs.Prelude.{◌≡◌, ◌≢◌, ℕ, List, [], ◌∷◌, Bool, true, false}
use Rattle.std.specs.Io.KnownBytes.{IsAtEnd}
use Rattle.std.specs.declared.option.Option.{Option}
use Rattle.nx_io.specs.Streams.{one_more}
use Rattle.session_wire.specs.declared.requests.Request.{Request}
use Rattle.session_wire.specs.declared.requests.Request.TheVariants.{See}
use Rattle.session_wire.specs.declared.frame_reader.Framed.{Framed}
use Rattle.session_wire.specs.declared.frame_reader.Framed.TheVariants as framed
use Rattle.session_wire.specs.declared.reply_reader.ReplyRead.{ReplyRead}
use Rattle.session_wire.specs.declared.reply_reader.ReplyRead.TheVariants as read
use Rattle.session_wire.specs.Frames.{IsFrameOf, IsReplyFrameOf}
use Rattle.session_wire.specs.Beginnings.{IsBad, IsPart}
use Rattle.session_wire.specs.Replies.{IsNoReply, IsReplyPart}

-- the request is any but one that asks whether the session has come to a point, for which no memory is taken
abbrev pub WantsMemory : Request → Type 0
WantsMemory q = (k : ℕ) → q ≢ See k

-- What was taken for an answer, whose first byte is at `start` of the connection: the whole frame of the request; no byte at
-- the end of the connection, or a part of a frame; what shows a fault, and no byte more; a part of a frame, or no byte, where
-- the link failed; and the whole frame of some request that wants memory where there was none for it.
abbrev pub IsTakenFor : Framed → ℕ → List ℕ → Type 0
IsTakenFor (framed.Request q) start bytes = IsFrameOf q bytes
IsTakenFor framed.End start bytes = bytes ≡ []
IsTakenFor framed.Torn start bytes = (bytes ≢ []) × IsPart bytes
IsTakenFor (framed.Bad fault place) start bytes = IsBad start bytes fault place
IsTakenFor framed.ReadFault start bytes = IsPart bytes
IsTakenFor framed.Memory start bytes = (q : Request) × IsFrameOf q bytes × WantsMemory q

-- no byte is to come where the end was answered
abbrev pub IsAtItsEnd : Framed → Option (List ℕ) → Type 0
IsAtItsEnd framed.End left = IsAtEnd left
IsAtItsEnd framed.Torn left = IsAtEnd left
IsAtItsEnd _ left = Unit {0}

-- whether a link is over after these bytes were taken: bytes end that
abbrev pub over_after_taking : List ℕ → Bool → Bool
over_after_taking [] over = over
over_after_taking (b ∷ bs) over = false

-- whether a link is over after an answer for which these bytes were taken
abbrev pub over_after_frame : Framed → List ℕ → Bool → Bool
over_after_frame framed.End bytes over = true
over_after_frame framed.Torn bytes over = true
over_after_frame _ bytes over = over_after_taking bytes over

-- the count of a link's faults after an answer: one more at `ReadFault`, the same at any other
abbrev pub faults_after_frame : Framed → ℕ → ℕ
faults_after_frame framed.ReadFault faults = one_more faults
faults_after_frame _ faults = faults

-- What was taken for an answer: the whole frame of the reply; no byte at the end of the connection, or a part of a reply; what
-- shows that this is no reply, and no byte more; a part of a reply, or no byte, where the link failed.
abbrev pub IsTakenForReply : ReplyRead → List ℕ → Type 0
IsTakenForReply (read.Reply r) bytes = IsReplyFrameOf r bytes
IsTakenForReply read.End bytes = bytes ≡ []
IsTakenForReply read.Torn bytes = (bytes ≢ []) × IsReplyPart bytes
IsTakenForReply read.Bad bytes = IsNoReply bytes
IsTakenForReply read.ReadFault bytes = IsReplyPart bytes

-- no byte is to come where the end was answered
abbrev pub IsAtReplysEnd : ReplyRead → Option (List ℕ) → Type 0
IsAtReplysEnd read.End left = IsAtEnd left
IsAtReplysEnd read.Torn left = IsAtEnd left
IsAtReplysEnd _ left = Unit {0}

-- whether a link is over after an answer for which these bytes were taken
abbrev pub over_after_reply : ReplyRead → List ℕ → Bool → Bool
over_after_reply read.End bytes over = true
over_after_reply read.Torn bytes over = true
over_after_reply _ bytes over = over_after_taking bytes over

-- the count of a link's faults after an answer: one more at `ReadFault`, the same at any other
abbrev pub faults_after_reply : ReplyRead → ℕ → ℕ
faults_after_reply read.ReadFault faults = one_more faults
faults_after_reply _ faults = faults
