-- The laws of frames.
use Rattle.std.specs.Prelude.{◌≡◌, ℕ, List, [], ◌++◌}
use Rattle.session_wire.specs.declared.requests.Request.{Request}
use Rattle.session_wire.specs.declared.replies.Reply.{Reply}
use Rattle.session_wire.specs.declared.fields.FrameFault.{FrameFault}
use Rattle.session_wire.specs.declared.frame_reader.Framed.TheVariants as framed
use Rattle.session_wire.specs.declared.reply_reader.ReplyRead.TheVariants as read
use Rattle.session_wire.specs.Answers.{IsTakenFor, IsTakenForReply}
use Rattle.session_wire.specs.Frames.{HasFittingNumbers, HasFrame, reply_frame, request_frame}
use Rattle.session_wire.specs.Beginnings.{AreRequests, Beginning, Begins}
use Rattle.session_wire.specs.Beginnings as first
use Rattle.session_wire.specs.Replies.{BeginsReply, ReplyBeginning}
use Rattle.session_wire.specs.Replies as answer

-- no bytes begin in two ways
abbrev pub OneBeginning : Type 0
OneBeginning = (start : ℕ) (bytes : List ℕ) (a b : Beginning) (x y : List ℕ) → Begins start bytes a x → Begins start bytes b y → (a ≡ b) × (x ≡ y)

-- the frame of a request, whatever follows it, begins with that request and in no other way
abbrev pub FramesAreReadBack : Type 0
FramesAreReadBack = (start : ℕ) (q : Request) (rest : List ℕ) → HasFrame q
    → Begins start (request_frame q ++ rest) (first.request q) rest × ((b : Beginning) (y : List ℕ) → Begins start (request_frame q ++ rest) b y → (b ≡ first.request q) × (y ≡ rest))

-- bytes that begin with a request are its frame and what follows
abbrev pub RequestsAreWrittenBack : Type 0
RequestsAreWrittenBack = (start : ℕ) (bytes : List ℕ) (q : Request) (rest : List ℕ) → Begins start bytes (first.request q) rest → bytes ≡ request_frame q ++ rest

-- no bytes begin with a reply in two ways
abbrev pub OneReplyBeginning : Type 0
OneReplyBeginning = (bytes : List ℕ) (a b : ReplyBeginning) (x y : List ℕ) → BeginsReply bytes a x → BeginsReply bytes b y → (a ≡ b) × (x ≡ y)

-- the frame of a reply, whatever follows it, begins with that reply and in no other way
abbrev pub RepliesAreReadBack : Type 0
RepliesAreReadBack = (r : Reply) (rest : List ℕ) → HasFittingNumbers r
    → BeginsReply (reply_frame r ++ rest) (answer.reply r) rest × ((b : ReplyBeginning) (y : List ℕ) → BeginsReply (reply_frame r ++ rest) b y → (b ≡ answer.reply r) × (y ≡ rest))

-- bytes that begin with a reply are its frame and what follows
abbrev pub RepliesAreWrittenBack : Type 0
RepliesAreWrittenBack = (bytes : List ℕ) (r : Reply) (rest : List ℕ) → BeginsReply bytes (answer.reply r) rest → bytes ≡ reply_frame r ++ rest

-- the bytes of a connection are the frames of requests in one way
abbrev pub OneReading : Type 0
OneReading = (bytes : List ℕ) (qs rs : List Request) (a b : Beginning) → AreRequests bytes qs a → AreRequests bytes rs b → (qs ≡ rs) × (a ≡ b)

-- What is taken for an answer, and what follows it, begin as the answer tells; the bytes of a connection that has ended there
-- are an edge, or a part of a frame.
pub record AnswersAreBeginnings : Type 0 where
  pub request : (start : ℕ) (q : Request) (taken rest : List ℕ) → IsTakenFor (framed.Request q) start taken → Begins start (taken ++ rest) (first.request q) rest
  pub bad : (start : ℕ) (fault : FrameFault) (place : ℕ) (taken rest : List ℕ) → IsTakenFor (framed.Bad fault place) start taken → Begins start (taken ++ rest) (first.bad fault place) rest
  pub end_is : (start : ℕ) (taken : List ℕ) → IsTakenFor framed.End start taken → Begins start taken first.edge []
  pub torn : (start : ℕ) (taken : List ℕ) → IsTakenFor framed.Torn start taken → Begins start taken first.torn []

-- the same where a reply is read
pub record ReplyAnswersAreBeginnings : Type 0 where
  pub reply : (r : Reply) (taken rest : List ℕ) → IsTakenForReply (read.Reply r) taken → BeginsReply (taken ++ rest) (answer.reply r) rest
  pub bad : (taken rest : List ℕ) → IsTakenForReply read.Bad taken → BeginsReply (taken ++ rest) answer.bad rest
  pub end_is : (taken : List ℕ) → IsTakenForReply read.End taken → BeginsReply taken answer.edge []
  pub torn : (taken : List ℕ) → IsTakenForReply read.Torn taken → BeginsReply taken answer.torn []
