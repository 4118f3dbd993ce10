-- A talk over a link: requests are sent, and the reply to each is taken and its line written before the next is sent.
use Rattle.std.specs.Prelude.{◌<◌, ℕ, List, [], ◌∷◌, ◌++◌, length, take, Bool, true, false, Option, Some, None}
use Rattle.nx_io.specs.DoorCalls.{DoorCall, dialed, not_dialed}
use Rattle.nx_io.specs.Streams.{one_more}
use Rattle.policy_history.specs.PolicyTexts.{ended}
use Rattle.session_wire.specs.declared.replies.Reply.{Reply}
use Rattle.session_wire.specs.Frames.{HasFittingNumbers, reply_frame}
use Rattle.session_wire.specs.Replies.{IsNoReply, IsReplyPart}
use Rattle.journal_text.specs.ReplyLines.{reply_text}
use Rattle.nexus_client.specs.declared.ends.TalkEnd.{TalkEnd}
use Rattle.nexus_client.specs.declared.ends.TalkEnd.TheVariants as end

-- what is written of a reply: its line, with the line feed
abbrev pub written_line : Reply → List ℕ
written_line reply = ended (reply_text reply)

-- `Talks requests sent taken written over end`: of the requests with these frames these bytes were sent; these were taken, and
-- these written; and the talk ended so, the link being over or not. It goes request by request. One was sent whole, the bytes of
-- one reply were taken and its line was written, and then the talk went on with the next. Or it ended there: the link failed
-- before the frame was sent, or before the reply was taken; the link ended before a whole reply; what was taken shows that it is
-- no reply; or the reply's line was not written whole, since the sink failed or there was no memory for it.
pub data Talks : List (List ℕ) → List ℕ → List ℕ → List ℕ → Bool → TalkEnd → Type 0 where
  done : Talks [] [] [] [] false end.Done
  answered : {requests : List (List ℕ)} {sent taken written : List ℕ} {over : Bool} {e : TalkEnd} (request : List ℕ) (reply : Reply) → HasFittingNumbers reply
      → Talks requests sent taken written over e
      → Talks (request ∷ requests) (request ++ sent) (reply_frame reply ++ taken) (written_line reply ++ written) over e
  unsent : {requests : List (List ℕ)} (request : List ℕ) (n : ℕ) → n < length request → Talks (request ∷ requests) (take n request) [] [] false end.Broken
  untaken : {requests : List (List ℕ)} (request part : List ℕ) → IsReplyPart part → Talks (request ∷ requests) request part [] false end.Broken
  cut_off : {requests : List (List ℕ)} (request part : List ℕ) → IsReplyPart part → Talks (request ∷ requests) request part [] true end.Ended
  no_reply : {requests : List (List ℕ)} (request bytes : List ℕ) → IsNoReply bytes → Talks (request ∷ requests) request bytes [] false end.Ended
  unwritten : {requests : List (List ℕ)} (request : List ℕ) (reply : Reply) (n : ℕ) → HasFittingNumbers reply → n < length (written_line reply)
      → Talks (request ∷ requests) request (reply_frame reply) (take n (written_line reply)) false end.Unwritten
  no_memory : {requests : List (List ℕ)} (request : List ℕ) (reply : Reply) → HasFittingNumbers reply
      → Talks (request ∷ requests) request (reply_frame reply) [] false end.Memory

-- the one call of the door, by the link that it gave
abbrev pub talk_call : {L : Type 0} → List ℕ → Option L → DoorCall
talk_call address (Some link) = dialed address
talk_call address None = not_dialed address

-- how often a link has failed, after a talk that ended so and before it is closed
abbrev pub link_faults_after : TalkEnd → ℕ → ℕ
link_faults_after end.Broken faults = one_more faults
link_faults_after _ faults = faults

-- how often a sink has failed, after a talk that ended so
abbrev pub sink_faults_after : TalkEnd → ℕ → ℕ
sink_faults_after end.Unwritten faults = one_more faults
sink_faults_after _ faults = faults

-- ends that no failure makes
abbrev pub IsUnbroken : TalkEnd → Type 0
IsUnbroken end.Done = Unit {0}
IsUnbroken end.Ended = Unit {0}
IsUnbroken end.Memory = Unit {0}
IsUnbroken _ = ⊥
