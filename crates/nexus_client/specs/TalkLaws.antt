-- What every talk keeps, in other words than those of its steps.
use Rattle.std.specs.Prelude.{◌≡◌, ◌<◌, ◌≤◌, ◌+◌, ◌⊎◌, ◌≢◌, ℕ, List, [], ◌∷◌, ◌++◌, length, take, Bool, true, false}
use Rattle.std.specs.List.{All, concat, flat_map}
use Rattle.session_wire.specs.declared.replies.Reply.{Reply}
use Rattle.session_wire.specs.Frames.{HasFittingNumbers, reply_frame, reply_frames}
use Rattle.session_wire.specs.Replies.{IsNoReply, IsReplyPart}
use Rattle.nexus_client.specs.declared.ends.TalkEnd.{TalkEnd}
use Rattle.nexus_client.specs.declared.ends.TalkEnd.TheVariants as end
use Rattle.nexus_client.specs.Talks.{Talks, written_line}

-- the bytes begin with these
abbrev pub BeginsWith : List ℕ → List ℕ → Type 0
BeginsWith bytes front = (rest : List ℕ) × (bytes ≡ front ++ rest)

-- the lines of replies
abbrev pub written_lines : List Reply → List ℕ
written_lines replies = flat_map written_line replies

-- the bytes spell these replies and no more: they are their frames, and `rest`, which begins with none
pub record SpellsReplies (bytes : List ℕ) (replies : List Reply) (rest : List ℕ) : Type 0 where
  pub fit : All HasFittingNumbers replies
  pub frames : bytes ≡ reply_frames replies ++ rest
  pub none : (reply : Reply) (more : List ℕ) → HasFittingNumbers reply → rest ≢ reply_frame reply ++ more

-- bytes spell one list of replies
abbrev pub OneSpelling : Type 0
OneSpelling = (bytes : List ℕ) (rs ss : List Reply) (x y : List ℕ) → SpellsReplies bytes rs x → SpellsReplies bytes ss y → (rs ≡ ss) × (x ≡ y)

-- a reply was taken last, and these bytes were written of its line: the lines of the replies before it are written
pub record IsUnwritten (replies : List Reply) (written part : List ℕ) : Type 0 where
  pub before : List Reply
  pub last : Reply
  pub replies_are : replies ≡ before ++ last ∷ []
  pub n : ℕ
  pub part_is : part ≡ take n (written_line last)
  pub less : n < length (written_line last)
  pub written_is : written ≡ written_lines before ++ part

-- How far a talk came that ended so, by the replies that the taken bytes spell and what follows them. `Done`: all requests were
-- sent and answered, and the lines of all replies written. `Broken`: the lines of all replies were written, and one request at
-- least was not answered. `Ended`: so it is here, and the first request that was not answered was sent whole; what follows the
-- replies is no reply, or the link is over within a part of one. `Unwritten`: as many requests were sent as were answered, and of
-- the last reply's line a proper part was written. `Memory`: so it is here, and nothing of the line was written.
abbrev pub ComesTo : TalkEnd → List (List ℕ) → List ℕ → List ℕ → Bool → List Reply → List ℕ → Type 0
ComesTo end.Done requests sent written over replies rest =
    (length replies ≡ length requests) × (rest ≡ []) × (sent ≡ concat requests) × (written ≡ written_lines replies)
ComesTo end.Unreached requests sent written over replies rest = ⊥
ComesTo end.Broken requests sent written over replies rest = (length replies < length requests) × (written ≡ written_lines replies)
ComesTo end.Ended requests sent written over replies rest =
    (length replies < length requests) × (sent ≡ concat (take (length replies + 1) requests)) × (written ≡ written_lines replies)
    × ((IsNoReply rest × (over ≡ false)) ⊎ (IsReplyPart rest × (over ≡ true)))
ComesTo end.Unwritten requests sent written over replies rest =
    (length replies ≤ length requests) × (rest ≡ []) × (sent ≡ concat (take (length replies) requests)) × ((part : List ℕ) × IsUnwritten replies written part)
ComesTo end.Memory requests sent written over replies rest =
    (length replies ≤ length requests) × (rest ≡ []) × (sent ≡ concat (take (length replies) requests)) × IsUnwritten replies written []

-- What was sent is a front of the frames of the requests. Where it has a byte behind the frames of the first k, each of these was
-- answered, and the line of each of their replies is written: so each line is written before the next frame is sent. What was
-- written is the lines of the replies that the taken bytes spell, or a front of these lines.
pub record IsInOrder (requests : List (List ℕ)) (sent taken written : List ℕ) (over : Bool) (e : TalkEnd) : Type 0 where
  pub replies : List Reply
  pub rest : List ℕ
  pub spelled : SpellsReplies taken replies rest
  pub sent_front : BeginsWith (concat requests) sent
  pub answered : (k : ℕ) → length (concat (take k requests)) < length sent → (k ≤ length replies) × BeginsWith written (written_lines (take k replies))
  pub written_front : BeginsWith (written_lines replies) written
  pub comes_to : ComesTo e requests sent written over replies rest

-- every talk keeps this order
abbrev pub TalksAreInOrder : Type 0
TalksAreInOrder = (requests : List (List ℕ)) (sent taken written : List ℕ) (over : Bool) (e : TalkEnd) → Talks requests sent taken written over e → IsInOrder requests sent taken written over e
