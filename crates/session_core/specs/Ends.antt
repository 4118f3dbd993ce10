-- How a session over a link ends, by what was taken from the link and sent to it.
use Rattle.std.specs.Prelude.{◌≡◌, ◌≢◌, ◌<◌, ◌≤◌, ℕ, List, [], ◌∷◌, ◌++◌, length, map, take, Bool, true, false, None}
use Rattle.std.specs.Option.{is_some}
use Rattle.nx_io.specs.Streams.{one_more}
use Rattle.policy_history.specs.declared.heads.Head.{Head}
use Rattle.policy_history.specs.Events.{EntryTree}
use Rattle.authority_ask.specs.Panels.{Told}
use Rattle.session_wire.specs.declared.requests.Request.{Request}
use Rattle.session_wire.specs.declared.replies.Reply.{Reply}
use Rattle.session_wire.specs.declared.replies.Reply.TheVariants.{Bad}
use Rattle.session_wire.specs.declared.fields.FrameFault.{FrameFault}
use Rattle.session_wire.specs.Frames.{reply_frame, reply_frames, request_frames}
use Rattle.session_wire.specs.Beginnings.{IsBad, IsPart, Spells}
use Rattle.session_core.specs.declared.lines.Asking.{Asking}
use Rattle.session_core.specs.declared.ends.SessionEnd.{SessionEnd}
use Rattle.session_core.specs.declared.ends.SessionEnd.TheVariants.{Closed, Torn, BadFrame, ReadFault, WriteFault, Spent, Memory}
use Rattle.session_core.specs.Sessions.{Point, Told1, admitted_in}

-- how many requests a session answers at most
abbrev pub most_requests : ℕ
most_requests = 1048576

-- Behind the frames of the requests stand bytes that are no frame of a request, and none more than it takes to know that. The
-- place of the fault counts from the first byte of all.
pub record IsBadBehind (taken : List ℕ) (requests : List Request) (place : ℕ) : Type 0 where
  pub rest : List ℕ
  pub fault : FrameFault
  pub spelled : Spells taken requests rest
  pub bad : IsBad (length (request_frames requests)) rest fault place

-- `HasEnded end taken sent requests replies`: a session that answered these requests with these replies ended so. What was
-- sent is the frames of the replies, one after another, and behind them only what its end allows.
pub data HasEnded (end : SessionEnd) (taken sent : List ℕ) (requests : List Request) (replies : List Reply) : Type 0 where
  -- the link ended behind the last frame
  closed : end ≡ Closed → Spells taken requests [] → length requests < most_requests → sent ≡ reply_frames replies → HasEnded end taken sent requests replies
  -- it ended within a frame
  torn : (rest : List ℕ) → end ≡ Torn → Spells taken requests rest → rest ≢ [] → IsPart rest → length requests < most_requests → sent ≡ reply_frames replies
      → HasEnded end taken sent requests replies
  -- what came next is no frame of a request, and was answered so
  bad_frame : (place : ℕ) → end ≡ BadFrame place → IsBadBehind taken requests place → length requests < most_requests → sent ≡ reply_frames replies ++ reply_frame (Bad place)
      → HasEnded end taken sent requests replies
  -- the link failed as more was to be taken, at a frame's edge or within a frame
  read_fault : (rest : List ℕ) → end ≡ ReadFault → Spells taken requests rest → IsPart rest → length requests < most_requests → sent ≡ reply_frames replies
      → HasEnded end taken sent requests replies
  -- it failed within the frame of the last reply, and nothing was taken behind the last request
  reply_unsent : (before : List Reply) (last : Reply) (n : ℕ) → end ≡ WriteFault → Spells taken requests [] → length requests ≤ most_requests → replies ≡ before ++ last ∷ []
      → n < length (reply_frame last) → sent ≡ reply_frames before ++ take n (reply_frame last) → HasEnded end taken sent requests replies
  -- it failed within the answer to what is no frame of a request
  bad_unsent : (place n : ℕ) → end ≡ WriteFault → IsBadBehind taken requests place → length requests < most_requests → n < length (reply_frame (Bad place))
      → sent ≡ reply_frames replies ++ take n (reply_frame (Bad place)) → HasEnded end taken sent requests replies
  -- as many requests were answered as a session may have
  spent : end ≡ Spent → Spells taken requests [] → length requests ≡ most_requests → sent ≡ reply_frames replies → HasEnded end taken sent requests replies
  -- there was no memory to begin with, and nothing was taken
  no_memory : end ≡ Memory → taken ≡ [] → sent ≡ [] → requests ≡ [] → replies ≡ [] → HasEnded end taken sent requests replies

-- whether the link had ended, by the end of its session
abbrev pub is_over : SessionEnd → Bool
is_over Closed = true
is_over Torn = true
is_over _ = false

-- the count of a link's faults by the end of its session: one more where that is a fault, the same otherwise
abbrev pub faults_after_end : SessionEnd → ℕ → ℕ
faults_after_end ReadFault faults = one_more faults
faults_after_end WriteFault faults = one_more faults
faults_after_end _ faults = faults

-- the requests of a session that is alone, in the first place
abbrev pub askings_of : List Request → List Asking
askings_of requests = map (λ (q : Request). record { place = 0; request = q }) requests

-- the point behind these entries of a session that is alone, in which nobody is admitted yet
abbrev pub at_first : List EntryTree → Point
at_first es = record { entries = es; admitted = None ∷ [] }

-- A session over a link was served, and ended so. The frames that were taken are those of its requests, which are told their
-- replies behind the entries of the journal, one after another; what was added to the journal comes of them alone, and so do
-- the asks. The link says whether its peer was admitted, which is so exactly where somebody is at the end.
pub record IsServed (end : SessionEnd) (h : Head) (session : ℕ) (es es_now : List EntryTree) (taken sent : List ℕ) (asks : List Told) (admitted : Bool) : Type 0 where
  pub requests : List Request
  pub replies : List Reply
  pub last : Point
  pub ended : HasEnded end taken sent requests replies
  pub told : Told1 h session (at_first es) (askings_of requests) replies asks last
  pub entries : last.entries ≡ es_now
  pub admitted_is : admitted ≡ is_some (admitted_in last 0)
