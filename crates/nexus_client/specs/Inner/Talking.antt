-- What passes in one exchange: a request is sent, and its reply is taken and written.
use Rattle.std.specs.Prelude.{◌≡◌, ℕ, List, ◌∷◌, ◌++◌, Bool, false, Option, Some, None}
use Rattle.session_wire.specs.declared.replies.Reply.{Reply}
use Rattle.session_wire.specs.Frames.{HasFittingNumbers, reply_frame}
use Rattle.nx_io.specs.Streams.{Sends, SendsPart}
use Rattle.nexus_client.specs.declared.ends.TalkEnd.{TalkEnd}
use Rattle.nexus_client.specs.declared.ends.TalkEnd.TheVariants as end
use Rattle.nexus_client.specs.Talks.{Talks, link_faults_after, sink_faults_after, written_line}

-- a whole exchange: the bytes of one reply were taken, and its line was written
pub record IsAnswered (request sent taken written : List ℕ) (over : Bool) : Type 0 where
  pub reply : Reply
  pub fits : HasFittingNumbers reply
  pub sent_is : sent ≡ request
  pub taken_is : taken ≡ reply_frame reply
  pub written_is : written ≡ written_line reply
  pub over_is : over ≡ false

-- what passed in an exchange, and how the talk ended with it: none where it goes on
abbrev pub Passes : Option TalkEnd → List ℕ → List ℕ → List ℕ → List ℕ → Bool → Type 0
Passes None request sent taken written over = IsAnswered request sent taken written over
Passes (Some e) request sent taken written over = (requests : List (List ℕ)) → Talks (request ∷ requests) sent taken written over e

-- what came of the writing of a reply's line: it was written whole, or in part, or there was no memory for it
abbrev pub IsWritten : Option TalkEnd → Reply → List ℕ → List ℕ → Type 0
IsWritten None reply written written_now = Sends written written_now (written_line reply)
IsWritten (Some end.Unwritten) reply written written_now = SendsPart written written_now (written_line reply)
IsWritten (Some end.Memory) reply written written_now = written_now ≡ written
IsWritten (Some _) reply written written_now = ⊥

-- what passed in an exchange, by what the link and the sink tell before and after
pub record Exchanges (end : Option TalkEnd) (request sent sent_now taken taken_now written written_now : List ℕ) (over : Bool) : Type 0 where
  pub sent_more : List ℕ
  pub taken_more : List ℕ
  pub written_more : List ℕ
  pub sent_is : sent_now ≡ sent ++ sent_more
  pub taken_is : taken_now ≡ taken ++ taken_more
  pub written_is : written_now ≡ written ++ written_more
  pub passes : Passes end request sent_more taken_more written_more over

-- what passed in a talk, by what the link and the sink tell before and after
pub record TalksMore (end : TalkEnd) (requests : List (List ℕ)) (sent sent_now taken taken_now written written_now : List ℕ) (over : Bool) : Type 0 where
  pub sent_more : List ℕ
  pub taken_more : List ℕ
  pub written_more : List ℕ
  pub sent_is : sent_now ≡ sent ++ sent_more
  pub taken_is : taken_now ≡ taken ++ taken_more
  pub written_is : written_now ≡ written ++ written_more
  pub talks : Talks requests sent_more taken_more written_more over end

-- the count of a link's faults after an exchange, and that of a sink's
abbrev pub link_faults_so_far : Option TalkEnd → ℕ → ℕ
link_faults_so_far None faults = faults
link_faults_so_far (Some e) faults = link_faults_after e faults

abbrev pub sink_faults_so_far : Option TalkEnd → ℕ → ℕ
sink_faults_so_far None faults = faults
sink_faults_so_far (Some e) faults = sink_faults_after e faults
