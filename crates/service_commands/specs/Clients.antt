-- How a run of `client` or `import` ends: the status, what the source gave, the link that was dialed, and what was written.
use Rattle.std.specs.Prelude.{◌≡◌, ◌⊎◌, ◌≤◌, ◌∷◌, ℕ, List, [], codes, length, true, Option, Some, None}
use Rattle.input_flaws.specs.LineFlaws.{IsFlawAt}
use Rattle.nx_io.specs.DoorCalls.{dialed as dialed_to, faults_in, not_dialed}
use Rattle.nx_io.specs.Streams.{MayRise, Rose}
use Rattle.nexus_client.specs.declared.ends.TalkEnd.{TalkEnd}
use Rattle.nexus_client.specs.declared.ends.TalkEnd.TheVariants.{Done, Unreached, Broken, Ended, Unwritten, Memory}
use Rattle.nexus_client.specs.declared.inputs.TalkInput.{TalkInput}
use Rattle.nexus_client.specs.declared.inputs.TalkInput.TheVariants.{RequestLines, PeerBundle}
use Rattle.nexus_client.specs.TalkInputs.{AreFramesOf, IsWrongLineOf}
use Rattle.nexus_client.specs.TalkLaws.{IsInOrder}
use Rattle.nexus_client.specs.Talks.{Talks, link_faults_after, sink_faults_after}
use Rattle.nexus_serve.specs.Hosting.{HasCalled}
use Rattle.nx_io.specs.Views.{DoorView, LinkView}
use Rattle.run_streams.specs.Ends.{EndsUnanswered}
use Rattle.run_streams.specs.Refusals.{Form, IsRefusedInput, RefusesExactly, form_of}
use Rattle.run_streams.specs.Runs.{IsReadWhole, SinkRun, SourceRun, most_bytes}

-- behind which words a formula stands in a line of such an input
abbrev pub formula_words : TalkInput → List (List ℕ)
formula_words RequestLines = []
formula_words PeerBundle = codes "label " ∷ []

-- the form of the inputs of a talk: lines of requests, or a peer and a bundle; and of another text the lowest wrong line, and what is wrong with it
abbrev pub requests_form : TalkInput → Form
requests_form input = form_of (λ text. (frames : List (List ℕ)) × AreFramesOf input text frames) (λ text k flaw. IsWrongLineOf input text k × IsFlawAt (formula_words input) [] text k flaw)

-- the input asks for the requests with these frames
pub record AreRequestsOf (input : TalkInput) (source : SourceRun) (frames : List (List ℕ)) : Type 0 where
  pub small : length source.given ≤ most_bytes
  pub form : AreFramesOf input source.given frames
  pub whole : IsReadWhole source

-- the status of a talk that ended so
abbrev pub client_status : TalkEnd → ℕ
client_status Done = 0
client_status Unwritten = 5
client_status Memory = 6
client_status Unreached = 7
client_status Broken = 7
client_status Ended = 9

-- The link was dialed at this address, and over it a talk with these requests ended so, the link being closed then. All that was written is the lines of the
-- replies; and no count rose but that of what failed. A link may also fail as it is closed.
pub record HasTalked (address : List ℕ) (frames : List (List ℕ)) (sink : SinkRun) (link : LinkView) (end : TalkEnd) : Type 0 where
  pub talks : Talks frames link.sent link.taken sink.sent link.over end
  pub in_order : IsInOrder frames link.sent link.taken sink.sent link.over end
  pub toward : link.toward ≡ Some address
  pub closed : link.closed ≡ true
  pub place : link.place ≡ 0
  pub link_count : MayRise (link_faults_after end 0) link.faults
  pub sink_count : sink.faults_now ≡ sink_faults_after end sink.faults

-- A talk that is asked for by such an input ends with this status: the requests were read, and a talk over a link to the address ended; or no link could be dialed, and
-- nothing was written; or nothing is answered to the input, and the door is as it was.
pub data EndsClient (input : TalkInput) (address : List ℕ) (source : SourceRun) (sink : SinkRun) (door door_now : DoorView) (dialed : Option LinkView) (status : ℕ) : Type 0 where
  talked : (frames : List (List ℕ)) (link : LinkView) (end : TalkEnd) → dialed ≡ Some link → status ≡ client_status end → AreRequestsOf input source frames
      → HasTalked address frames sink link end → HasCalled (dialed_to address ∷ []) door door_now → source.faults_now ≡ source.faults → EndsClient input address source sink door door_now dialed status
  unreached : (frames : List (List ℕ)) → dialed ≡ None → status ≡ 7 → AreRequestsOf input source frames → HasCalled (not_dialed address ∷ []) door door_now → sink.sent ≡ []
      → source.faults_now ≡ source.faults → sink.faults_now ≡ sink.faults → EndsClient input address source sink door door_now dialed status
  undialed : dialed ≡ None → door_now ≡ door → EndsUnanswered (requests_form input) source sink status → EndsClient input address source sink door door_now dialed status

-- a talk was had to this end
abbrev pub HasEnded : TalkInput → List ℕ → SourceRun → SinkRun → Option LinkView → ℕ → TalkEnd → Type 0
HasEnded input address source sink dialed status end =
    (frames : List (List ℕ)) × (link : LinkView) × (dialed ≡ Some link) × AreRequestsOf input source frames × HasTalked address frames sink link end × (status ≡ client_status end)

-- Where neither source nor sink, neither door nor link failed, an input that is not refused is talked over to the last reply, or until the link ended or what came was no
-- reply; or there was no memory.
abbrev pub IsCompleteClient : TalkInput → List ℕ → SourceRun → SinkRun → DoorView → DoorView → Option LinkView → ℕ → Type 0
IsCompleteClient input address source sink door door_now dialed status =
    ¬ Rose source.faults source.faults_now → ¬ Rose sink.faults sink.faults_now → ¬ Rose (faults_in door.calls) (faults_in door_now.calls)
    → ((link : LinkView) → dialed ≡ Some link → link.faults ≡ 0) → ¬ IsRefusedInput (requests_form input) source.given
    → (status ≡ 6) ⊎ HasEnded input address source sink dialed status Done ⊎ HasEnded input address source sink dialed status Ended

-- a run of `client`, or of `import`
pub record RunsClient (input : TalkInput) (address : List ℕ) (source : SourceRun) (sink : SinkRun) (door door_now : DoorView) (dialed : Option LinkView) (status : ℕ) : Type 0 where
  pub ends : EndsClient input address source sink door door_now dialed status
  pub complete : IsCompleteClient input address source sink door door_now dialed status
  pub refuses : RefusesExactly (requests_form input) source status
