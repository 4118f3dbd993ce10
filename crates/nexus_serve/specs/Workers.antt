-- What workers do: each serves the links that its door gives, one after another; its panel is asked for them, and its keeper is sent the records
-- of their calls.
use Rattle.std.specs.Prelude.{◌≡◌, ◌≢◌, ◌<◌, ◌+◌, ◌⊎◌, ℕ, List, [], ◌∷◌, ◌++◌, length, replicate, true, None}
use Rattle.std.specs.Option.{is_some}
use Rattle.nx_io.specs.Streams.{Gave, MayRise, Rose}
use Rattle.nx_io.specs.Links.{IsFreshLink}
use Rattle.nx_io.specs.DoorCalls.{faults_in, gave, gave_in, next_call}
use Rattle.nx_io.specs.Doors.{Gives, IfGiven}
use Rattle.nx_io.specs.declared.doors.Next.{Next}
use Rattle.nx_io.specs.declared.doors.Next.TheVariants.{Link as NextLink, NoMore as NextNoMore, Failed as NextFailed}
use Rattle.nx_io.specs.Views.{DoorView, LinkView}
use Rattle.policy_history.specs.declared.heads.Head.{Head}
use Rattle.authority_ask.specs.PanelCalls.{HasOnlyAsked, asked_since}
use Rattle.session_core.specs.Ends.{faults_after_end, is_over}
use Rattle.session_core.specs.Served.{IsServedSo, UnrecordedOnlyWhere}
use Rattle.nexus_serve.specs.declared.closing.ServeEnd.{ServeEnd}
use Rattle.nexus_serve.specs.declared.closing.ServeEnd.TheVariants.{Done, DoorFault}
use Rattle.nexus_serve.specs.Views.{ReportView, reported}
use Rattle.nexus_serve.specs.Means.{MeansHistory}

-- What a door answered to `next`, which was its one call: a link that it gives is the first to come, is fresh, and has as its place the
-- number of links that were given with it
pub record HasAnswered (given : Next LinkView) (door door_now : DoorView) : Type 0 where
  pub fresh : IfGiven given (λ (link : LinkView). IsFreshLink link.taken link.sent link.over link.closed link.admitted link.faults)
  pub place : IfGiven given (λ (link : LinkView). link.place ≡ gave_in door_now.calls)
  pub toward : IfGiven given (λ (link : LinkView). link.toward ≡ None)
  pub links : Gives given door.links door_now.links
  pub calls : door_now.calls ≡ door.calls ++ next_call given ∷ []
  pub origin : door_now.origin ≡ door.origin

-- A link behind its session: it is the one that was given; what was taken of it was to come; it is closed; it was told that its peer is
-- admitted exactly where somebody was; whether it is over, and how often it has failed, is by the end of the session
pub record HasComeFrom (link : LinkView) (report : ReportView) : Type 0 where
  pub bytes : Gave link.left report.link.left link.taken report.link.taken
  pub place : report.link.place ≡ link.place
  pub toward : report.link.toward ≡ link.toward
  pub over : report.link.over ≡ is_over report.end
  pub closed : report.link.closed ≡ true
  pub admitted : report.link.admitted ≡ is_some report.who
  pub faults : MayRise (faults_after_end report.end link.faults) report.link.faults

-- A session was told what its report says, with what the panel was asked in it, and nothing else was made of the panel. The last `later`
-- steps of its pass were made behind its end. What was recorded of its calls was sent behind what was sent before it. A change was told not to be
-- recorded only where `Failed` holds.
pub record IsHeard (h : Head) (low later : ℕ) (Failed : Type 0) (report : ReportView) (means means_now : MeansHistory) : Type 0 where
  pub asked : HasOnlyAsked means.panel means_now.panel
  pub served : IsServedSo h low (reported report) (asked_since means.panel means_now.panel) later means.kept means_now.kept
  pub recorded : UnrecordedOnlyWhere Failed served.requests served.replies

-- `Works h low later Failed first door means reports door_now means_now`: a worker has served the links of its door in their order, with its
-- means, in sessions that are numbered from `first` on.
pub data Works (h : Head) (low later : ℕ) (Failed : Type 0) (first : ℕ) (door : DoorView) (means : MeansHistory) : List ReportView → DoorView → MeansHistory → Type 0 where
  nobody : Works h low later Failed first door means [] door means
  next : {reports : List ReportView} {door_then : DoorView} {means_then : MeansHistory} (report : ReportView) (link : LinkView) (door_now : DoorView) (means_now : MeansHistory)
      → Works h low later Failed first door means reports door_then means_then
      → HasAnswered (NextLink link) door_then door_now → HasComeFrom link report → (report.session ≡ first + length reports) × (report.pass.session ≡ report.session)
      → IsHeard h low later Failed report means_then means_now
      → Works h low later Failed first door means (reports ++ report ∷ []) door_now means_now

-- Why a worker of a service that ends so stops: it has served as many links as it may; or fewer, and its door has no more; or the door has
-- failed, and the end tells it; or there was no memory for one more session, so that nothing more was asked of the door, and the end is not `Done`
pub data Stops (end : ServeEnd) (most count : ℕ) (door door_now : DoorView) : Type 0 where
  all : count ≡ most → door_now ≡ door → Stops end most count door door_now
  no_more : count < most → HasAnswered NextNoMore door door_now → Stops end most count door door_now
  failed : count < most → HasAnswered NextFailed door door_now → end ≡ DoorFault → Stops end most count door door_now
  no_room : count < most → door_now ≡ door → end ≢ Done → Stops end most count door door_now

-- a worker has served its links, at most so many, and stopped
pub record HasWorked (h : Head) (low later : ℕ) (Failed : Type 0) (end : ServeEnd) (first most : ℕ) (door door_now : DoorView) (means means_now : MeansHistory) (reports : List ReportView) : Type 0 where
  pub door_then : DoorView
  pub works : Works h low later Failed first door means reports door_then means_now
  pub stops : Stops end most (length reports) door_then door_now

-- The workers, in the order of their doors and means, have worked, the first of them in sessions numbered from `first` on, and each in
-- the next `most` numbers. The reports stand worker by worker.
abbrev pub HaveWorked : Head → ℕ → ℕ → Type 0 → ServeEnd → ℕ → ℕ → List DoorView → List DoorView → List MeansHistory → List MeansHistory → List ReportView → Type 0
HaveWorked h low later Failed end first most [] [] [] [] reports = reports ≡ []
HaveWorked h low later Failed end first most (door ∷ doors) (door_now ∷ doors_now) (own ∷ means) (own_now ∷ means_now) reports =
    (mine : List ReportView) × (others : List ReportView) × (reports ≡ mine ++ others) × HasWorked h low later Failed end first most door door_now own own_now mine
    × HaveWorked h low later Failed end (first + most) most doors doors_now means means_now others
HaveWorked h low later Failed end first most _ _ _ _ reports = ⊥

-- The door of a worker gave each link that it was asked for, which are fewer than so many, and was asked for nothing else
abbrev pub IsCutShort : ℕ → DoorView → DoorView → Type 0
IsCutShort most door door_now = (count : ℕ) × (count < most) × (door_now.calls ≡ door.calls ++ replicate count gave)

-- So it is with some worker: it stopped, and not by an answer of its door
abbrev pub SomeCutShort : ℕ → List DoorView → List DoorView → Type 0
SomeCutShort most (door ∷ doors) (door_now ∷ doors_now) = IsCutShort most door door_now ⊎ SomeCutShort most doors doors_now
SomeCutShort most _ _ = ⊥

-- some door has failed, by the count of its calls that did
abbrev pub SomeFailed : List DoorView → List DoorView → Type 0
SomeFailed (door ∷ doors) (door_now ∷ doors_now) = Rose (faults_in door.calls) (faults_in door_now.calls) ⊎ SomeFailed doors doors_now
SomeFailed _ _ = ⊥
