-- How far a worker is.
use Rattle.std.specs.Prelude.{◌≡◌, ◌≢◌, ◌<◌, ◌+◌, ℕ, List, [], ◌∷◌, length, All, Bool, true, false, if◌then◌else◌}
use Rattle.nx_io.specs.Views.{DoorView}
use Rattle.nexus_serve.specs.Means.{MeansHistory}
use Rattle.nx_io.specs.Streams.{Rose}
use Rattle.nx_io.specs.DoorCalls.{faults_in}
use Rattle.policy_history.specs.declared.events.Entry.{Entry}
use Rattle.policy_history.specs.declared.heads.Head.{Head}
use Rattle.verdict_words.specs.Values.{Identity, PassValue}
use Rattle.nexus_serve.specs.declared.closing.ServeEnd.{ServeEnd}
use Rattle.nexus_serve.specs.declared.closing.ServeEnd.TheVariants.{Done, DoorFault, NoRoom}
use Rattle.nexus_serve.specs.Views.{ReportView}
use Rattle.nexus_serve.specs.Workers.{HasWorked, IsCutShort, Works}

-- What contracts see of a worker: the number of its first session, its door and its means, the passes that it has not used, the reports of
-- its sessions, whether its door has failed, whether there was no memory for one more report, and of the share of the ledger that it holds the
-- parts, and how many changes were told not to be recorded by its sessions
pub record WorkerValue (M : Type 0) : Type 0 where
  pub first : ℕ
  pub door : DoorView
  pub means : M
  pub passes : List (PassValue Entry Head)
  pub reports : List ReportView
  pub has_failed : Bool
  pub lacks_room : Bool
  pub parts : ℕ
  pub unrecorded : ℕ

-- how a service ends whose doors have failed or not, and whose workers had no memory for one more session or not
abbrev pub end_of : Bool → Bool → ServeEnd
end_of has_failed lacks_room = if has_failed then DoorFault else if lacks_room then NoRoom else Done

-- a pass that was not used: nothing was done with it, and no entry has its session
pub record IsUnused (board : Identity Entry Head) (pass : PassValue Entry Head) : Type 0 where
  pub board_is : pass.board ≡ board
  pub trail : pass.trail ≡ []
  pub unused : All (λ (entry : Entry). entry.session ≢ pass.session) pass.seen

-- the passes have the sessions from this number on, one after another
abbrev pub AreNumbered : ℕ → List (PassValue Entry Head) → Type 0
AreNumbered first [] = Unit {0}
AreNumbered first (pass ∷ passes) = (pass.session ≡ first) × AreNumbered (first + 1) passes

-- a worker that has not begun
pub record IsHired {M : Type 0} (board : Identity Entry Head) (first most : ℕ) (worker : WorkerValue M) : Type 0 where
  pub first_is : worker.first ≡ first
  pub numbered : AreNumbered first worker.passes
  pub count : length worker.passes ≡ most
  pub unused : All (IsUnused board) worker.passes
  pub reports : worker.reports ≡ []
  pub failed : worker.has_failed ≡ false
  pub short : worker.lacks_room ≡ false
  pub has_part : 0 < worker.parts
  pub recorded : worker.unrecorded ≡ 0

-- a worker on its way, from where it began; so many changes were told not to be recorded. It leaves its share alone
pub record IsWorking {M : Type 0} (history : M → MeansHistory) (board : Identity Entry Head) (told : ℕ) (start now : WorkerValue M) : Type 0 where
  pub works : Works board.origin.setting (length board.origin.opening) 0 (0 < told) start.first start.door (history start.means) now.reports now.door (history now.means)
  pub first_is : now.first ≡ start.first
  pub numbered : AreNumbered (start.first + length now.reports) now.passes
  pub count : length now.reports + length now.passes ≡ length start.passes
  pub unused : All (IsUnused board) now.passes
  pub used : All (λ (report : ReportView). report.pass.board ≡ board) now.reports
  pub failed : now.has_failed ≡ false
  pub short : now.lacks_room ≡ false
  pub parts : now.parts ≡ start.parts
  pub unrecorded : now.unrecorded ≡ start.unrecorded

-- a worker that has stopped, from where it began; so many changes were told not to be recorded
pub record IsDone {M : Type 0} (history : M → MeansHistory) (board : Identity Entry Head) (told : ℕ) (start now : WorkerValue M) : Type 0 where
  pub fault : now.has_failed ≡ true → Rose (faults_in start.door.calls) (faults_in now.door.calls)
  pub short : now.lacks_room ≡ true → IsCutShort (length start.passes) start.door now.door
  pub worked : HasWorked board.origin.setting (length board.origin.opening) 0 (0 < told) (end_of now.has_failed now.lacks_room) start.first (length start.passes) start.door now.door (history start.means) (history now.means) now.reports
  pub numbered : AreNumbered (start.first + length now.reports) now.passes
  pub count : length now.reports + length now.passes ≡ length start.passes
  pub unused : All (IsUnused board) now.passes
  pub used : All (λ (report : ReportView). report.pass.board ≡ board) now.reports

-- a worker that has stopped, and left its share alone
pub record IsStopped {M : Type 0} (history : M → MeansHistory) (board : Identity Entry Head) (told : ℕ) (start now : WorkerValue M) : Type 0 where
  pub done : IsDone history board told start now
  pub parts : now.parts ≡ start.parts
  pub unrecorded : now.unrecorded ≡ start.unrecorded

-- where a worker is that was to serve one more link: on its way where it has, and else done
abbrev pub WorksOn : {M : Type 0} → (M → MeansHistory) → Identity Entry Head → ℕ → Bool → WorkerValue M → WorkerValue M → Type 0
WorksOn history board told true start now = IsWorking history board told start now
WorksOn history board told false start now = IsStopped history board told start now
