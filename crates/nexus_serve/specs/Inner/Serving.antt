-- Workers that were hired, and those that are done.
use Rattle.std.specs.Prelude.{◌≡◌, ◌+◌, ℕ, List, [], ◌∷◌, map, All}
use Rattle.nx_io.specs.Views.{DoorView}
use Rattle.nexus_serve.specs.Means.{MeansHistory}
use Rattle.policy_history.specs.declared.events.Entry.{Entry}
use Rattle.policy_history.specs.declared.heads.Head.{Head}
use Rattle.verdict_words.specs.Values.{Identity}
use Rattle.nexus_serve.specs.Views.{ReportView}
use Rattle.nexus_serve.specs.Inner.Working.{IsDone, IsHired, IsUnused, WorkerValue}

-- the workers have not begun, the first of them with sessions numbered from `first` on, and each with the next `most` numbers
abbrev pub AreHired : {M : Type 0} → Identity Entry Head → ℕ → ℕ → List (WorkerValue M) → Type 0
AreHired board first most [] = Unit {0}
AreHired board first most (worker ∷ workers) = IsHired board first most worker × AreHired board (first + most) most workers

-- the workers are done, each from where it was hired
abbrev pub AreDone : {M : Type 0} → (M → MeansHistory) → Identity Entry Head → ℕ → ℕ → List (WorkerValue M) → List (WorkerValue M) → Type 0
AreDone history board first most [] [] = Unit {0}
AreDone history board first most (hired ∷ others) (worker ∷ workers) = IsHired board first most hired × IsDone history board worker.unrecorded hired worker × AreDone history board (first + most) most others workers
AreDone history board first most _ _ = ⊥

abbrev pub doors_of : {M : Type 0} → List (WorkerValue M) → List DoorView
doors_of workers = map (λ worker. worker.door) workers

abbrev pub means_of : {M : Type 0} → List (WorkerValue M) → List M
means_of workers = map (λ worker. worker.means) workers

-- all passes of a worker are of this board
pub record AreOfBoard {M : Type 0} (board : Identity Entry Head) (worker : WorkerValue M) : Type 0 where
  pub used : All (λ (report : ReportView). report.pass.board ≡ board) worker.reports
  pub unused : All (IsUnused board) worker.passes
