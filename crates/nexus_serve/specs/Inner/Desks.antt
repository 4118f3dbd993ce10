-- What workers get before they are hired, so that all memory is taken before anything is done.
use Rattle.std.specs.Prelude.{◌≡◌, ◌+◌, ℕ, List, [], ◌∷◌, length, All, false}
use Rattle.policy_history.specs.declared.events.Entry.{Entry}
use Rattle.policy_history.specs.declared.heads.Head.{Head}
use Rattle.verdict_words.specs.Values.{Identity, PassValue}
use Rattle.nx_io.specs.Views.{DoorView}
use Rattle.nexus_serve.specs.Inner.Working.{AreNumbered, IsUnused, WorkerValue}

-- what contracts see of a desk: the number of the first session, and the passes
pub record DeskValue : Type 0 where
  pub first : ℕ
  pub passes : List (PassValue Entry Head)

-- a desk for so many sessions, which are numbered from this number on
pub record IsLaid (board : Identity Entry Head) (first most : ℕ) (desk : DeskValue) : Type 0 where
  pub first_is : desk.first ≡ first
  pub numbered : AreNumbered first desk.passes
  pub count : length desk.passes ≡ most
  pub unused : All (IsUnused board) desk.passes

-- the first of the desks is for the sessions from `first` on, and each for the next `most` numbers
abbrev pub AreLaid : Identity Entry Head → ℕ → ℕ → List DeskValue → Type 0
AreLaid board first most [] = Unit {0}
AreLaid board first most (desk ∷ desks) = IsLaid board first most desk × AreLaid board (first + most) most desks

-- a worker that has not begun, at this desk, with this door and these means, and with one part of the ledger
abbrev pub seated_at : {M : Type 0} → DeskValue → DoorView → M → WorkerValue M
seated_at desk door means = record { first = desk.first; door = door; means = means; passes = desk.passes; reports = []; has_failed = false; lacks_room = false; parts = 1; unrecorded = 0 }

-- workers, each with the desk, the door and the means of its place
abbrev pub seated : {M : Type 0} → List DeskValue → List DoorView → List M → List (WorkerValue M)
seated [] doors means = []
seated (desk ∷ desks) [] means = []
seated (desk ∷ desks) (door ∷ doors) [] = []
seated (desk ∷ desks) (door ∷ doors) (own ∷ means) = seated_at desk door own ∷ seated desks doors means
