-- What the workers leave, taken apart and put together again.
use Rattle.std.specs.Prelude.{◌≡◌, ◌≤◌, ◌-◌, ℕ, List, [], ◌∷◌, ◌++◌, length, map, Bool, false, ◌||◌}
use Rattle.nx_io.specs.Views.{DoorView}
use Rattle.policy_history.specs.declared.events.Entry.{Entry}
use Rattle.policy_history.specs.declared.heads.Head.{Head}
use Rattle.verdict_words.specs.Values.{PassValue}
use Rattle.nexus_serve.specs.Views.{ReportView, SessionView, joined}
use Rattle.nexus_serve.specs.Inner.Working.{WorkerValue}

-- a report without its pass
abbrev pub session_of : ReportView → SessionView
session_of report = record { session = report.session; who = report.who; end = report.end; link = report.link }

abbrev pub pass_of : ReportView → PassValue Entry Head
pass_of report = report.pass

-- the reports of each worker, by what is reported of its sessions and their passes
abbrev pub joined_each : List (List SessionView) → List (List (PassValue Entry Head)) → List (List ReportView)
joined_each [] passes = []
joined_each (mine ∷ sessions) [] = []
joined_each (mine ∷ sessions) (used ∷ passes) = joined mine used ∷ joined_each sessions passes

-- What contracts see of what workers left: their doors and means, of each what is reported of its sessions, with the passes of these, and the
-- passes that it has not used, whether a door has failed, whether a worker had no memory for one more session, and how many more workers
-- there is memory for
pub record GatheredValue (M : Type 0) : Type 0 where
  pub doors : List DoorView
  pub means : List M
  pub sessions : List (List SessionView)
  pub used : List (List (PassValue Entry Head))
  pub unused : List (List (PassValue Entry Head))
  pub has_failed : Bool
  pub lacks_room : Bool
  pub places : ℕ

-- what one worker leaves, behind what others have left
abbrev pub gathered_from : {M : Type 0} → GatheredValue M → WorkerValue M → GatheredValue M
gathered_from g worker = record {
  doors = g.doors ++ worker.door ∷ [];
  means = g.means ++ worker.means ∷ [];
  sessions = g.sessions ++ map session_of worker.reports ∷ [];
  used = g.used ++ map pass_of worker.reports ∷ [];
  unused = g.unused ++ worker.passes ∷ [];
  has_failed = g.has_failed || worker.has_failed;
  lacks_room = g.lacks_room || worker.lacks_room;
  places = g.places - 1;
}

-- what all workers leave, in order
abbrev pub gathered_all : {M : Type 0} → GatheredValue M → List (WorkerValue M) → GatheredValue M
gathered_all g [] = g
gathered_all g (worker ∷ workers) = gathered_all (gathered_from g worker) workers

-- nothing yet, with memory for so many workers
abbrev pub nothing : {M : Type 0} → ℕ → GatheredValue M
nothing workers = record { doors = []; means = []; sessions = []; used = []; unused = []; has_failed = false; lacks_room = false; places = workers }

-- nothing is there yet, and there is memory for all that these workers leave
pub record IsRoomFor {M : Type 0} (workers : List (WorkerValue M)) (room : GatheredValue M) : Type 0 where
  pub empty : room ≡ nothing room.places
  pub places : length workers ≤ room.places
