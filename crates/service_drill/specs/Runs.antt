-- A run of the generated load of the service: what it begins with, what the service leaves, and what is counted of that.
use Rattle.std.specs.Prelude.{◌≡◌, ℕ, zero, suc, List, [], ◌∷◌, ◌++◌, length, map, Bool, true, false, Some, None}
use Rattle.std.specs.List.{count_by, sum_by}
use Rattle.nx_io.specs.Views.{DoorView, LinkView}
use Rattle.policy_history.specs.declared.heads.Head.{Head}
use Rattle.policy_history.specs.Values.{History}
use Rattle.authority_ask.specs.Memory.{Rehearsed, rehearsal}
use Rattle.authority_ask.specs.PanelCalls.{PanelHistory}
use Rattle.session_wire.specs.declared.replies.Reply.{Reply}
use Rattle.session_wire.specs.declared.replies.Reply.TheVariants.{Allowed, Denied}
use Rattle.session_wire.specs.Frames.{reply_frames}
use Rattle.nexus_serve.specs.declared.means.Means.{Means}
use Rattle.nexus_serve.specs.Means.{means_history}
use Rattle.nexus_serve.specs.Services.{ServedView, Serves}
use Rattle.nx_io.specs.DoorCalls.{new_origin, share_of}
use Rattle.nx_io.specs.Readers.{Discarded}
use Rattle.session_core.specs.Records.{unwanted}
use Rattle.nexus_serve.specs.Views.{ReportView}
use Rattle.nexus_drill.specs.declared.outcomes.DrillTotals.{DrillTotals}
use Rattle.nexus_drill.specs.Drills.{drill_principal, frames_of}

-- ---- What a run begins with

-- one for each worker, in order
abbrev pub each : {A : Type 0} → ℕ → (ℕ → A) → List A
each zero make = []
each (suc worker) make = each worker make ++ make worker ∷ []

-- the principals of the workers, and no authority
abbrev pub head_of : ℕ → Head
head_of workers = record { principals = each workers drill_principal; authorities = [] }

-- the first link of its door, which will give these bytes
abbrev pub link_of : List ℕ → LinkView
link_of frames = record {
  left = Some frames;
  taken = [];
  sent = [];
  over = false;
  closed = false;
  admitted = false;
  place = 1;
  toward = None;
  faults = 0;
}

-- the door of a worker: a share of a door that listens nowhere, with one link, which gives the frames of the worker's requests
abbrev pub door_of : ℕ → ℕ → ℕ → DoorView
door_of number calls worker = record { links = Some (link_of (frames_of number worker calls) ∷ []); origin = share_of new_origin []; calls = [] }

-- the means of a worker: a panel of which nothing was asked, and nobody who keeps records
abbrev pub silent : ℕ → Means Rehearsed Discarded
silent worker = record { panel = rehearsal [] [] []; records = unwanted }

-- what such a service leaves
abbrev pub LeftView : Type 0
LeftView = ServedView (Means Rehearsed Discarded)

-- ---- What is counted

abbrev pub allows : Reply → Bool
allows (Allowed at hit value) = true
allows _ = false

abbrev pub denies : Reply → Bool
denies (Denied at cause line fault) = true
denies _ = false

-- the bytes that each report's link was sent are the frames of these replies
abbrev pub HaveReplies : List ReportView → List (List Reply) → Type 0
HaveReplies reports replies = map (λ (report : ReportView). report.link.sent) reports ≡ map reply_frames replies

-- What is counted of what a service left: the calls that were allowed and denied, over all reports, by the replies; and the entries of
-- its journal
pub record Counts (served : LeftView) (totals : DrillTotals) : Type 0 where
  pub journal : History
  pub journal_is : served.journal ≡ Some journal
  pub entries : totals.entries ≡ length journal.entries
  pub replies : List (List Reply)
  pub replies_are : HaveReplies served.reports replies
  pub allowed : totals.allowed ≡ sum_by (count_by allows) replies
  pub denied : totals.denied ≡ sum_by (count_by denies) replies

-- what a panel in memory tells
abbrev pub panel_of : Rehearsed → PanelHistory
panel_of panel = panel.history

-- A service over the workers' doors, with one session for each of them and a sink that was sent nothing, left this
abbrev pub ServesLoad : ℕ → ℕ → ℕ → LeftView → Type 0
ServesLoad number workers calls served =
    Serves (means_history panel_of) 1 (head_of workers) [] (record { sent = []; synced = 0; faults = 0 }) (each workers (door_of number calls)) (each workers silent) served

-- such a service left something of which this is counted
pub record IsRun (number workers calls : ℕ) (totals : DrillTotals) : Type 0 where
  pub served : LeftView
  pub serves : ServesLoad number workers calls served
  pub counts : Counts served totals
