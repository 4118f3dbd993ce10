-- A service at an address: what was made ready for it, and how it ended.
use Rattle.std.specs.Prelude.{◌≡◌, ◌<◌, ℕ, zero, suc, List, [], ◌∷◌, ◌++◌, length, map, replicate, All, Bool, true, false, Option, Some, None}
use Rattle.std.specs.List.{list_any}
use Rattle.nx_io.specs.Streams.{one_more}
use Rattle.nx_io.specs.DoorCalls.{DoorCall, Listening, listened, no_room_to_share, not_listened, not_shared, share_of, shared}
use Rattle.nx_io.specs.declared.streams.Reach.TheVariants.{Failed}
use Rattle.authority_ask.specs.PanelCalls.{PanelCall, PanelHistory}
use Rattle.authority_ask.specs.PanelCalls as panels
use Rattle.policy_history.specs.declared.events.Entry.{Entry}
use Rattle.policy_history.specs.declared.heads.Head.{Head}
use Rattle.session_core.specs.Reaching.{HaveReached, reached_at}
use Rattle.session_core.specs.Records.{Kept, unwanted}
use Rattle.nexus_serve.specs.declared.closing.ServeEnd.{ServeEnd}
use Rattle.nexus_serve.specs.declared.closing.ServeEnd.TheVariants.{Done, DoorFault, Memory, NoRoom}
use Rattle.nexus_serve.specs.declared.means.Means.{Means}
use Rattle.nx_io.specs.Views.{DoorView, RecorderView, SinkView}
use Rattle.nexus_serve.specs.Means.{means_history}
use Rattle.nexus_serve.specs.Services.{ServedView, Serves}

-- what is handed back behind a service at an address: the status, the door, the panel and the recorder of which workers had shares, and what the
-- service left
pub record HostedView (P C : Type 0) : Type 0 where
  pub status : ℕ
  pub door : DoorView
  pub panel : P
  pub recorder : Option RecorderView
  pub served : ServedView (Means P C)

-- where a service listens, how many seconds a link may wait there for a peer that is admitted, how many workers the service has, and how many sessions each of them serves at most
pub record Plan : Type 0 where
  pub address : List ℕ
  pub patience : ℕ
  pub workers : ℕ
  pub sessions : ℕ

-- where a service listens, and with what patience
abbrev pub listening_of : Plan → Listening
listening_of plan = record { address = plan.address; patience = plan.patience }

-- A share of a door, and no share of a share: it listens where the door does, and was asked nothing yet
pub record IsDoorShare (door share : DoorView) : Type 0 where
  pub origin : share.origin ≡ share_of door.origin door.calls
  pub unasked : share.calls ≡ []

-- A share of a panel, and no share of a share: it has the addresses that the panel has reached, and was asked nothing yet
abbrev pub IsPanelShare : PanelHistory → PanelHistory → Type 0
IsPanelShare panel share = share ≡ panels.share_of panel

-- these calls were made of the panel, and nothing else
abbrev pub HasCalledPanel : List PanelCall → PanelHistory → PanelHistory → Type 0
HasCalledPanel calls panel panel_now = panel_now ≡ record panel { calls = panel.calls ++ calls }

-- the calls by which each authority of a head is reached, in their order, and then so many shares of the panel are made
abbrev pub panel_calls : Head → ℕ → List PanelCall
panel_calls h shares = map reached_at h.authorities ++ replicate shares panels.shared

-- so many shares of the panel were made, and then it failed: an authority could not be reached, or the panel not be shared once more
pub data HasFailedPanel (h : Head) (workers shares : ℕ) (panel panel_now : PanelHistory) : Type 0 where
  not_reached : shares ≡ 0 → HaveReached Failed h.authorities panel panel_now → HasFailedPanel h workers shares panel panel_now
  unshared : shares < workers → HasCalledPanel (panel_calls h shares ++ panels.not_shared ∷ []) panel panel_now → HasFailedPanel h workers shares panel panel_now

-- what keepers keep of records
abbrev pub kept_of : {P C : Type 0} → List (Means P C) → List Kept
kept_of means = map (λ (own : Means _ _). own.records) means

-- what a worker's keeper has kept as the worker begins: nothing, and it is wanted where there is a recorder
abbrev pub kept_first : Option RecorderView → Kept
kept_first None = unwanted
kept_first (Some recorder) = record { wanted = true; sent = []; faults = 0; broken = false }

-- The first so many of the keepers have a share of the recorder, where there is one, and were sent nothing; the others are nobody
abbrev pub HaveShares : ℕ → Option RecorderView → List Kept → Type 0
HaveShares lent recorder kept = (others : ℕ) × (kept ≡ replicate lent (kept_first recorder) ++ replicate others unwanted)

-- how often a recorder was asked for a share, once it was asked so many times more
abbrev pub asked_more : ℕ → ℕ → ℕ
asked_more zero shares = shares
asked_more (suc n) shares = one_more (asked_more n shares)

-- so many shares of the recorder were made, where there is one, and nothing else was asked of it
abbrev pub HasLent : ℕ → Option RecorderView → Option RecorderView → Type 0
HasLent shares None recorder_now = recorder_now ≡ None
HasLent shares (Some recorder) recorder_now = recorder_now ≡ Some (record recorder { shares = asked_more shares recorder.shares })

-- so many shares of the recorder were made, fewer than these, and then it failed to be shared once more
abbrev pub HasFailedToLend : ℕ → ℕ → Option RecorderView → Option RecorderView → Type 0
HasFailedToLend workers shares None recorder_now = ⊥
HasFailedToLend workers shares (Some recorder) recorder_now =
    (shares < workers) × (recorder_now ≡ Some (record recorder { faults = one_more recorder.faults; shares = asked_more (suc shares) recorder.shares }))

-- so many shares of the recorder were made, fewer than these, and then there was no memory for one share more
abbrev pub HasNoneToLend : ℕ → ℕ → Option RecorderView → Option RecorderView → Type 0
HasNoneToLend workers shares None recorder_now = ⊥
HasNoneToLend workers shares (Some recorder) recorder_now = (shares < workers) × (recorder_now ≡ Some (record recorder { shares = asked_more (suc shares) recorder.shares }))

-- these calls were made of the door, and nothing else
abbrev pub HasCalled : List DoorCall → DoorView → DoorView → Type 0
HasCalled calls door door_now = door_now ≡ record door { calls = door.calls ++ calls }

-- the calls by which a door listens at an address and so many shares of it are made
abbrev pub ready_calls : Listening → ℕ → List DoorCall
ready_calls listening shares = listened listening ∷ replicate shares shared

-- so many shares were made, and then the door failed: it could not listen at the address, or not be shared once more
pub data HasFailed (listening : Listening) (workers shares : ℕ) (door door_now : DoorView) : Type 0 where
  not_heard : shares ≡ 0 → HasCalled (not_listened listening ∷ []) door door_now → HasFailed listening workers shares door door_now
  not_made : shares < workers → HasCalled (ready_calls listening shares ++ not_shared ∷ []) door door_now → HasFailed listening workers shares door door_now

-- So many shares of the door, of the panel and of the recorder were made, and then there was no memory: for the lists of shares, so that none was
-- made; for one share more of the panel, so that nothing was asked of the recorder; for one share more of the recorder, so that nothing was asked of
-- the door; or for one share more of the door
pub data IsHeld (plan : Plan) (h : Head) (doors shares lent : ℕ) (door door_now : DoorView) (panel panel_now : PanelHistory) (recorder recorder_now : Option RecorderView) : Type 0 where
  no_lists : doors ≡ 0 → shares ≡ 0 → lent ≡ 0 → door_now ≡ door → HasCalledPanel (panel_calls h 0) panel panel_now → recorder_now ≡ recorder
      → IsHeld plan h doors shares lent door door_now panel panel_now recorder recorder_now
  no_panel : doors ≡ 0 → shares < plan.workers → lent ≡ 0 → door_now ≡ door → HasCalledPanel (panel_calls h shares ++ panels.no_room_to_share ∷ []) panel panel_now → recorder_now ≡ recorder
      → IsHeld plan h doors shares lent door door_now panel panel_now recorder recorder_now
  no_recorder : doors ≡ 0 → shares ≡ plan.workers → door_now ≡ door → HasCalledPanel (panel_calls h shares) panel panel_now → HasNoneToLend plan.workers lent recorder recorder_now
      → IsHeld plan h doors shares lent door door_now panel panel_now recorder recorder_now
  no_door : doors < plan.workers → shares ≡ plan.workers → lent ≡ plan.workers → HasCalled (ready_calls (listening_of plan) doors ++ no_room_to_share ∷ []) door door_now
      → HasCalledPanel (panel_calls h shares) panel panel_now → HasLent lent recorder recorder_now → IsHeld plan h doors shares lent door door_now panel panel_now recorder recorder_now

-- whether one of the keepers of records has one that was cut off
abbrev pub some_cut_off : {P C : Type 0} → List (Means P C) → Bool
some_cut_off means = list_any (λ (own : Means _ _). own.records.broken) means

-- the status with which a service ends: 6 where there was no memory to begin with, else 5 where its text was not written whole, else 7 where a
-- door has failed, else 6 where there was no memory for one more session, else 5 where the record of a call was cut off, and else 0
abbrev pub status_of : Bool → ServeEnd → Bool → ℕ
status_of written Memory cut_off = 6
status_of false DoorFault cut_off = 5
status_of false NoRoom cut_off = 5
status_of false Done cut_off = 5
status_of true DoorFault cut_off = 7
status_of true NoRoom cut_off = 6
status_of true Done true = 5
status_of true Done false = 0

-- Nobody was served, and nothing was written: the shares that were made are handed back, so many of them with one of the recorder, and nothing was
-- asked of them
pub record IsIdle {P C : Type 0} (panel : P → PanelHistory) (sink : SinkView) (door_now : DoorView) (asked_now : PanelHistory) (lent : ℕ) (recorder : Option RecorderView) (served : ServedView (Means P C)) : Type 0 where
  pub journal : served.journal ≡ None
  pub sink_is : served.sink ≡ Some sink
  pub reports : served.reports ≡ []
  pub door_shares : All (IsDoorShare door_now) served.doors
  pub panel_shares : All (λ (own : Means P C). IsPanelShare asked_now (panel own.panel)) served.means
  pub keepers : HaveShares lent recorder (kept_of served.means)

-- Everything is ready for a service: the authorities were reached, the door listens, and each worker has a share of both, and one of the recorder
-- where there is one
pub record AreReady {P C : Type 0} (panel : P → PanelHistory) (plan : Plan) (h : Head) (door door_now : DoorView) (asked asked_now : PanelHistory) (recorder recorder_now : Option RecorderView) (doors : List DoorView) (means : List (Means P C)) : Type 0 where
  pub reached : HasCalledPanel (panel_calls h plan.workers) asked asked_now
  pub lent : HasLent plan.workers recorder recorder_now
  pub called : HasCalled (ready_calls (listening_of plan) plan.workers) door door_now
  pub door_count : length doors ≡ plan.workers
  pub door_shares : All (IsDoorShare door_now) doors
  pub means_count : length means ≡ plan.workers
  pub panel_shares : All (λ (own : Means P C). IsPanelShare asked_now (panel own.panel)) means
  pub keepers : kept_of means ≡ replicate plan.workers (kept_first recorder)

-- `Hosts panel plan h opening sink door asked recorder hosted`: a service by this plan, over the journal with this head and these entries, ends so.
-- It was served; or an authority could not be reached, or the panel not be shared; or the recorder could not be shared; or the door could not
-- listen, or not be shared; or there was no memory to make it ready. Nothing was written then.
pub data Hosts {P C : Type 0} (panel : P → PanelHistory) (plan : Plan) (h : Head) (opening : List Entry) (sink : SinkView) (door : DoorView) (asked : P) (recorder : Option RecorderView) (hosted : HostedView P C) : Type 0 where
  served : (doors : List DoorView) (means : List (Means P C)) → AreReady panel plan h door hosted.door (panel asked) (panel hosted.panel) recorder hosted.recorder doors means
      → Serves (means_history panel) plan.sessions h opening sink doors means hosted.served
      → hosted.status ≡ status_of hosted.served.written hosted.served.end (some_cut_off hosted.served.means)
      → Hosts panel plan h opening sink door asked recorder hosted
  unreached : hosted.status ≡ 8 → IsIdle panel sink hosted.door (panel hosted.panel) 0 recorder hosted.served → hosted.door ≡ door → hosted.served.doors ≡ []
      → HasFailedPanel h plan.workers (length hosted.served.means) (panel asked) (panel hosted.panel) → hosted.recorder ≡ recorder
      → Hosts panel plan h opening sink door asked recorder hosted
  unlent : (lent : ℕ) → hosted.status ≡ 5 → IsIdle panel sink hosted.door (panel hosted.panel) lent recorder hosted.served → hosted.door ≡ door → hosted.served.doors ≡ []
      → length hosted.served.means ≡ plan.workers → HasCalledPanel (panel_calls h plan.workers) (panel asked) (panel hosted.panel)
      → HasFailedToLend plan.workers lent recorder hosted.recorder → Hosts panel plan h opening sink door asked recorder hosted
  unheard : hosted.status ≡ 7 → IsIdle panel sink hosted.door (panel hosted.panel) plan.workers recorder hosted.served → length hosted.served.means ≡ plan.workers
      → HasCalledPanel (panel_calls h plan.workers) (panel asked) (panel hosted.panel) → HasLent plan.workers recorder hosted.recorder
      → HasFailed (listening_of plan) plan.workers (length hosted.served.doors) door hosted.door → Hosts panel plan h opening sink door asked recorder hosted
  unready : (lent : ℕ) → hosted.status ≡ 6 → IsIdle panel sink hosted.door (panel hosted.panel) lent recorder hosted.served
      → IsHeld plan h (length hosted.served.doors) (length hosted.served.means) lent door hosted.door (panel asked) (panel hosted.panel) recorder hosted.recorder
      → Hosts panel plan h opening sink door asked recorder hosted
