-- How doors, panels and recorders are shared, and what is made ready for a service.
use Rattle.std.specs.Prelude.{◌≡◌, ◌<◌, ◌⊎◌, ◌∷◌, ◌++◌, ℕ, List, [], length, replicate, Option, Result, Ok, Err}
use Rattle.nx_io.specs.DoorCalls.{DoorCall, DoorOrigin, Listening, no_room_to_share, not_listened, not_shared, share_of, shared}
use Rattle.authority_ask.specs.PanelCalls.{PanelCall, PanelHistory}
use Rattle.authority_ask.specs.PanelCalls as panels
use Rattle.policy_history.specs.declared.heads.Head.{Head}
use Rattle.nexus_serve.specs.declared.shares.Unready.{Unready}
use Rattle.nexus_serve.specs.declared.shares.Unready.TheVariants.{Panel, Records, Door, Memory}
use Rattle.nexus_serve.specs.declared.means.Means.{Means}
use Rattle.nx_io.specs.Views.{DoorView, RecorderView}
use Rattle.session_core.specs.Records.{Kept}
use Rattle.nexus_serve.specs.Hosting.{AreReady, HasCalledPanel, HasFailed, HasFailedPanel, HasFailedToLend, HasLent, HasNoneToLend, HaveShares, IsHeld, Plan, kept_of, listening_of, panel_calls, ready_calls}

-- a door is a share of this one, and of no share: it listens where the door does, and was asked nothing yet
pub record IsShareOf {D : Type 0} (origin : D → DoorOrigin) (calls : D → List DoorCall) (door share : D) : Type 0 where
  pub origin_is : origin share ≡ share_of (origin door) (calls door)
  pub unasked : calls share ≡ []

-- The calls by which a door was to be shared so many times, of which so many shares were made
abbrev pub SharesDoor : {A : Type 0} → Result A Unready → ℕ → ℕ → List DoorCall → Type 0
SharesDoor (Ok _) count made calls = (made ≡ count) × (calls ≡ replicate made shared)
SharesDoor (Err Panel) count made calls = ⊥
SharesDoor (Err Records) count made calls = ⊥
SharesDoor (Err Door) count made calls = (made < count) × (calls ≡ replicate made shared ++ not_shared ∷ [])
SharesDoor (Err Memory) count made calls = (made < count) × (calls ≡ replicate made shared ++ no_room_to_share ∷ [])

-- The calls by which a door was to listen at an address, and to be shared so many times, of which so many shares were made
abbrev pub ReadiesDoor : {A : Type 0} → Result A Unready → Listening → ℕ → ℕ → List DoorCall → Type 0
ReadiesDoor (Ok _) listening count made calls = (made ≡ count) × (calls ≡ ready_calls listening made)
ReadiesDoor (Err Panel) listening count made calls = ⊥
ReadiesDoor (Err Records) listening count made calls = ⊥
ReadiesDoor (Err Door) listening count made calls = ((made ≡ 0) × (calls ≡ not_listened listening ∷ [])) ⊎ ((made < count) × (calls ≡ ready_calls listening made ++ not_shared ∷ []))
ReadiesDoor (Err Memory) listening count made calls = (made < count) × (calls ≡ ready_calls listening made ++ no_room_to_share ∷ [])

-- The calls by which a panel was to be shared so many times, of which so many shares were made
abbrev pub SharesPanel : {A : Type 0} → Result A Unready → ℕ → ℕ → List PanelCall → Type 0
SharesPanel (Ok _) count made calls = (made ≡ count) × (calls ≡ replicate made panels.shared)
SharesPanel (Err Panel) count made calls = (made < count) × (calls ≡ replicate made panels.shared ++ panels.not_shared ∷ [])
SharesPanel (Err Records) count made calls = ⊥
SharesPanel (Err Door) count made calls = ⊥
SharesPanel (Err Memory) count made calls = (made < count) × (calls ≡ replicate made panels.shared ++ panels.no_room_to_share ∷ [])

-- how often a recorder was to be shared, where there is one, of which so many shares were made
abbrev pub SharesRecorder : {A : Type 0} → Result A Unready → ℕ → ℕ → Option RecorderView → Option RecorderView → Type 0
SharesRecorder (Ok _) count made recorder recorder_now = (made ≡ count) × HasLent count recorder recorder_now
SharesRecorder (Err Panel) count made recorder recorder_now = ⊥
SharesRecorder (Err Records) count made recorder recorder_now = HasFailedToLend count made recorder recorder_now
SharesRecorder (Err Door) count made recorder recorder_now = ⊥
SharesRecorder (Err Memory) count made recorder recorder_now = HasNoneToLend count made recorder recorder_now

-- the panel failed as an authority was to be reached, or as it was to be shared, and nothing was asked of the recorder and of the door
pub record IsUnreached (workers : ℕ) (h : Head) (door door_now : DoorView) (doors : List DoorView) (kept : List Kept) (shares : ℕ) (asked asked_now : PanelHistory) (recorder recorder_now : Option RecorderView) : Type 0 where
  pub door_is : door_now ≡ door
  pub no_doors : doors ≡ []
  pub lost : HasFailedPanel h workers shares asked asked_now
  pub recorder_is : recorder_now ≡ recorder
  pub keepers : HaveShares 0 recorder kept

-- the recorder failed, where the panel was ready, and nothing was asked of the door
pub record IsUnlent (workers : ℕ) (h : Head) (door door_now : DoorView) (doors : List DoorView) (kept : List Kept) (shares : ℕ) (asked asked_now : PanelHistory) (recorder recorder_now : Option RecorderView) : Type 0 where
  pub door_is : door_now ≡ door
  pub no_doors : doors ≡ []
  pub all_shared : shares ≡ workers
  pub reached : HasCalledPanel (panel_calls h workers) asked asked_now
  pub lent : ℕ
  pub failed : HasFailedToLend workers lent recorder recorder_now
  pub keepers : HaveShares lent recorder kept

-- the door failed, where the panel and the recorder were ready
pub record IsUnheard (listening : Listening) (workers : ℕ) (h : Head) (doors shares : ℕ) (kept : List Kept) (door door_now : DoorView) (asked asked_now : PanelHistory) (recorder recorder_now : Option RecorderView) : Type 0 where
  pub all_shared : shares ≡ workers
  pub reached : HasCalledPanel (panel_calls h workers) asked asked_now
  pub lent : HasLent workers recorder recorder_now
  pub failed : HasFailed listening workers doors door door_now
  pub keepers : HaveShares workers recorder kept

-- there was no memory, and so many shares of the recorder were made
pub record IsShort (plan : Plan) (h : Head) (doors shares : ℕ) (kept : List Kept) (door door_now : DoorView) (asked asked_now : PanelHistory) (recorder recorder_now : Option RecorderView) : Type 0 where
  pub lent : ℕ
  pub held : IsHeld plan h doors shares lent door door_now asked asked_now recorder recorder_now
  pub keepers : HaveShares lent recorder kept

-- all is ready, or why not
abbrev pub IsMade : {P C A : Type 0} → (P → PanelHistory) → Plan → Head → DoorView → DoorView → PanelHistory → PanelHistory → Option RecorderView → Option RecorderView → List DoorView → List (Means P C) → Result A Unready → Type 0
IsMade panel plan h door door_now asked asked_now recorder recorder_now doors means (Ok _) = AreReady panel plan h door door_now asked asked_now recorder recorder_now doors means
IsMade panel plan h door door_now asked asked_now recorder recorder_now doors means (Err Panel) = IsUnreached plan.workers h door door_now doors (kept_of means) (length means) asked asked_now recorder recorder_now
IsMade panel plan h door door_now asked asked_now recorder recorder_now doors means (Err Records) = IsUnlent plan.workers h door door_now doors (kept_of means) (length means) asked asked_now recorder recorder_now
IsMade panel plan h door door_now asked asked_now recorder recorder_now doors means (Err Door) = IsUnheard (listening_of plan) plan.workers h (length doors) (length means) (kept_of means) door door_now asked asked_now recorder recorder_now
IsMade panel plan h door door_now asked asked_now recorder recorder_now doors means (Err Memory) = IsShort plan h (length doors) (length means) (kept_of means) door door_now asked asked_now recorder recorder_now

-- the status with which a service ends that was not ready
abbrev pub unready_status : Unready → ℕ
unready_status Records = 5
unready_status Memory = 6
unready_status Door = 7
unready_status Panel = 8
