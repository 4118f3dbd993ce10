-- The calls of a panel, and what follows from them.
use Rattle.std.specs.Prelude.{◌≡◌, ℕ, ◌+◌, ◌-◌, ◌^◌, min, List, [], ◌∷◌, ◌++◌, map, Bool, true, false, cond, nat_eq, Option, None, Some}
use Rattle.std.specs.List.{count_by, flat_map, fold}
use Rattle.nx_io.specs.Streams.{gained}
use Rattle.nx_io.specs.declared.streams.Reach.{Reach}
use Rattle.nx_io.specs.declared.streams.Reach.TheVariants.{Ready as ReachReady, Failed as ReachFailed}
use Rattle.nx_io.specs.declared.streams.Shared.{Shared}
use Rattle.nx_io.specs.declared.streams.Shared.TheVariants.{Made as SharedMade, Failed as SharedFailed, NoMemory as SharedNoMemory}
use Rattle.authority_ask.specs.Panels.{Told}
use Rattle.authority_ask.specs.declared.panels.Ask.{Ask}
use Rattle.authority_ask.specs.declared.panels.Ask.TheVariants.{Down}

-- a call, and how it went; a port and an address stand where one was to be reached
pub data PanelCall : Type 0 where
  reached : ℕ → List ℕ → PanelCall
  not_reached : ℕ → List ℕ → PanelCall
  asked : Told → PanelCall
  shared : PanelCall
  not_shared : PanelCall
  no_room_to_share : PanelCall

-- an address that was reached at a port
pub record Placed : Type 0 where
  pub port : ℕ
  pub address : List ℕ

-- Where a panel came from: its depth, which is 0 where it is no share, and else one more than that of the panel that it is a share of;
-- and what was reached when it was made, in order
pub record PanelOrigin : Type 0 where
  pub depth : ℕ
  pub reached_at : List Placed

-- a panel, by where it came from, and its calls since, in order
pub record PanelHistory : Type 0 where
  pub origin : PanelOrigin
  pub calls : List PanelCall

-- each call, by what it answered
abbrev pub reach_call : ℕ → List ℕ → Reach → PanelCall
reach_call port address ReachReady = reached port address
reach_call port address ReachFailed = not_reached port address

abbrev pub share_call : {A : Type 0} → Shared A → PanelCall
share_call (SharedMade share) = shared
share_call SharedFailed = not_shared
share_call SharedNoMemory = no_room_to_share

-- one call more
abbrev pub with_call : PanelHistory → PanelCall → PanelHistory
with_call history call = record history { calls = history.calls ++ call ∷ [] }

-- what is told of asks
abbrev pub told_in : PanelCall → List Told
told_in (asked told) = told ∷ []
told_in _ = []

abbrev pub said_in : List PanelCall → List Told
said_in calls = flat_map told_in calls

-- the answer is Down
abbrev pub is_down : Ask → Bool
is_down Down = true
is_down _ = false

-- the call was an ask
abbrev pub is_ask : PanelCall → Bool
is_ask (asked told) = true
is_ask _ = false

-- the call has failed
abbrev pub is_fault : PanelCall → Bool
is_fault (not_reached port address) = true
is_fault not_shared = true
is_fault (asked told) = is_down told.answer
is_fault _ = false

-- how many of these calls are such, up to the end of a count's type
abbrev pub counted : (PanelCall → Bool) → List PanelCall → ℕ
counted is_such calls = min (count_by is_such calls) (2 ^ 64 - 1)

-- how often these calls have asked
abbrev pub asks_in : List PanelCall → ℕ
asks_in calls = counted is_ask calls

-- how many of these calls have failed
abbrev pub faults_in : List PanelCall → ℕ
faults_in calls = counted is_fault calls

-- the address that is reached since this call
abbrev pub place_in : PanelCall → List Placed
place_in (reached port address) = record { port = port; address = address } ∷ []
place_in _ = []

-- what a panel has reached, in order: what was reached when it was made, and then by its own calls
abbrev pub reached_in : PanelHistory → List Placed
reached_in history = history.origin.reached_at ++ flat_map place_in history.calls

-- the address that was last reached at a port, where one was
abbrev pub address_at : List Placed → ℕ → Option (List ℕ)
address_at places port = fold (λ found (place : Placed). cond (nat_eq place.port port) (Some place.address) found) None places

-- no share, without a call
abbrev pub new_history : PanelHistory
new_history = record { origin = record { depth = 0; reached_at = [] }; calls = [] }

-- a share of a panel with this history, without a call
abbrev pub share_of : PanelHistory → PanelHistory
share_of maker = record { origin = record { depth = maker.origin.depth + 1; reached_at = reached_in maker }; calls = [] }

-- what was asked between two moments
abbrev pub asked_since : PanelHistory → PanelHistory → List Told
asked_since before now = said_in (gained before.calls now.calls)

-- nothing but asks was made of the panel between two moments
abbrev pub HasOnlyAsked : PanelHistory → PanelHistory → Type 0
HasOnlyAsked before now = now ≡ record before { calls = before.calls ++ map asked (asked_since before now) }

-- how many of these asks were answered Down
abbrev pub downs_in : List Told → ℕ
downs_in told = count_by (λ (t : Told). is_down t.answer) told
