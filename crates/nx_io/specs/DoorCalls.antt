-- The calls of a door, and what follows from them.
use Rattle.std.specs.Prelude.{ℕ, ◌+◌, ◌-◌, ◌^◌, min, List, [], ◌∷◌, ◌++◌, Bool, true, false}
use Rattle.std.specs.List.{count_by, flat_map}
use Rattle.nx_io.specs.declared.streams.Reach.{Reach}
use Rattle.nx_io.specs.declared.streams.Reach.TheVariants.{Ready as ReachReady, Failed as ReachFailed}
use Rattle.nx_io.specs.declared.streams.Shared.{Shared}
use Rattle.nx_io.specs.declared.streams.Shared.TheVariants.{Made as SharedMade, Failed as SharedFailed, NoMemory as SharedNoMemory}
use Rattle.nx_io.specs.declared.doors.Next.{Next}
use Rattle.nx_io.specs.declared.doors.Next.TheVariants.{Link as NextLink, NoMore as NextNoMore, Failed as NextFailed}
use Rattle.nx_io.specs.declared.doors.Dial.{Dial}
use Rattle.nx_io.specs.declared.doors.Dial.TheVariants.{Link as DialLink, Failed as DialFailed}

-- an address, and how many seconds a link may wait there for a peer that is admitted
pub record Listening : Type 0 where
  pub address : List ℕ
  pub patience : ℕ

-- a call, and how it went
pub data DoorCall : Type 0 where
  listened : Listening → DoorCall
  not_listened : Listening → DoorCall
  shared : DoorCall
  not_shared : DoorCall
  no_room_to_share : DoorCall
  gave : DoorCall
  gave_no_more : DoorCall
  not_given : DoorCall
  dialed : List ℕ → DoorCall
  not_dialed : List ℕ → DoorCall

-- Where a door came from: its depth, which is 0 where it is no share, and else one more than that of the door that it is a share of; and the
-- addresses at which it listened as it was made, with its patience there
pub record DoorOrigin : Type 0 where
  pub depth : ℕ
  pub listened_at : List Listening

-- a door, by where it came from, and its calls since, in order
pub record DoorCalls : Type 0 where
  pub origin : DoorOrigin
  pub calls : List DoorCall

-- each call, by what it answered
abbrev pub listen_call : List ℕ → ℕ → Reach → DoorCall
listen_call address patience ReachReady = listened (record { address = address; patience = patience })
listen_call address patience ReachFailed = not_listened (record { address = address; patience = patience })

abbrev pub share_call : {A : Type 0} → Shared A → DoorCall
share_call (SharedMade share) = shared
share_call SharedFailed = not_shared
share_call SharedNoMemory = no_room_to_share

abbrev pub next_call : {L : Type 0} → Next L → DoorCall
next_call (NextLink link) = gave
next_call NextNoMore = gave_no_more
next_call NextFailed = not_given

abbrev pub dial_call : {L : Type 0} → List ℕ → Dial L → DoorCall
dial_call address (DialLink link) = dialed address
dial_call address DialFailed = not_dialed address

-- a link was given
abbrev pub is_gift : DoorCall → Bool
is_gift gave = true
is_gift _ = false

-- the call has failed
abbrev pub is_fault : DoorCall → Bool
is_fault (not_listened listening) = true
is_fault not_shared = true
is_fault not_given = true
is_fault (not_dialed address) = true
is_fault _ = false

-- where the door listens since this call
abbrev pub listening_in : DoorCall → List Listening
listening_in (listened listening) = listening ∷ []
listening_in _ = []

-- how many of these calls are such, up to the end of a count's type
abbrev pub counted : (DoorCall → Bool) → List DoorCall → ℕ
counted is_such calls = min (count_by is_such calls) (2 ^ 64 - 1)

-- how many links these calls gave
abbrev pub gave_in : List DoorCall → ℕ
gave_in calls = counted is_gift calls

-- how many of these calls have failed
abbrev pub faults_in : List DoorCall → ℕ
faults_in calls = counted is_fault calls

-- where a door has listened that listened there, behind these calls
abbrev pub listened_in : List Listening → List DoorCall → List Listening
listened_in before calls = before ++ flat_map listening_in calls

-- no share of any door
abbrev pub new_origin : DoorOrigin
new_origin = record { depth = 0; listened_at = [] }

-- a share of a door that came from there and had these calls: it listens where its maker does
abbrev pub share_of : DoorOrigin → List DoorCall → DoorOrigin
share_of origin calls = record { depth = origin.depth + 1; listened_at = listened_in origin.listened_at calls }
