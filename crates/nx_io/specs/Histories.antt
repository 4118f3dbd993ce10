-- Histories that take no memory, as contracts see them.
use Rattle.std.specs.Prelude.{ℕ, List, [], ◌∷◌, ◌++◌}
use Rattle.nx_io.specs.DoorCalls.{DoorCall, DoorOrigin, dialed, gave, gave_no_more, listened, new_origin, not_dialed, not_given, not_listened, not_shared, share_of, shared}
use Rattle.nx_io.specs.declared.door_history.DoorLog.{DoorLog}
use Rattle.nx_io.specs.declared.door_history.DoorLog.TheVariants.{Start as NoCall, Share', Then' as More'}
use Rattle.nx_io.specs.declared.door_history.LoggedCall.{LoggedCall}
use Rattle.nx_io.specs.declared.door_history.LoggedCall.TheVariants as logged
use Rattle.nx_io.specs.declared.history.History.{History}
use Rattle.nx_io.specs.declared.history.History.TheVariants.{Start, Then'}

-- the bytes that were told, in order
abbrev pub bytes_of : History → List ℕ
bytes_of Start = []
bytes_of (Then' shape before byte) = bytes_of before ++ byte ∷ []

-- a call that was logged
abbrev pub call_of : LoggedCall → DoorCall
call_of (logged.Listened address patience) = listened (record { address = bytes_of address; patience = patience })
call_of (logged.NotListened address patience) = not_listened (record { address = bytes_of address; patience = patience })
call_of logged.Shared = shared
call_of logged.NotShared = not_shared
call_of logged.Gave = gave
call_of logged.GaveNoMore = gave_no_more
call_of logged.NotGiven = not_given
call_of (logged.Dialed address) = dialed (bytes_of address)
call_of (logged.NotDialed address) = not_dialed (bytes_of address)

-- the calls that were logged, in order
abbrev pub calls_of : DoorLog → List DoorCall
calls_of NoCall = []
calls_of (Share' shape maker) = []
calls_of (More' shape before call) = calls_of before ++ call_of call ∷ []

-- where the door came from
abbrev pub origin_of : DoorLog → DoorOrigin
origin_of NoCall = new_origin
origin_of (Share' shape maker) = share_of (origin_of maker) (calls_of maker)
origin_of (More' shape before call) = origin_of before
