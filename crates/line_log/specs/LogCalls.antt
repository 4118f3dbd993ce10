-- The calls of a wire to a keeper.
use Rattle.std.specs.Prelude.{◌∷◌, [], ℕ, List}
use Rattle.std.specs.List.{flat_map}
use Rattle.nx_io.specs.declared.streams.Reach.{Reach}
use Rattle.nx_io.specs.declared.streams.Reach.TheVariants.{Ready as ReachReady, Failed as ReachFailed}

-- a call, and how it went: an address was connected to, or could not be; or these bytes were to be sent, and these came back for them
pub data LogCall : Type 0 where
  connected : List ℕ → LogCall
  not_connected : List ℕ → LogCall
  exchanged : List ℕ → List ℕ → LogCall

-- a call that connects, by what it answered
abbrev pub connect_call : List ℕ → Reach → LogCall
connect_call address ReachReady = connected address
connect_call address ReachFailed = not_connected address

-- a call that exchanges a line
abbrev pub exchange_call : List ℕ → List ℕ → LogCall
exchange_call request answer = exchanged request answer

-- the addresses of the calls that connect, in order
abbrev pub addresses_in : List LogCall → List (List ℕ)
addresses_in calls = flat_map address_in calls
  where
    address_in : LogCall → List (List ℕ)
    address_in (connected address) = address ∷ []
    address_in (not_connected address) = address ∷ []
    address_in (exchanged request answer) = []
