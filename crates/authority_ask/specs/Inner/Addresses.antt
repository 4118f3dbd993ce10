-- The addresses that a panel keeps: those that its history tells.
use Rattle.std.specs.Prelude.{◌≡◌, ℕ, List, Option, Some, slice_get, slice_set}
use Rattle.std.specs.Option.{option_and_then, option_map}
use Rattle.arrayvec.specs.ArrayVec.{ArrayVec}
use Rattle.nx_io.specs.declared.streams.Reach.{Reach}
use Rattle.nx_io.specs.declared.streams.Reach.TheVariants.{Ready as ReachReady, Failed as ReachFailed}
use Rattle.authority_ask.specs.PanelCalls.{PanelHistory, address_at, reached_in}

-- for each port from 0 on, the address that is kept for it
abbrev pub Kept : Type 0
Kept = List (Option (List ℕ))

-- the bytes of an address, where there is one
abbrev pub address_bytes : Option (ArrayVec ℕ) → Option (List ℕ)
address_bytes address = option_map (λ (a : ArrayVec ℕ). a.items) address

-- the address that is kept for a port, where there is one
abbrev pub kept_at : Kept → ℕ → Option (List ℕ)
kept_at kept port = option_and_then (λ (a : Option (List ℕ)). a) (slice_get kept port)

-- what is kept is what was reached
abbrev pub IsKept : PanelHistory → Kept → Type 0
IsKept history kept = (port : ℕ) → address_at (reached_in history) port ≡ kept_at kept port

-- what is kept after an address was to be reached at a port
abbrev pub kept_after : Reach → ℕ → List ℕ → Kept → Kept
kept_after ReachReady port address kept = slice_set kept port (Some address)
kept_after ReachFailed port address kept = kept
