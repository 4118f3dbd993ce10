-- The authorities of a host, as contracts see them.
use Rattle.std.specs.Prelude.{◌≡◌, ◌≢◌, ◌<◌, ◌≤◌, ◌⊎◌, ℕ, List, [], ◌∷◌, ◌++◌, length, Some, None, codes}
use Rattle.nal_term.specs.Trees.{FormulaTree}
use Rattle.nx_io.specs.declared.streams.Reach.{Reach}
use Rattle.authority_ask.specs.Exchanges.{IsAskedOver}
use Rattle.authority_ask.specs.PanelCalls.{PanelHistory, Placed, address_at}
use Rattle.authority_ask.specs.TimeTests.{time_test}
use Rattle.authority_ask.specs.WireCalls.{WireCall, connect_call, disconnected}
use Rattle.authority_ask.specs.declared.panels.Ask.{Ask}

-- a panel: its history, the clock, and the wires
pub record Hosting (C W : Type 0) : Type 0 where
  pub history : PanelHistory
  pub clock : C
  pub wires : W

-- an ask for which the clock is looked at: the port has the address `clock`, and the statement one of the six forms
abbrev pub NeedsClock : List Placed → ℕ → FormulaTree → Type 0
NeedsClock places port f = (address_at places port ≡ Some (codes "clock")) × (time_test f ≢ None)

-- Which calls of the wires an ask at a port makes, by the address that was reached there: one exchange at an address that is not `clock`, and else none
abbrev pub IsAskedAt : List Placed → ℕ → FormulaTree → List WireCall → List WireCall → Ask → Type 0
IsAskedAt places port f before now answer =
    ((address : List ℕ) → address_at places port ≡ Some address → address ≢ codes "clock" → IsAskedOver port address f before now answer)
    × ((address_at places port ≡ None) ⊎ (address_at places port ≡ Some (codes "clock")) → now ≡ before)

-- Which calls of the wires a reach makes: elsewhere than at `clock` the one that connects the port to this very address, which has answered the same; at `clock` the one that lets the connection of the port go; and none at a port over 15 or an address over 64 bytes
abbrev pub IsReachedOver : ℕ → List ℕ → List WireCall → List WireCall → Reach → Type 0
IsReachedOver port address before now reach =
    (port < 16 → length address ≤ 64 → address ≢ codes "clock" → now ≡ before ++ connect_call port address reach ∷ [])
    × (port < 16 → address ≡ codes "clock" → now ≡ before ++ disconnected port ∷ [])
    × ((16 ≤ port) ⊎ (64 < length address) → now ≡ before)
