-- How the authorities of a policy are reached.
use Rattle.std.specs.Prelude.{◌≡◌, ℕ, List, [], ◌∷◌, ◌++◌, map, take, slice_get, Some}
use Rattle.nx_io.specs.declared.streams.Reach.{Reach}
use Rattle.nx_io.specs.declared.streams.Reach.TheVariants.{Ready, Failed}
use Rattle.policy_history.specs.declared.heads.Authority.{Authority}
use Rattle.authority_ask.specs.PanelCalls.{PanelCall, PanelHistory, not_reached, reached}

-- the call by which an authority is reached
abbrev pub reached_at : Authority → PanelCall
reached_at a = reached a.port a.address

-- These authorities were reached in their order; or so many of them, and the next one could not be. No other call was made of the panel
abbrev pub HaveReached : Reach → List Authority → PanelHistory → PanelHistory → Type 0
HaveReached Ready authorities before now = now ≡ record before { calls = before.calls ++ map reached_at authorities }
HaveReached Failed authorities before now =
    (count : ℕ) × (a : Authority) × (slice_get authorities count ≡ Some a)
    × (now ≡ record before { calls = before.calls ++ (map reached_at (take count authorities) ++ not_reached a.port a.address ∷ []) })
