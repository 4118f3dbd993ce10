-- What a door tells, where its links are told by what they tell.
use Rattle.std.proofs.Common.{◌≡◌, ◌∷◌, ◌++◌, [], List, Option, Some, None, refl, ap, ◌∙◌}
use Rattle.std.specs.Prelude.{map, option_map}
use Rattle.nx_io.specs.declared.doors.Next.{Next}
use Rattle.nx_io.specs.declared.doors.Next.TheVariants.{Link as NextLink, NoMore as NextNoMore, Failed as NextFailed}
use Rattle.nx_io.specs.DoorCalls.{gave_in, next_call}
use Rattle.nx_io.specs.Doors.{Gives, HasNone, IfGiven, first_of}
use Rattle.nx_io.specs.Links.{IsFreshLink}
use Rattle.nx_io.specs.Views.{LinkView, door_view, link_view, next_view}
use Rattle.nx_io.specs.declared.doors.Door.{Ghosts as DoorGhosts}
use Rattle.nx_io.specs.declared.links.Link.{Ghosts as LinkGhosts}
use Rattle.nexus_serve.specs.Workers.{HasAnswered}

first_viewed : {L : Type 0} (view : L → LinkView) (link : L) (known : Option (List L)) → option_map (map view) (first_of link known) ≡ first_of (view link) (option_map (map view) known)
first_viewed view link None = refl
first_viewed view link (Some known) = refl

none_viewed : {L : Type 0} (view : L → LinkView) (known : Option (List L)) → HasNone known → HasNone (option_map (map view) known)
none_viewed view None none = tt
none_viewed view (Some known) none = ap (map view) none

-- what a door gave, by what its links tell
gives_viewed : {L : Type 0} (link : LinkGhosts L) (given : Next L) (old new : Option (List L))
    → Gives given old new → Gives (next_view link given) (option_map (map (link_view link)) old) (option_map (map (link_view link)) new)
gives_viewed link (NextLink l) old new gives = ap (option_map (map (link_view link))) gives ∙ first_viewed (link_view link) l new
gives_viewed link NextNoMore old new gives = (ap (option_map (map (link_view link))) gives.0, none_viewed (link_view link) old gives.1)
gives_viewed link NextFailed old new gives = ap (option_map (map (link_view link))) gives

module _ {L D : Type 0} (link : LinkGhosts L) (door : DoorGhosts D L) where
  -- what a door answered, by what it tells
  pub answered_viewed : (given : Next L) (d d_now : D) → IfGiven given (λ (l : L). IsFreshLink (link.taken l) (link.sent l) (link.over l) (link.closed l) (link.admitted l) (link.faults l))
      → IfGiven given (λ (l : L). link.place l ≡ gave_in (door.calls d_now)) → IfGiven given (λ (l : L). link.toward l ≡ None) → Gives given (door.links d) (door.links d_now)
      → door.calls d_now ≡ door.calls d ++ next_call given ∷ [] → door.origin d_now ≡ door.origin d → HasAnswered (next_view link given) (door_view door link d) (door_view door link d_now)
  answered_viewed (NextLink l) d d_now fresh place toward gives called same =
      record { fresh = fresh; place = place; toward = toward; links = gives_viewed link (NextLink l) (door.links d) (door.links d_now) gives; calls = called; origin = same }
  answered_viewed NextNoMore d d_now fresh place toward gives called same =
      record { fresh = fresh; place = place; toward = toward; links = gives_viewed link NextNoMore (door.links d) (door.links d_now) gives; calls = called; origin = same }
  answered_viewed NextFailed d d_now fresh place toward gives called same =
      record { fresh = fresh; place = place; toward = toward; links = gives_viewed link NextFailed (door.links d) (door.links d_now) gives; calls = called; origin = same }
