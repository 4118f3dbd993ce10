-- Doors in memory, as contracts see them.
use Rattle.std.specs.Prelude.{◌≡◌, ℕ, List, [], ◌∷◌, None, Some}
use Rattle.std.specs.List.{All}
use Rattle.std.specs.declared.option.Option.{Option}
use Rattle.std.specs.Option.{option_map}
use Rattle.nx_io.specs.DoorCalls.{DoorCall, DoorOrigin, new_origin}
use Rattle.nx_io.specs.Links.{IsFreshLink}
use Rattle.nx_io.specs.MemoryLinks.{Wire}
use Rattle.nx_io.specs.Streams.{one_more}
use Rattle.nx_io.specs.declared.doors.Dial.{Dial}
use Rattle.nx_io.specs.declared.doors.Dial.TheVariants.{Link as DialLink, Failed as DialFailed}
use Rattle.nx_io.specs.declared.memory_doors.DoorPlan.{DoorPlan}

-- what a share of a door will have: its links, and the numbers of its calls that fail
pub record Plan : Type 0 where
  pub links : List Wire
  pub fails : List ℕ

-- a door: the links to come as `next` will give them, the plans of the shares to come, the link that `dial` will give, the
-- numbers of the calls that fail, the number of the last call, where it came from, and its calls
pub record Doorway : Type 0 where
  pub links : List Wire
  pub plans : List Plan
  pub dialed : Option Wire
  pub fails : List ℕ
  pub number : ℕ
  pub origin : DoorOrigin
  pub calls : List DoorCall

-- the plan as contracts see it
abbrev pub plan_of : DoorPlan → Plan
plan_of plan = record { links = plan.links.items; fails = plan.fails.items }

-- a link in memory is fresh
abbrev pub IsFreshWire : Wire → Type 0
IsFreshWire w = IsFreshLink w.supply.given w.store.sent w.supply.over w.closed w.admitted w.faults

-- each link of the plan is
abbrev pub IsFreshPlan : DoorPlan → Type 0
IsFreshPlan plan = All IsFreshWire plan.links.items

-- links as a door gives them that gave so many: under the next numbers, one after the other
abbrev pub numbered : ℕ → List Wire → List Wire
numbered gave [] = []
numbered gave (w ∷ ws) = record w { place = one_more gave; toward = None } ∷ numbered (one_more gave) ws

-- a door of which nothing was asked yet, with these plans for its shares, this link to dial, and these numbers of calls that
-- fail. It has no links itself.
abbrev pub new_doorway : List Plan → Option Wire → List ℕ → Doorway
new_doorway plans dialed fails = record {
  links = [];
  plans = plans;
  dialed = dialed;
  fails = fails;
  number = 0;
  origin = new_origin;
  calls = [];
}

-- the plan of the next share: it has no links and no failing calls where none is left
abbrev pub next_plan : List Plan → Plan
next_plan [] = record { links = []; fails = [] }
next_plan (plan ∷ plans) = plan

-- a share by a plan, which came from there
abbrev pub share_by : Plan → DoorOrigin → Doorway
share_by plan origin = record (new_doorway [] None plan.fails) { links = numbered 0 plan.links; origin = origin }

-- a link as a door gives it that dialed an address
abbrev pub dialed_at : List ℕ → Wire → Wire
dialed_at address w = record w { place = 0; toward = Some address }

-- the link to dial, before and after a `dial`: it is given once
abbrev pub Dials : Dial Wire → List ℕ → Option Wire → Option Wire → Type 0
Dials (DialLink link) address old new = (Some link ≡ option_map (dialed_at address) old) × (new ≡ None)
Dials DialFailed address old new = new ≡ old
