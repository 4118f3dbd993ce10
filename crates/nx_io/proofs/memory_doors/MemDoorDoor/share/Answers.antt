use Rattle.std.proofs.Common.{sym, subst, List}
use Rattle.std.specs.List.{All}
use Rattle.std.proofs.lemmas.List.Elements.{All-drop}
use Rattle.nx_io.specs.MemoryDoors.{IsFreshPlan}
use Rattle.nx_io.specs.declared.memory_doors.DoorPlan.{DoorPlan}
use Rattle.nx_io.proofs.memory_doors.MemDoorDoor.share.Goals as goal

-- The plans that are left are fresh as they were.
pub invariant_of-self-2 : goal.invariant_of-self-2
invariant_of-self-2 c = (
  c.self.invariant.0,
  subst (λ (plans : List DoorPlan). All IsFreshPlan plans) (sym c.pop_front-plan.ensures.rest) (All-drop IsFreshPlan 1 _ c.self.invariant.1),
  c.self.invariant.2,
)
