use Rattle.std.proofs.Common.{sym, subst, ap, List, ℕ}
use Rattle.std.specs.List.{All, Contains}
use Rattle.std.proofs.lemmas.List.Elements.{All-drop}
use Rattle.nx_io.specs.MemoryDoors.{IsFreshWire}
use Rattle.nx_io.specs.MemoryLinks.{Wire}
use Rattle.nx_io.proofs.memory_doors.MemDoorDoor.next.Goals as goal

-- The links that are left are fresh as they were.
pub invariant_of-self-in-Some : goal.invariant_of-self-in-Some
invariant_of-self-in-Some g c = (
  subst (λ (links : List Wire). All IsFreshWire links) (sym c.pop_front.ensures.rest) (All-drop IsFreshWire 1 _ c.self.invariant.0),
  c.self.invariant.1,
  c.self.invariant.2,
)

-- A link was given, and the call's number is not listed.
pub returns-in-Some-clause-failed : goal.returns-in-Some-clause-failed
returns-in-Some-clause-failed g c = (
  λ e. absurd (cc e),
  λ told.
      let counted = subst (λ (calls : ℕ). Contains c.args.self.now.fails calls) (ap (λ d. d.number) c.self.view_is) told in
      absurd (cc (c.call_fails.ensures.told.1 counted, c.if-call_fails.false)),
)
