use Rattle.std.specs.List.{All}
use Rattle.nx_io.specs.MemoryDoors.{IsFreshWire}
use Rattle.run_rows.proofs.days.links_of.Given as goal

abbrev pub invariant-loop-session : goal.invariant-loop-session
invariant-loop-session l = All IsFreshWire l.links.items
