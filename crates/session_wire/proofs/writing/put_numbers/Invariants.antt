use Rattle.std.proofs.Common.{◌≡◌, ◌*◌, ◌++◌, drop, take}
use Rattle.std.specs.List.{flat_map}
use Rattle.session_wire.specs.Frames.{number_bytes}
use Rattle.session_wire.proofs.writing.put_numbers.Given as goal

abbrev pub invariant-loop-i : goal.invariant-loop-i
invariant-loop-i l = l.into ≡ flat_map number_bytes (take l.i l.numbers) ++ drop (8 * l.i) l.fn.into
