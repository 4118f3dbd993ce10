use Rattle.std.proofs.Common.{◌≡◌, ◌++◌, take}
use Rattle.nx_io.specs.Histories.{bytes_of}
use Rattle.nx_io.proofs.history.History.tell.Given as goal

abbrev pub invariant-loop-byte : goal.invariant-loop-byte
invariant-loop-byte l = bytes_of l.self ≡ bytes_of l.fn.self ++ take l.byte-index l.piece
