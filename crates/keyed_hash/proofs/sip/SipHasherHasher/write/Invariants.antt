use Rattle.std.proofs.Common.{◌≡◌, fold, drop}
use Rattle.keyed_hash.specs.SipHash.{write_byte}
use Rattle.keyed_hash.proofs.sip.SipHasherHasher.write.Given as goal

abbrev pub invariant-loop-byte : goal.invariant-loop-byte
invariant-loop-byte l = fold write_byte l.self (drop l.byte-index l.bytes) ≡ fold write_byte l.fn.self l.bytes
