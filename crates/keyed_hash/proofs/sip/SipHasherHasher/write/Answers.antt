use Rattle.std.proofs.Common.{◌∙◌, fold, sym, arith}
use Rattle.std.proofs.lemmas.List.{at_drop_all}
use Rattle.keyed_hash.specs.SipHash.{write_byte, write}
use Rattle.keyed_hash.proofs.sip.SipHasherHasher.write.Goals as goal

pub returns : goal.returns
unfolding write
returns c =
    let bytes = c.args.bytes.now in
    sym (at_drop_all (fold write_byte c.loop-byte.self) bytes c.loop-byte.byte-index (omega (arith, c.loop-byte-test.false, c.loop-byte.auto.byte-index-end))) ∙ c.loop-byte.invariant
