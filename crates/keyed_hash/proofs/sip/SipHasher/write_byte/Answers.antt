use Rattle.std.proofs.Common.{◌%◌, eq-eqb, ne_eqb}
use Rattle.keyed_hash.specs.SipHash.{write_byte, plus}
use Rattle.keyed_hash.proofs.sip.SipHasher.write_byte.Goals as goal

pub returns-then-self-eq0 : goal.returns-then-self-eq0
unfolding write_byte
returns-then-self-eq0 c = simp (c.compress.ensures, eq-eqb (plus c.args.self.now.count 1 % 8) 0 c.if-self-eq0.true)

pub returns-else-self-eq0 : goal.returns-else-self-eq0
unfolding write_byte
returns-else-self-eq0 c = simp (ne_eqb (plus c.args.self.now.count 1 % 8) 0 c.if-self-eq0.false)
