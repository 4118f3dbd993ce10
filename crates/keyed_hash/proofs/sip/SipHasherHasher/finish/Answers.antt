use Rattle.keyed_hash.specs.SipHash.{finish}
use Rattle.keyed_hash.proofs.sip.SipHasherHasher.finish.Goals as goal

pub returns : goal.returns
unfolding finish
returns c = simp (c.round-4.ensures, c.round-3.ensures, c.round-2.ensures, c.round.ensures, c.compress.ensures)
