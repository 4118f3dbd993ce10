use Rattle.keyed_hash.specs.SipHash.{compress}
use Rattle.keyed_hash.proofs.sip.SipHasher.compress.Goals as goal

pub returns : goal.returns
unfolding compress
returns c = simp (c.round-2.ensures, c.round.ensures)
