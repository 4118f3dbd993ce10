use Rattle.std.proofs.Common.{refl}
use Rattle.keyed_hash.specs.SipHash.{initial}
use Rattle.keyed_hash.proofs.sip.SipHasher.new.Goals as goal

pub returns : goal.returns
unfolding initial
returns c = refl
