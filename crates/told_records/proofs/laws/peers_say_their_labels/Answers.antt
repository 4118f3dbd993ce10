use Rattle.told_records.proofs.PeersAlone.{lone_peers_say}
use Rattle.told_records.proofs.PeersBeside.{peers_say}
use Rattle.told_records.proofs.laws.peers_say_their_labels.Goals as goal

pub returns-clause-session : goal.returns-clause-session
returns-clause-session c = peers_say

pub returns-clause-alone : goal.returns-clause-alone
returns-clause-alone c = lone_peers_say
