use Rattle.nexus_client.proofs.TalkLaws.{talks_are_in_order}
use Rattle.nexus_client.proofs.laws.talks_keep_their_order.Goals as goal

pub returns : goal.returns
returns c = talks_are_in_order c.bytes_begin_with_a_reply_in_one_way.ensures
