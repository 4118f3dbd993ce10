use Rattle.nexus_client.proofs.TalkLaws.{one_spelling}
use Rattle.nexus_client.proofs.laws.bytes_spell_replies_in_one_way.Goals as goal

pub returns : goal.returns
returns c = one_spelling c.bytes_begin_with_a_reply_in_one_way.ensures
