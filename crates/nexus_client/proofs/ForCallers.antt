-- Laws of talks, which the proofs of other crates may cite.
use Rattle.session_wire.specs.Laws.{OneReplyBeginning}
use Rattle.nexus_client.specs.TalkLaws.{OneSpelling, TalksAreInOrder}
use Rattle.nexus_client.proofs.TalkLaws as talk

-- every talk keeps its order
pub talks_are_in_order : OneReplyBeginning → TalksAreInOrder
talks_are_in_order one = talk.talks_are_in_order one

-- bytes spell one list of replies
pub one_spelling : OneReplyBeginning → OneSpelling
one_spelling one = talk.one_spelling one
