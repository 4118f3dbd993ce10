use Rattle.verdict_words.proofs.Opening.{opens}
use Rattle.verdict_words.proofs.steps.make_table.Goals as goal

pub of_words-requires : goal.of_words-requires
of_words-requires g c = opens g.M.Matter.session _ _ c.args.key.now _ c.requires.words c.requires.first c.requires.sessions c.requires.short
