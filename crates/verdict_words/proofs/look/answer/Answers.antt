use Rattle.verdict_words.proofs.Answering.{hits, misses_nothing, misses_late}
use Rattle.verdict_words.proofs.look.answer.Goals as goal

pub returns-in_default : goal.returns-in_default
returns-in_default c = misses_nothing _ _ _ _ _ c.in_default.ensures

pub returns-then-max-at : goal.returns-then-max-at
returns-then-max-at c = misses_late _ _ _ _ _ _ _ _ c.in-Some.ensures c.max.ensures c.if-max-at.true

pub returns : goal.returns
returns c = hits _ _ _ _ _ _ _ _ c.in-Some.ensures c.max.ensures c.if-max-at.false
