use Rattle.std.proofs.Common.{◌∙◌}
use Rattle.nexus_run.proofs.Words.{next_text, not_all_texts}
use Rattle.nexus_run.proofs.arguments.texts.Goals as goal

pub loop-word-preserved : goal.loop-word-preserved
loop-word-preserved c =
    next_text (λ t. t.now) (λ w. w.items) _ _ c.args.words.now c.in-Ok.text c.word-item.result c.loop-word.word-index c.loop-word.invariant c.in_ok-push-in-Ok.ensures.items c.loop-word-test.true c.word-item.is (c.in-Ok.ensures.cases.0 ∙ c.as_slice.ensures.value)

pub returns-in-Err : goal.returns-in-Err
returns-in-Err c =
    not_all_texts (λ w. w.items) c.args.words.now c.word-item.result c.loop-word.word-index c.loop-word-test.true c.word-item.is (rw c.as_slice.ensures.value at c.in-Err.ensures.cases.0)
