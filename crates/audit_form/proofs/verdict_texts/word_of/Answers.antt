use Rattle.audit_form.proofs.VerdictTexts.{no_word}
use Rattle.audit_form.proofs.verdict_texts.word_of.Goals as goal

pub returns-in_default-after_word-8 : goal.returns-in_default-after_word-8
returns-in_default-after_word-8 c =
    no_word c.args.text.now c.in_default.ensures c.in_default-after_word.ensures c.in_default-after_word-2.ensures c.in_default-after_word-3.ensures c.in_default-after_word-4.ensures c.in_default-after_word-5.ensures
    c.in_default-after_word-6.ensures c.in_default-after_word-7.ensures c.in_default-after_word-8.ensures
