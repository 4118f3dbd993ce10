use Rattle.std.proofs.Common.{get_or}
use Rattle.std.proofs.lemmas.Option.{slice_get-get_or}
use Rattle.audit_form.proofs.AnswerLetters.{letter_at}
use Rattle.audit_form.proofs.answer_letters.read_letters.Goals as goal

pub returns-in_default : goal.returns-in_default
returns-in_default c = λ bs e.
    letter_at c.args.text.now bs c.loop-byte.byte-index (get_or c.args.text.now c.loop-byte.byte-index 0) e (slice_get-get_or c.args.text.now c.loop-byte.byte-index 0 c.loop-byte-test.true) c.in_default.ensures
