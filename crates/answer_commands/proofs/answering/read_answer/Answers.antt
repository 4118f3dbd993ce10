use Rattle.run_streams.specs.declared.refusals.InputRefusal.TheVariants.{WrongLine}
use Rattle.run_streams.specs.Ends.{answering}
use Rattle.run_streams.specs.Refusals.{form_of}
use Rattle.run_streams.proofs.ForCallers.{answer_given, refusal_given, too_large}
use Rattle.answer_commands.proofs.answering.read_answer.Goals as goal

pub returns-in-Err-TooLarge-clause-err : goal.returns-in-Err-TooLarge-clause-err
returns-in-Err-TooLarge-clause-err g c = too_large _ (g.S.Source.left c.read_whole.new.source) c.read_whole.ensures.gave.taken (c.read_whole.ensures.large (rw c.in-Err-TooLarge.field-0-is at c.in-Err-TooLarge.is))

pub returns-in-Ok-of-clause-ok : goal.returns-in-Ok-of-clause-ok
returns-in-Ok-of-clause-ok g c =
    let read = c.in-Ok.ensures.whole in
    let few = rw (← c.as_slice.ensures.value) at read.0 in
    let given = answer_given {command = answering (form_of g.A.Answer.formed g.A.Answer.wrong) (g.A.Answer.told c.args.about.now) g.A.Answer.written g.A.Answer.ends} _ (g.S.Source.left c.read_whole.new.source) c.in-Ok-of.answer c.as_slice.result.now c.read_whole.ensures.gave.taken (rw (← c.as_slice.ensures.value) at read.1) read.2 read.3 few c.in-Ok-of.ensures.formed c.in-Ok-of.ensures.told in
    given

pub returns-in-Err-Wrong-clause-err : goal.returns-in-Err-Wrong-clause-err
returns-in-Err-Wrong-clause-err g c =
    let read = c.in-Ok.ensures.whole in
    let wrong = rw c.in-Err-Wrong.field-0-is at c.in-Err-Wrong.ensures.wrong in
    let few = rw (← c.as_slice.ensures.value) at read.0 in
    refusal_given {form = form_of g.A.Answer.formed g.A.Answer.wrong} _ (g.S.Source.left c.read_whole.new.source) (WrongLine c.in-Err-Wrong.line c.in-Err-Wrong.flaw) c.as_slice.result.now c.read_whole.ensures.gave.taken (rw (← c.as_slice.ensures.value) at read.1) read.2 read.3 (few, wrong.0, wrong.1)
