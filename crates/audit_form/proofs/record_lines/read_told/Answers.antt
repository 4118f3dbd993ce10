use Rattle.audit_form.proofs.RecordLines.{answers_in, told_made, told_parts, verdict_in}
use Rattle.audit_form.proofs.record_lines.read_told.Goals as goal

pub returns-in_default-after_word : goal.returns-in_default-after_word
returns-in_default-after_word c = λ a v t.
    let p = told_parts c.args.text.now c.in-Some.letters.now c.in-Some.rest.now a v c.in-Some.ensures.0 c.in-Some.ensures.1 t in
    c.in_default-after_word.ensures _ p.1

pub returns-in_default-read_verdict : goal.returns-in_default-read_verdict
returns-in_default-read_verdict c = λ a v t.
    c.in_default-read_verdict.ensures v (verdict_in c.args.text.now c.in-Some.letters.now c.in-Some.rest.now a v c.in-Some-after_word.told.now c.in-Some.ensures.0 c.in-Some.ensures.1 c.in-Some-after_word.ensures t)

pub returns-in_default-read_answers : goal.returns-in_default-read_answers
returns-in_default-read_answers c = λ a v t. c.in_default-read_answers.ensures a (answers_in c.args.text.now c.in-Some.letters.now c.in-Some.rest.now a v c.in-Some.ensures.0 c.in-Some.ensures.1 t)

pub returns : goal.returns
returns c =
    told_made c.args.text.now c.in-Some.letters.now c.in-Some.rest.now c.in-Some-after_word.told.now c.in-Some-read_answers.answers c.in-Some-read_verdict.verdict c.in-Some.ensures.0 c.in-Some-after_word.ensures
    c.in-Some-read_answers.ensures c.in-Some-read_verdict.ensures
