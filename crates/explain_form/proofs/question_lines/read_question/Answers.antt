use Rattle.policy_history.specs.Values.{entry_trees}
use Rattle.audit_check.specs.declared.records.Answers.TheVariants.{Known}
use Rattle.audit_form.specs.RecordLines.{given_text}
use Rattle.explain_form.proofs.QuestionLines.{call_in, call_of, letters_in, not_unknown, question_made}
use Rattle.explain_form.proofs.question_lines.read_question.Goals as goal

pub returns-in-Err-clause-wrong : goal.returns-in-Err-clause-wrong
returns-in-Err-clause-wrong c = λ n other l.
    let journal = c.args.journal.now in
    c.in-Err.ensures.wrong n (call_of other) (given_text other.answers) (call_in journal.head (entry_trees journal.entries) c.args.line.now other l)

pub returns-in-Some-Known-clause-ok : goal.returns-in-Some-Known-clause-ok
returns-in-Some-Known-clause-ok c =
    let journal = c.args.journal.now in
    question_made journal.head (entry_trees journal.entries) c.args.line.now c.in-Ok.read.0 c.in-Ok.read.1.now c.in-Some-Known.answers c.in-Ok.ensures.ok
    (rw c.in-Some-Known.field-0-is at c.in-Some-Known.ensures)

pub returns-in-Some-Unknown-clause-wrong : goal.returns-in-Some-Unknown-clause-wrong
returns-in-Some-Unknown-clause-wrong c = λ n other l.
    let journal = c.args.journal.now in
    not_unknown c.in-Ok.read.1.now other.answers (rw c.in-Some-Unknown.field-0-is at c.in-Some-Unknown.ensures)
    (letters_in journal.head (entry_trees journal.entries) c.args.line.now c.in-Ok.read.0 c.in-Ok.read.1.now c.in-Ok.ensures.only other l)

pub returns-in-None-clause-wrong : goal.returns-in-None-clause-wrong
returns-in-None-clause-wrong c = λ n other l.
    let journal = c.args.journal.now in
    c.in-None.ensures (Known other.answers) (letters_in journal.head (entry_trees journal.entries) c.args.line.now c.in-Ok.read.0 c.in-Ok.read.1.now c.in-Ok.ensures.only other l)
