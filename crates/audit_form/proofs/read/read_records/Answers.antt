use Rattle.std.proofs.Common.{[], refl, ap, arith}
use Rattle.form_lines.proofs.ForCallers.{wrong_line_within}
use Rattle.policy_history.specs.Values.{entry_trees}
use Rattle.audit_form.specs.AuditForm.{ended, record_due}
use Rattle.audit_form.specs.Inner.Reading.{behind, stage_of}
use Rattle.audit_form.proofs.Reading.{leads_behind, records_read, wrong_behind}
use Rattle.audit_form.proofs.read.read_records.Goals as goal

pub returns-in-Ok-Ended-clause-ok : goal.returns-in-Ok-Ended-clause-ok
returns-in-Ok-Ended-clause-ok c = records_read (ap stage_of c.in-Ok-Ended.field-0-is) (rw c.new.ensures.items at c.in-Ok-Ended.ensures.ok).1

pub overflow_add-result : goal.overflow_add-result
overflow_add-result c = let within = wrong_line_within (rw c.in-Err-Wrong.field-0-is at c.in-Err-Wrong.ensures.wrong) in omega (arith, within, c.requires)

pub returns-in-Err-Wrong-clause-wrong : goal.returns-in-Err-Wrong-clause-wrong
returns-in-Err-Wrong-clause-wrong c =
    let journal = c.args.journal.now in
    (c.in-Err-Wrong.line, refl, wrong_behind journal.head (entry_trees journal.entries) (record_due []) c.args.text.now c.in-Err-Wrong.line (rw (c.in-Err-Wrong.field-0-is, c.new.ensures.items) at c.in-Err-Wrong.ensures.wrong))

pub returns-in-Err-Wrong-clause-refused : goal.returns-in-Err-Wrong-clause-refused
returns-in-Err-Wrong-clause-refused c = λ n others l.
    let journal = c.args.journal.now in
    let refused = (rw (c.in-Err-Wrong.field-0-is, c.new.ensures.items) at c.in-Err-Wrong.ensures.refused) (λ e. cc) in
    refused (behind journal.head (entry_trees journal.entries) (ended others)) tt (l.0, leads_behind l.1)
