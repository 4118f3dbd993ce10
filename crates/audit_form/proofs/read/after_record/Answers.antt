use Rattle.std.proofs.Common.{[], ◌∷◌, ◌++◌, ap, ◌∙◌, arith}
use Rattle.policy_history.specs.Values.{entry_trees}
use Rattle.audit_check.specs.declared.records.Record.{Record}
use Rattle.audit_form.specs.AuditForm.{one, record_due}
use Rattle.audit_form.specs.Inner.Reading.{behind, same}
use Rattle.audit_form.proofs.Reading.{record_follows}
use Rattle.audit_form.proofs.read.after_record.Goals as goal

pub returns-in-Err-clause-wrong : goal.returns-in-Err-clause-wrong
returns-in-Err-clause-wrong c = λ n next f.
    let r = record_follows c.args.journal.now.head (entry_trees c.args.journal.now.entries) c.args.line.now c.args.records.items next c.requires f in
    c.in-Err.ensures.wrong n r.0 r.2

pub returns-in-Ok-push-clause-ok : goal.returns-in-Ok-push-clause-ok
returns-in-Ok-push-clause-ok c = rw c.in-Ok-push.ensures.items (same (one {records = c.args.records.items} c.in-Ok.recorded (omega (arith, c.len.ensures, c.if-len-ge-MOST_RECORDS.false)) c.in-Ok.ensures.ok))

pub returns-in-Ok-push-clause-only : goal.returns-in-Ok-push-clause-only
returns-in-Ok-push-clause-only c = λ other f.
    let journal = c.args.journal.now in
    let r = record_follows journal.head (entry_trees journal.entries) c.args.line.now c.args.records.items other c.requires f in
    rw c.in-Ok-push.ensures.items (r.3 ∙ ap (λ (x : Record). behind journal.head (entry_trees journal.entries) (record_due (c.args.records.items ++ x ∷ []))) (c.in-Ok.ensures.only r.0 r.2))
