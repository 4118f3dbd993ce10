use Rattle.audit_form.specs.AuditForm.{end}
use Rattle.audit_form.specs.Inner.Reading.{same}
use Rattle.audit_form.proofs.read.AuditProgressProgress.after.Goals as goal

pub returns-then-is_text-clause-ok : goal.returns-then-is_text-clause-ok
returns-then-is_text-clause-ok c = rw c.in-RecordDue.is (same (end (c.is_text.ensures.0 c.if-is_text.true)))
