use Rattle.audit_form.proofs.RightLines.{right_lines_are_audited}
use Rattle.audit_form.proofs.laws.right_lines_are_audited.Goals as goal

pub returns : goal.returns
returns c = right_lines_are_audited
