use Rattle.audit_check.proofs.Unknowns.{right_allowed_derives}
use Rattle.audit_check.proofs.laws.right_allowed_records_derive.Goals as goal

pub returns : goal.returns
returns c = right_allowed_derives c.allowed_cases_derive.ensures
