use Rattle.nal_rules.proofs.OneVerdict.{one_fault, one_lowest_fault, one_verdict}
use Rattle.nal_rules.proofs.laws.a_case_has_one_verdict.Goals as goal

pub returns : goal.returns
returns c = record { fault = one_fault; lowest_fault = one_lowest_fault; verdict = one_verdict }
