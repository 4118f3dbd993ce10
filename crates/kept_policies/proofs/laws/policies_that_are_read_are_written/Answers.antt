use Rattle.kept_policies.proofs.Begins.{recovered_begins, recovered_grows}
use Rattle.kept_policies.proofs.Written.{front_is_written, recovered_is_written}
use Rattle.kept_policies.proofs.laws.policies_that_are_read_are_written.Goals as goal

pub returns-clause-front : goal.returns-clause-front
returns-clause-front c = front_is_written

pub returns-clause-recovered : goal.returns-clause-recovered
returns-clause-recovered c = recovered_is_written

pub returns-clause-grows : goal.returns-clause-grows
returns-clause-grows c = recovered_grows

pub returns-clause-begins : goal.returns-clause-begins
returns-clause-begins c = recovered_begins
