use Rattle.told_records.proofs.Recorded.{none_is_left_out, one_behind_the_other, recorded_is_right}
use Rattle.told_records.proofs.laws.recorded_lines_are_right.Goals as goal

pub returns-clause-session : goal.returns-clause-session
returns-clause-session c = recorded_is_right

pub returns-clause-each : goal.returns-clause-each
returns-clause-each c = none_is_left_out

pub returns-clause-behind : goal.returns-clause-behind
returns-clause-behind c = one_behind_the_other
