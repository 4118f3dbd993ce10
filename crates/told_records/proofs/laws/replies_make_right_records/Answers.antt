use Rattle.told_records.proofs.Along.{told_is_right}
use Rattle.told_records.proofs.Alone.{alone_is_right}
use Rattle.told_records.proofs.Turns.{replies_are_right}
use Rattle.told_records.proofs.laws.replies_make_right_records.Goals as goal

pub returns-clause-reply : goal.returns-clause-reply
returns-clause-reply c = replies_are_right

pub returns-clause-session : goal.returns-clause-session
returns-clause-session c = told_is_right

pub returns-clause-alone : goal.returns-clause-alone
returns-clause-alone c = alone_is_right
