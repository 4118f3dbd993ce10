use Rattle.std.proofs.Common.{refl}
use Rattle.session_core.specs.Inner.Steps.{found, down}
use Rattle.session_core.proofs.answers.judged.Goals as goal

pub returns-in-Ok-clause-outcome : goal.returns-in-Ok-clause-outcome
returns-in-Ok-clause-outcome g c = found c.in-Ok.finding c.in-Ok.ensures.judged c.found_reply.ensures

pub returns-in-Err-Down-clause-outcome : goal.returns-in-Err-Down-clause-outcome
returns-in-Err-Down-clause-outcome g c = down c.in-Err-Down.line (rw c.in-Err-Down.field-0-is at c.in-Err-Down.ensures.broken_off) refl
