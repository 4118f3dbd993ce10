use Rattle.std.proofs.Common.{refl}
use Rattle.answer_commands.specs.CheckForm.{header}
use Rattle.answer_commands.proofs.Following.{header_only, header_wrong}
use Rattle.answer_commands.proofs.stages.Progress.after.Goals as goal

pub returns-in-HeaderDue-clause-ok : goal.returns-in-HeaderDue-clause-ok
returns-in-HeaderDue-clause-ok c = rw c.in-HeaderDue.is (header (c.if-not-is_header.ensures.0 refl))

pub returns-then-not-is_header-clause-wrong : goal.returns-then-not-is_header-clause-wrong
returns-then-not-is_header-clause-wrong c = λ h next f. header_wrong (λ e. let t = c.if-not-is_header.ensures.1 e in cc) (rw c.in-HeaderDue.is at f)

pub returns-in-HeaderDue-clause-only : goal.returns-in-HeaderDue-clause-only
returns-in-HeaderDue-clause-only c = λ other f. header_only (rw c.in-HeaderDue.is at f)
