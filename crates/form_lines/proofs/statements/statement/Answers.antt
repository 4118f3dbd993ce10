use Rattle.std.proofs.Common.{sym, ◌∙◌}
use Rattle.form_lines.proofs.statements.statement.Goals as goal

pub returns-in-Err-clause-wrong : goal.returns-in-Err-clause-wrong
returns-in-Err-clause-wrong c = λ h f s. c.in-Err.ensures.wrong h f s.spelled

pub returns-then-not-is_said-clause-wrong : goal.returns-then-not-is_said-clause-wrong
returns-then-not-is_said-clause-wrong c = λ h f s.
    let e = c.in-Ok.ensures.only f s.spelled in
    let t = c.if-not-is_said.ensures.1 (s.said.0, s.said.1, sym e ∙ s.said.2) in cc

pub returns-then-not-is_closed-clause-wrong : goal.returns-then-not-is_closed-clause-wrong
returns-then-not-is_closed-clause-wrong c = λ h f s.
    let e = c.in-Ok.ensures.only f s.spelled in
    let t = c.if-not-is_closed.ensures.1 (rw e at s.closed) in cc
