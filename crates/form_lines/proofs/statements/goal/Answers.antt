use Rattle.form_lines.proofs.statements.goal.Goals as goal

pub returns-in-Err-clause-wrong : goal.returns-in-Err-clause-wrong
returns-in-Err-clause-wrong c = λ h f s. c.in-Err.ensures.wrong h f s.spelled

pub returns-then-not-is_closed_but-clause-wrong : goal.returns-then-not-is_closed_but-clause-wrong
returns-then-not-is_closed_but-clause-wrong c = λ h f s.
    let e = c.in-Ok.ensures.only f s.spelled in
    let k = rw e at s.closed in
    let t = c.if-not-is_closed_but.ensures.1 (rw c.in-Some.ensures k) in cc
