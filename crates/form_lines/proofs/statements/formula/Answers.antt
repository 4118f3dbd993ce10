use Rattle.form_lines.proofs.statements.formula.Goals as goal

pub returns-in_default-clause-wrong : goal.returns-in_default-clause-wrong
returns-in_default-clause-wrong c = λ h g s. c.in-Err.ensures.err c.in_default.not-Memory g s
