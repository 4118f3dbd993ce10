use Rattle.std.proofs.Common.{sym, ap, ◌∙◌}
use Rattle.prove_form.specs.ProveForm.{goal_due, subject}
use Rattle.prove_form.proofs.Following.{after_subject}
use Rattle.prove_form.proofs.progress.after_subject.Goals as goal

pub returns-in-Ok-clause-ok : goal.returns-in-Ok-clause-ok
returns-in-Ok-clause-ok c = rw c.in-Ok.ensures.ok (subject c.in-Some.ensures c.in-Ok.ensures.name)

pub returns-in-Ok-clause-only : goal.returns-in-Ok-clause-only
returns-in-Ok-clause-only c = λ other f. (after_subject c.args.line.now c.in-Some.name.now other c.in-Some.ensures f).1 ∙ ap goal_due (sym c.in-Ok.ensures.ok)

pub returns-in-Err-clause-wrong : goal.returns-in-Err-clause-wrong
returns-in-Err-clause-wrong c = λ h next f. c.in-Err.ensures.wrong h (after_subject c.args.line.now c.in-Some.name.now next c.in-Some.ensures f).0
