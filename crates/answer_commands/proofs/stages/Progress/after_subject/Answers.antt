use Rattle.std.proofs.Common.{refl}
use Rattle.answer_commands.proofs.Following.{subject_only, subject_follows, subject_wrong, same_after_subject}
use Rattle.answer_commands.proofs.stages.Progress.after_subject.Goals as goal

pub returns-in-Ok-clause-ok : goal.returns-in-Ok-clause-ok
returns-in-Ok-clause-ok c = subject_follows c.in-Some.ensures c.in-Ok.ensures.name c.in-Ok.ensures.made c.new.ensures.items

pub returns-in-Err-Bad-clause-wrong : goal.returns-in-Err-Bad-clause-wrong
returns-in-Err-Bad-clause-wrong c = λ h next f.
    let not_name = (rw c.in-Err-Bad.field-0-is at c.in-Err-Bad.ensures.bad).0 refl in
    subject_wrong (λ x e n. not_name (rw (same_after_subject c.in-Some.ensures e) n)) f

pub returns-in-Ok-clause-only : goal.returns-in-Ok-clause-only
returns-in-Ok-clause-only c = λ other f. subject_only c.in-Some.ensures c.in-Ok.ensures.made c.new.ensures.items f
