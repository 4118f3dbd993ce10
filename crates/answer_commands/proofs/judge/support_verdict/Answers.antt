use Rattle.answer_commands.proofs.judge.support_verdict.Goals as goal

pub returns-in-Some : goal.returns-in-Some
returns-in-Some c = rw (← c.deref.ensures.value) (rw c.in-Some.is at c.in_ok-missing.ensures)

pub returns-in-Some-unanswered : goal.returns-in-Some-unanswered
returns-in-Some-unanswered c =
    rw (← c.deref.ensures.value, ← c.deref-2.ensures.value) (rw c.in_default.is at c.in_ok-missing.ensures, rw c.in-Some-unanswered.is at c.in_ok-unanswered.ensures)

pub returns : goal.returns
returns c = rw (← c.deref.ensures.value, ← c.deref-2.ensures.value) (rw c.in_default.is at c.in_ok-missing.ensures, rw c.in_default-unanswered.is at c.in_ok-unanswered.ensures)
