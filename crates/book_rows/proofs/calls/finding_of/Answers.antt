use Rattle.book_rows.proofs.calls.finding_of.Goals as goal

pub returns-in-Ok-clause-judged : goal.returns-in-Ok-clause-judged
returns-in-Ok-clause-judged g c = (_, c.in-Ok.ensures.judged.verdict)
