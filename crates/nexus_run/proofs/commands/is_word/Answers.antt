use Rattle.std.proofs.Common.{sym}
use Rattle.nexus_run.proofs.Words.{one_word}
use Rattle.nexus_run.proofs.commands.is_word.Goals as goal

pub returns-then-is_empty : goal.returns-then-is_empty
returns-then-is_empty c =
    one_word (λ w. w.now) c.args.due.now c.args.words.now c.in-Some.rest.now c.in-Some.word.now c.is_same.result c.in-Some.ensures.cases.0 (sym c.if-is_empty.ensures)
    c.is_same.ensures
