use Rattle.answer_commands.specs.Inner.Forms.{formula_trees}
use Rattle.answer_commands.proofs.Verdicts.{ask_line, not_ask}
use Rattle.answer_commands.proofs.judge.is_unanswered.Goals as goal

pub returns-in_ok-key-in-Ask : goal.returns-in_ok-key-in-Ask
returns-in_ok-key-in-Ask c =
    ask_line c.args.proof.now (formula_trees c.args.yes.now) c.args.number c.in-Some.line.now c.is_among.result c.in-Some.ensures.zero c.in-Some.ensures.value c.in-Ask.is
    (rw c.in_ok-key-in-Ask.ensures at c.is_among.ensures)

pub returns-in_default-rule : goal.returns-in_default-rule
returns-in_default-rule c =
    not_ask c.args.proof.now (formula_trees c.args.yes.now) c.args.number c.in-Some.line.now c.in-Some.ensures.zero c.in-Some.ensures.value c.in_default-rule.not-Ask
