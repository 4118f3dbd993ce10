use Rattle.answer_commands.specs.Inner.Forms.{formula_trees}
use Rattle.answer_commands.proofs.Verdicts.{label_line, not_label}
use Rattle.answer_commands.proofs.judge.is_missing_label.Goals as goal

pub returns-in_ok-key-in-Label : goal.returns-in_ok-key-in-Label
returns-in_ok-key-in-Label c =
    label_line c.args.proof.now (formula_trees c.args.labels.now) c.args.number c.in-Some.line.now c.is_among.result c.in-Some.ensures.zero c.in-Some.ensures.value c.in-Label.is
    (rw c.in_ok-key-in-Label.ensures at c.is_among.ensures)

pub returns-in_default-rule : goal.returns-in_default-rule
returns-in_default-rule c =
    not_label c.args.proof.now (formula_trees c.args.labels.now) c.args.number c.in-Some.line.now c.in-Some.ensures.zero c.in-Some.ensures.value c.in_default-rule.not-Label
