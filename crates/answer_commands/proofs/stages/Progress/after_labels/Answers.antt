use Rattle.std.proofs.Common.{◌<◌, length, arith}
use Rattle.std.proofs.lemmas.List.{length-map}
use Rattle.answer_commands.specs.Inner.Forms.{formula_trees, tree_of}
use Rattle.answer_commands.proofs.Following.{first_yes_only, goal_only, label_only, label_follows, first_yes_follows, goal_follows, labels_wrong, same_after_label, same_after_yes, same_after_goal, label_not_yes, label_not_goal, yes_not_goal}
use Rattle.answer_commands.proofs.stages.Progress.after_labels.Goals as goal

pub returns-in-Ok-clause-ok : goal.returns-in-Ok-clause-ok
returns-in-Ok-clause-ok c =
    let room : length (formula_trees c.args.labels.items) < 4096 = omega (arith, length-map c.args.labels.items tree_of, c.args.labels.ok.0) in
    label_follows _ c.in-Some.ensures room c.in-Ok.ensures.ok

pub returns-in-Err-clause-wrong : goal.returns-in-Err-clause-wrong
returns-in-Err-clause-wrong c = λ h next f. labels_wrong
    (λ t g e room s. c.in-Err.ensures.wrong h g (rw (same_after_label c.in-Some.ensures e) s))
    (λ t g e s. label_not_yes c.in-Some.ensures e)
    (λ t g e s. label_not_goal c.in-Some.ensures e) f

pub returns-in-Ok-with_key-clause-ok : goal.returns-in-Ok-with_key-clause-ok
returns-in-Ok-with_key-clause-ok c = first_yes_follows _ c.in-Some-after_word.ensures c.new.ensures.items c.in-Ok-with_key.ensures.ok

pub returns-in-Err-with_key-clause-wrong : goal.returns-in-Err-with_key-clause-wrong
returns-in-Err-with_key-clause-wrong c = λ h next f. labels_wrong
    (λ t g e room s. label_not_yes e c.in-Some-after_word.ensures)
    (λ t g e s. c.in-Err-with_key.ensures.wrong h g (rw (same_after_yes c.in-Some-after_word.ensures e) s))
    (λ t g e s. yes_not_goal c.in-Some-after_word.ensures e) f

pub returns-in-Ok-goal-clause-ok : goal.returns-in-Ok-goal-clause-ok
returns-in-Ok-goal-clause-ok c = goal_follows c.in-Some-after_word-2.ensures c.in-Ok-goal.ensures.ok c.new-in-Ok-goal.ensures.items

pub returns-in-Err-goal-clause-wrong : goal.returns-in-Err-goal-clause-wrong
returns-in-Err-goal-clause-wrong c = λ h next f. labels_wrong
    (λ t g e room s. label_not_goal e c.in-Some-after_word-2.ensures)
    (λ t g e s. yes_not_goal e c.in-Some-after_word-2.ensures)
    (λ t g e s. c.in-Err-goal.ensures.wrong h g (rw (same_after_goal c.in-Some-after_word-2.ensures e) s)) f

pub returns-in-Ok-clause-only : goal.returns-in-Ok-clause-only
returns-in-Ok-clause-only c = λ other f. label_only _ c.in-Some.ensures c.in-Ok.ensures.only f

pub returns-in-Ok-with_key-clause-only : goal.returns-in-Ok-with_key-clause-only
returns-in-Ok-with_key-clause-only c = λ other f. first_yes_only _ c.in-Some-after_word.ensures c.new.ensures.items c.in-Ok-with_key.ensures.only f

pub returns-in-Ok-goal-clause-only : goal.returns-in-Ok-goal-clause-only
returns-in-Ok-goal-clause-only c = λ other f. goal_only c.in-Some-after_word-2.ensures c.new-in-Ok-goal.ensures.items c.in-Ok-goal.ensures.only f

pub returns-then-len-ge-MOST_FORMULAS-clause-wrong : goal.returns-then-len-ge-MOST_FORMULAS-clause-wrong
returns-then-len-ge-MOST_FORMULAS-clause-wrong c = λ h next f. labels_wrong
    (λ t g e room s. omega (arith, length-map c.args.labels.items tree_of, c.args.labels.ok.0, c.len.ensures, c.if-len-ge-MOST_FORMULAS.true, room))
    (λ t g e s. label_not_yes c.in-Some.ensures e)
    (λ t g e s. label_not_goal c.in-Some.ensures e) f
