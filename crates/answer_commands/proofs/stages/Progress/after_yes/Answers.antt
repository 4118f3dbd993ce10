use Rattle.std.proofs.Common.{◌<◌, length, arith}
use Rattle.std.proofs.lemmas.List.{length-map}
use Rattle.answer_commands.specs.CheckForm.{goal_after_yes}
use Rattle.answer_commands.specs.Inner.Forms.{formula_trees, tree_of}
use Rattle.answer_commands.proofs.Following.{goal_after_yes_only, next_yes_only, next_yes_follows, yes_wrong, same_after_yes, same_after_goal, yes_not_goal}
use Rattle.answer_commands.proofs.stages.Progress.after_yes.Goals as goal

pub returns-in-Ok-clause-ok : goal.returns-in-Ok-clause-ok
returns-in-Ok-clause-ok c =
    let room : length (formula_trees c.args.yes.items) < 4096 = omega (arith, length-map c.args.yes.items tree_of, c.args.yes.ok.0) in
    next_yes_follows _ c.in-Some.ensures room c.in-Ok.ensures.ok

pub returns-in-Err-clause-wrong : goal.returns-in-Err-clause-wrong
returns-in-Err-clause-wrong c = λ h next f. yes_wrong
    (λ t g e room s. c.in-Err.ensures.wrong h g (rw (same_after_yes c.in-Some.ensures e) s))
    (λ t g e s. yes_not_goal c.in-Some.ensures e) f

pub returns-in-Ok-goal-clause-ok : goal.returns-in-Ok-goal-clause-ok
returns-in-Ok-goal-clause-ok c = goal_after_yes c.in-Some-after_word.ensures c.in-Ok-goal.ensures.ok

pub returns-in-Err-goal-clause-wrong : goal.returns-in-Err-goal-clause-wrong
returns-in-Err-goal-clause-wrong c = λ h next f. yes_wrong
    (λ t g e room s. yes_not_goal e c.in-Some-after_word.ensures)
    (λ t g e s. c.in-Err-goal.ensures.wrong h g (rw (same_after_goal c.in-Some-after_word.ensures e) s)) f

pub returns-in-Ok-clause-only : goal.returns-in-Ok-clause-only
returns-in-Ok-clause-only c = λ other f. next_yes_only _ c.in-Some.ensures c.in-Ok.ensures.only f

pub returns-in-Ok-goal-clause-only : goal.returns-in-Ok-goal-clause-only
returns-in-Ok-goal-clause-only c = λ other f. goal_after_yes_only c.in-Some-after_word.ensures c.in-Ok-goal.ensures.only f
