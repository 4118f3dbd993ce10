use Rattle.prove_form.specs.Inner.Reading.{givens_tree, stage_of}
use Rattle.prove_form.proofs.Following.{after_goal, after_label, goal_leads, label_leads}
use Rattle.prove_form.proofs.progress.after_givens.Goals as goal

pub returns-in-Ok-clause-ok : goal.returns-in-Ok-clause-ok
returns-in-Ok-clause-ok c = label_leads c.args.line.now c.in-Some.text.now (givens_tree c.args.givens) (stage_of c.in-Ok.next) c.in-Some.ensures c.in-Ok.ensures.ok

pub returns-in-Ok-clause-only : goal.returns-in-Ok-clause-only
returns-in-Ok-clause-only c = λ other f. c.in-Ok.ensures.only other (after_label c.args.line.now c.in-Some.text.now (givens_tree c.args.givens) other c.in-Some.ensures f)

pub returns-in-Err-clause-wrong : goal.returns-in-Err-clause-wrong
returns-in-Err-clause-wrong c = λ n next f. c.in-Err.ensures.wrong n next (after_label c.args.line.now c.in-Some.text.now (givens_tree c.args.givens) next c.in-Some.ensures f)

pub returns-in-Ok-after_goal-clause-ok : goal.returns-in-Ok-after_goal-clause-ok
returns-in-Ok-after_goal-clause-ok c =
    goal_leads c.args.line.now c.in-Some-after_word.text.now (givens_tree c.args.givens) (stage_of c.in-Ok-after_goal.next) c.in-Some-after_word.ensures c.in-Ok-after_goal.ensures.ok

pub returns-in-Ok-after_goal-clause-only : goal.returns-in-Ok-after_goal-clause-only
returns-in-Ok-after_goal-clause-only c = λ other f.
    c.in-Ok-after_goal.ensures.only other (after_goal c.args.line.now c.in-Some-after_word.text.now (givens_tree c.args.givens) other c.in-Some-after_word.ensures f)

pub returns-in-Err-after_goal-clause-wrong : goal.returns-in-Err-after_goal-clause-wrong
returns-in-Err-after_goal-clause-wrong c = λ n next f.
    c.in-Err-after_goal.ensures.wrong n next (after_goal c.args.line.now c.in-Some-after_word.text.now (givens_tree c.args.givens) next c.in-Some-after_word.ensures f)
