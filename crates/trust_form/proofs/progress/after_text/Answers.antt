use Rattle.std.proofs.Common.{refl, ap, ◌∙◌}
use Rattle.nal_term.specs.Trees.{formula_tree}
use Rattle.trust_form.specs.Inner.Reading.{givens_tree}
use Rattle.trust_form.specs.TrustForm.{end_due, form_with, goal_due}
use Rattle.trust_form.proofs.Following.{added, adds}
use Rattle.trust_form.proofs.progress.after_text.Goals as goal

pub returns-in-Ok-clause-ok : goal.returns-in-Ok-clause-ok
returns-in-Ok-clause-ok c = rw c.in-Goal.is (formula_tree c.in-Ok.goal, c.in-Ok.ensures.ok, refl)

pub returns-in-Ok-clause-only : goal.returns-in-Ok-clause-only
returns-in-Ok-clause-only c = λ other a.
    let w = rw c.in-Goal.is at a in
    w.2 ∙ ap (λ f. end_due (form_with (givens_tree c.args.givens) f)) (c.in-Ok.ensures.only w.0 w.1)

pub returns-in-Err-clause-wrong : goal.returns-in-Err-clause-wrong
returns-in-Err-clause-wrong c = λ n next a. let w = rw c.in-Goal.is at a in c.in-Err.ensures.wrong n w.0 w.1

pub returns-in-Ok-with-clause-ok : goal.returns-in-Ok-with-clause-ok
returns-in-Ok-with-clause-ok c =
    added c.args.word (givens_tree c.args.givens) c.args.text.now (givens_tree c.in-Ok-with.givens) c.in_default.not-Goal c.in-Ok-with.ensures.ok

pub returns-in-Ok-with-clause-only : goal.returns-in-Ok-with-clause-only
returns-in-Ok-with-clause-only c = λ other a.
    let w = adds c.args.word (givens_tree c.args.givens) c.args.text.now other c.in_default.not-Goal a in
    w.2 ∙ ap goal_due (c.in-Ok-with.ensures.only w.0 w.1)

pub returns-in-Err-with-clause-wrong : goal.returns-in-Err-with-clause-wrong
returns-in-Err-with-clause-wrong c = λ n next a.
    let w = adds c.args.word (givens_tree c.args.givens) c.args.text.now next c.in_default.not-Goal a in
    c.in-Err-with.ensures.wrong n w.0 w.1
