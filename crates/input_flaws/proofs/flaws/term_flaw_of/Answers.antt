use Rattle.input_flaws.proofs.LineFlaws.{term_right, term_wrong, terms_done}
use Rattle.input_flaws.proofs.flaws.term_flaw_of.Goals as goal

pub returns-in-Some : goal.returns-in-Some
returns-in-Some c =
    let wrong = term_wrong c.args.terms.now c.loop-word.word-index _ c.args.line.now c.in-Some.error c.loop-word-test.true
    (rw c.in-Some.is at c.in_ok-error.ensures.found) in
    c.loop-word.invariant _ (rw c.formula_flaw.ensures wrong)

pub loop-word-preserved : goal.loop-word-preserved
loop-word-preserved c flaw behind =
    c.loop-word.invariant flaw
    (term_right c.args.terms.now c.loop-word.word-index _ c.args.line.now c.loop-word-test.true (rw c.in_default.is at c.in_ok-error.ensures.found) flaw behind)

pub returns : goal.returns
returns c = c.loop-word.invariant _ (rw c.line_flaw.ensures (terms_done c.args.terms.now c.loop-word.word-index c.args.line.now c.loop-word-test.false))
