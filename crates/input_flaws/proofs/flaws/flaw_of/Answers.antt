use Rattle.std.proofs.Common.{map}
use Rattle.input_flaws.proofs.LineFlaws.{formula_right, formula_wrong, formulas_done}
use Rattle.input_flaws.proofs.Told.{each_flaw}
use Rattle.input_flaws.proofs.flaws.flaw_of.Goals as goal

pub returns-in-Some : goal.returns-in-Some
returns-in-Some c =
    let wrong = formula_wrong c.args.formulas.now (map (λ w. w.now) c.args.terms.now) c.loop-word.word-index _ c.args.line.now c.in-Some.error
    c.loop-word-test.true (rw c.in-Some.is at c.in_ok-error.ensures.found) in
    c.loop-word.invariant _ (rw c.formula_flaw.ensures wrong)

pub loop-word-preserved : goal.loop-word-preserved
loop-word-preserved c flaw behind =
    c.loop-word.invariant flaw
    (formula_right c.args.formulas.now (map (λ w. w.now) c.args.terms.now) c.loop-word.word-index _ c.args.line.now c.loop-word-test.true
    (rw c.in_default.is at c.in_ok-error.ensures.found) flaw behind)

pub returns : goal.returns
returns c =
    each_flaw c.term_flaw_of.result
    (λ flaw is. c.loop-word.invariant _
    (formulas_done c.args.formulas.now (map (λ w. w.now) c.args.terms.now) c.loop-word.word-index c.args.line.now c.loop-word-test.false _ is))
    c.term_flaw_of.ensures
