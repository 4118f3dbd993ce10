use Rattle.trust_form.specs.Inner.Reading.{givens_tree, stage_of}
use Rattle.trust_form.proofs.Following.{leads_on, led, wordless}
use Rattle.trust_form.proofs.progress.after_givens.Goals as goal

pub returns-in_default-clause-wrong : goal.returns-in_default-clause-wrong
returns-in_default-clause-wrong c = λ n next f. wordless c.args.line.now (givens_tree c.args.givens) next c.in_default.ensures f

pub returns-then-not-may_stand-clause-wrong : goal.returns-then-not-may_stand-clause-wrong
returns-then-not-may_stand-clause-wrong c = λ n next f.
    let yes = c.may_stand.ensures.1 (led c.in-Some.word c.args.line.now c.in-Some.text.now (givens_tree c.args.givens) next c.in-Some.ensures f).0 in
    let no = c.if-not-may_stand.true in
    absurd (cc (yes, no))

pub returns-in-Ok-clause-ok : goal.returns-in-Ok-clause-ok
returns-in-Ok-clause-ok c =
    leads_on c.in-Some.word c.args.line.now c.in-Some.text.now (givens_tree c.args.givens) (stage_of c.in-Ok.next) c.in-Some.ensures (c.may_stand.ensures.0 c.if-not-may_stand.false) c.in-Ok.ensures.ok

pub returns-in-Ok-clause-only : goal.returns-in-Ok-clause-only
returns-in-Ok-clause-only c = λ other f.
    c.in-Ok.ensures.only other (led c.in-Some.word c.args.line.now c.in-Some.text.now (givens_tree c.args.givens) other c.in-Some.ensures f).1

pub returns-in-Err-clause-wrong : goal.returns-in-Err-clause-wrong
returns-in-Err-clause-wrong c = λ n next f.
    c.in-Err.ensures.wrong n next (led c.in-Some.word c.args.line.now c.in-Some.text.now (givens_tree c.args.givens) next c.in-Some.ensures f).1
