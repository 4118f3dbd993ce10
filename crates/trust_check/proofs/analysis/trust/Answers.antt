use Rattle.std.proofs.Common.{map}
use Rattle.nal_term.specs.Trees.{formula_tree}
use Rattle.trust_check.specs.Reach.{assumptions_of}
use Rattle.trust_check.proofs.Unreached.{out_of_reach}
use Rattle.trust_check.proofs.analysis.trust.Goals as goal

pub returns-in-Some-clause-answer : goal.returns-in-Some-clause-answer
returns-in-Some-clause-answer c = rw (c.as_slice.ensures.value, c.as_slice-2.ensures.value, c.as_slice-3.ensures.value, c.as_slice-4.ensures.value) at c.in-Some.ensures

pub returns-in-None-2-clause-safe : goal.returns-in-None-2-clause-safe
returns-in-None-2-clause-safe c = λ safe.
    let a = assumptions_of c.args.untrusted.now.items c.args.loose.now.items c.args.facts.now.items in
    let told = rw (c.as_slice.ensures.value, c.as_slice-2.ensures.value, c.as_slice-3.ensures.value) at c.makes_true.ensures in
    let no = c.if-makes_true.false in
    out_of_reach a (map formula_tree c.args.labels.now.items) (formula_tree c.args.goal.now)
    (rw (c.as_slice.ensures.value, c.as_slice-2.ensures.value, c.as_slice-3.ensures.value, c.as_slice-4.ensures.value) at c.in-None-2.ensures)
    (λ h. let yes = told.1 h in absurd (cc (yes, no)))
