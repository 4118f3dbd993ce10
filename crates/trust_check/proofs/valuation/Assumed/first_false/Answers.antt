use Rattle.std.proofs.Common.{length, refl, arith}
use Rattle.std.proofs.lemmas.List.Elements.{All-map}
use Rattle.std.proofs.lemmas.Option.{slice_get_read}
use Rattle.nal_term.specs.Trees.{formula_tree}
use Rattle.trust_check.specs.Inner.Assumed.{assumptions_in}
use Rattle.trust_check.specs.Valuation.{Holds}
use Rattle.trust_check.proofs.Labels.{lowest}
use Rattle.trust_check.proofs.valuation.Assumed.first_false.Goals as goal

pub returns-then-not-makes_true : goal.returns-then-not-makes_true
returns-then-not-makes_true c =
    let label = c.label-item.result in
    let here = slice_get_read c.args.labels.now (length c.args.labels.now) c.loop-label.label-index label refl c.loop-label-test.true c.label-item.is in
    rw c.loop-label.invariant.0 (lowest (assumptions_in c.args.self.now) c.args.labels.now c.loop-label.label-index label here
    (λ h. let t = c.makes_true.ensures.1 h in let f = c.if-not-makes_true.true in cc (t, f))
    c.loop-label.invariant.1)

pub returns : goal.returns
returns c =
    All-map (Holds (assumptions_in c.args.self.now)) formula_tree c.args.labels.now (λ k d within. c.loop-label.invariant.1 k d (omega (arith, within, c.loop-label-test.false)))
