use Rattle.std.proofs.Common.{◌≡◌, ◌∙◌, Some, length, map, sym, ap, subst, below_more, arith}
use Rattle.std.specs.List.{slice_get}
use Rattle.std.proofs.lemmas.List.{length-map}
use Rattle.std.proofs.lemmas.Option.{same_Some, slice_get_within}
use Rattle.nal_term.specs.Trees.{formula_tree}
use Rattle.chain_prover.specs.Inner.Knowing.{Covers, labels_of}
use Rattle.chain_prover.proofs.Granting.{label_at}
use Rattle.chain_prover.proofs.Known.{covers_after}
use Rattle.chain_prover.proofs.facts.Facts.of.Goals as goal

pub loop-place-preserved : goal.loop-place-preserved
loop-place-preserved c =
    let k = c.in_ok-add.ensures.keeps in
    let before = c.loop-place.facts in
    let after = c.add.new.self in
    let labels = c.args.labels.now in
    let place = c.loop-place.place in
    let same : labels_of after ≡ map formula_tree labels = k.labels ∙ c.loop-place.invariant.1 in
    let here = label_at labels place c.index-labels-place.result (omega (arith, c.loop-place-test.true)) c.index-labels-place.is in (
      c.in_ok-add.ensures.right,
      same,
      k.statement ∙ c.loop-place.invariant.2,
      below_more _ _ (λ i less label at. covers_after before after k label (c.loop-place.invariant.3 i less label (subst (λ ls. slice_get ls i ≡ Some label) k.labels at)))
          (λ label at. subst (λ g. Covers after g) (same_Some _ label (sym here ∙ subst (λ ls. slice_get ls place ≡ Some label) same at)) c.in_ok-add.ensures.covers),
    )

pub returns-clause-facts : goal.returns-clause-facts
returns-clause-facts c =
    let s = ap length c.loop-place.invariant.1 in
    let m = length-map c.args.labels.now formula_tree in
    record {
      right = c.loop-place.invariant.0;
      all = λ k label at. let w = slice_get_within (labels_of c.loop-place.facts) k label at in c.loop-place.invariant.3 k (omega (arith, w, s, m, c.loop-place-test.false)) label at;
    }
