use Rattle.std.proofs.Common.{◌≡◌, ◌∙◌, ◌+◌, ◌-◌, ap, drop, slice_get, arith}
use Rattle.std.proofs.lemmas.List.{drop-drop}
use Rattle.label_store.specs.LabelRows.{rows, labels_of}
use Rattle.label_store.proofs.HeldLabels.{first_left}
use Rattle.label_store.proofs.labels.LabelStore.label.Goals as goal

pub loop-preserved : goal.loop-preserved
loop-preserved c =
    let all = labels_of (rows c.args.self.now) c.args.holder in
    let n : c.loop.counter - 1 + 1 ≡ c.loop.counter + 1 - 1 = omega (arith, c.loop.auto.counter) in
    c.next.ensures.rest ∙ ap (drop 1) c.loop.invariant ∙ drop-drop 1 (c.loop.counter - 1) all ∙ ap (λ k. drop k all) n

pub returns-clause-value : goal.returns-clause-value
returns-clause-value c =
    let all = labels_of (rows c.args.self.now) c.args.holder in
    let n : c.loop.counter - 1 ≡ c.args.k - 1 = omega (arith, c.loop.auto.counter-end, c.loop-test.false) in
    λ some. c.next-2.ensures.label ∙ ap (λ l. slice_get l 0) c.loop.invariant ∙ first_left (c.loop.counter - 1) all ∙ ap (slice_get all) n
