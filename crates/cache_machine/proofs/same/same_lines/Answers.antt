use Rattle.std.proofs.Common.{refl, sym, ap, ◌∙◌, arith}
use Rattle.proof_lines.specs.Lines.{line_tree}
use Rattle.cache_machine.proofs.Sameness.{b_at, same_at, same_trees}
use Rattle.cache_machine.proofs.same.same_lines.Goals as goal

pub returns-then-not-same_line : goal.returns-then-not-same_line
returns-then-not-same_line c = (
  (λ t. absurd (cc t)),
  λ e.
      let at = same_at c.args.a.now c.args.b.now c.loop-place.place c.index-a-place.result e c.loop-place-test.true in
      c.if-not-same_line.ensures.1 (ap line_tree c.index-a-place.is ∙ at ∙ ap line_tree (sym (b_at c.args.b.now c.loop-place.place c.index-b-place.result c.index-a-place.result c.index-b-place.is (omega (arith, c.loop-place-test.true, c.if-a-b.false))))),
)

pub returns : goal.returns
returns c = (
  (λ _. same_trees c.args.a.now c.args.b.now c.loop-place.place c.if-a-b.false c.loop-place-test.false c.loop-place.invariant),
  λ _. refl,
)
