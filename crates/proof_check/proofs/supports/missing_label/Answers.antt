use Rattle.std.proofs.Common.{arith, map}
use Rattle.nal_term.specs.Trees.{formula_tree}
use Rattle.proof_lines.specs.Lines.{line_trees}
use Rattle.nal_rules.specs.Verdicts.{IsMissingLabel}
use Rattle.proof_check.proofs.LineFacts.{one_more, within}
use Rattle.proof_check.proofs.supports.missing_label.Goals as goal

pub loop-number-preserved : goal.loop-number-preserved
loop-number-preserved c =
    one_more {P = IsMissingLabel (line_trees c.args.proof.now) (map formula_tree c.args.labels.now)} c.loop-number.invariant
    (λ m. absurd (cc (c.if-is_missing_label.ensures.1 m)))

pub returns : goal.returns
returns c = λ k m.
    let h = within c.args.proof.now k m.0 m.1 in
    c.loop-number.invariant k (omega (arith, h, c.loop-number-test.false, c.count-number-end.ensures.count)) m
