use Rattle.std.proofs.Common.{arith, map}
use Rattle.nal_rules.specs.Asking.{binding_tree}
use Rattle.proof_lines.specs.Lines.{line_trees}
use Rattle.nal_rules.specs.Verdicts.{IsUnbound}
use Rattle.proof_check.proofs.LineFacts.{one_more, within}
use Rattle.proof_check.proofs.supports.unbound_line.Goals as goal

pub loop-number-preserved : goal.loop-number-preserved
loop-number-preserved c =
    one_more {P = IsUnbound (line_trees c.args.proof.now) (map binding_tree c.args.bound.now)} c.loop-number.invariant
    (λ m. absurd (cc (c.if-is_unbound.ensures.1 m)))

pub returns : goal.returns
returns c = λ k m.
    let h = within c.args.proof.now k m.2.0 m.2.1 in
    c.loop-number.invariant k (omega (arith, h, c.loop-number-test.false, c.count-number-end.ensures.count)) m
