use Rattle.std.proofs.Common.{arith}
use Rattle.proof_lines.specs.Lines.{line_trees}
use Rattle.answer_commands.specs.Inner.Support.{IsUnanswered}
use Rattle.answer_commands.specs.Inner.Forms.{formula_trees}
use Rattle.answer_commands.proofs.Verdicts.{one_more, within}
use Rattle.answer_commands.proofs.judge.unanswered.Goals as goal

pub loop-number-preserved : goal.loop-number-preserved
loop-number-preserved c =
    one_more {P = IsUnanswered (line_trees c.args.proof.now) (formula_trees c.args.yes.now)} c.loop-number.invariant
    (λ m. let is = c.in_ok-is_unanswered.ensures.1 m in let not = c.if-branch.false in absurd cc)

pub returns : goal.returns
returns c = λ k m.
    let h = within c.args.proof.now k m.0 m.1 in
    c.loop-number.invariant k (omega (arith, h, c.loop-number-test.false, c.count-number-end.ensures.count)) m
