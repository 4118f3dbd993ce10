use Rattle.std.proofs.Common.{◌≤◌, length, arith, refl}
use Rattle.std.proofs.lemmas.List.{length-map}
use Rattle.proof_lines.specs.Lines.{line_tree, line_trees}
use Rattle.case_verdict.proofs.Refusing.{none_refused, past_other, past_yes}
use Rattle.case_verdict.proofs.verdicts.refused_line.Goals.{then-is_ask_line+else-not-is_yes, else-is_ask_line}
use Rattle.case_verdict.proofs.verdicts.refused_line.Goals as goal

pub loop-index-preserved : goal.loop-index-preserved
loop-index-preserved c = elim c.if-is_ask_line.branch [
  | then-is_ask_line+else-not-is_yes w ↦ rw w.asks-is (past_yes (line_trees c.args.proof.now) c.args.answers.now c.loop-index.index c.loop-index.asks c.loop-index.invariant w.is_yes.result w.is_yes.ensures w.if-not-is_yes.false (w.if-is_ask_line.ensures.0 refl))
  | else-is_ask_line w ↦ rw w.asks-is (past_other (line_trees c.args.proof.now) c.args.answers.now c.loop-index.index c.loop-index.asks c.loop-index.invariant (λ line. let t = w.if-is_ask_line.ensures.1 line in absurd (cc t)))
]

pub returns : goal.returns
returns c =
    let long = length-map c.args.proof.now line_tree in
    let all : length (line_trees c.args.proof.now) ≤ c.loop-index.index = omega (arith, long, c.loop-index-test.false, c.count-index-end.ensures.count) in
    none_refused (line_trees c.args.proof.now) c.args.answers.now c.loop-index.index c.loop-index.asks all c.loop-index.invariant
