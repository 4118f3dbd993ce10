use Rattle.std.proofs.Common.{arith}
use Rattle.std.proofs.lemmas.List.{length-map}
use Rattle.proof_lines.specs.Lines.{line_tree, line_trees}
use Rattle.proof_check.proofs.Reached.{rests_within}
use Rattle.proof_check.proofs.hypothesis_sets.is_open.Goals as goal

pub returns : goal.returns
returns c = (
  λ t. absurd (cc t),
  λ w. let within = (rests_within (line_trees c.args.proof.now) c.args.number w.0 w.1).1 in
      let same = length-map c.args.proof.now line_tree in
      absurd (c.loop-hypothesis.invariant w.0 (omega (arith, within, same)) w.1),
)
