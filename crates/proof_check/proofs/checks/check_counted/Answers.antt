use Rattle.std.proofs.Common.{length, ap, arith}
use Rattle.std.proofs.lemmas.List.{length-map}
use Rattle.nal_term.specs.Trees.{formula_tree}
use Rattle.proof_lines.specs.Lines.{line_tree, line_trees}
use Rattle.proof_check.proofs.Refuted.{sound_faultless}
use Rattle.proof_check.proofs.Law.{goal_derived}
use Rattle.proof_check.proofs.checks.check_counted.Goals as goal

pub returns-clause-faultless : goal.returns-clause-faultless
returns-clause-faultless g c =
    λ k. sound_faultless (line_trees c.args.proof.now) (formula_tree c.args.goal.now) k (c.in_default.ensures.lowest k)

pub returns-clause-derives : goal.returns-clause-derives
returns-clause-derives g c =
    goal_derived (line_trees c.args.proof.now) (formula_tree c.args.goal.now) (λ k. c.in_default.ensures.lowest k) (λ e. let none = ap length e in
    let same = length-map c.args.proof.now line_tree in
    let some = c.if-count-eq0.false in
    let count = c.count.ensures.count in
    omega (arith, none, same, some, count))
