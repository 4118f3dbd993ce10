use Rattle.std.proofs.Common.{◌≡◌, ◌+◌, ◌*◌, length, refl, arith, below_more}
use Rattle.std.proofs.lemmas.List.{length-map}
use Rattle.nal_term.specs.Trees.{formula_tree}
use Rattle.proof_lines.specs.Lines.{line_tree, line_trees}
use Rattle.proof_check.specs.Sizes.{greatest_in, line_steps}
use Rattle.proof_check.specs.Inner.Sound.{IsSoundAt}
use Rattle.proof_check.proofs.Costs.{until_number}
use Rattle.proof_check.proofs.Found.{at_within}
use Rattle.proof_check.proofs.Refuted.{sound_faultless}
use Rattle.proof_check.proofs.checks.lowest_fault.Goals as goal

pub returns-in-Some-clause-lowest : goal.returns-in-Some-clause-lowest
returns-in-Some-clause-lowest g c = record {
  faulty = c.in-Some.ensures.fault;
  lowest = λ j h. sound_faultless (line_trees c.args.proof.now) (formula_tree c.args.goal.now) j (c.loop-number.invariant.sound j h);
}

pub returns-clause-lowest : goal.returns-clause-lowest
returns-clause-lowest g c =
    λ k l e. let within = at_within (line_trees c.args.proof.now) k l e in
    let same = length-map c.args.proof.now line_tree in
    c.loop-number.invariant.sound k (omega (arith, within, same)) l e

pub loop-number-preserved : goal.loop-number-preserved
loop-number-preserved g c =
    let number = c.loop-number.number in
    let most = line_steps (length c.args.proof.now) (greatest_in (line_trees c.args.proof.now)) in
    let i = c.loop-number.invariant in
    let e = c.in_default.ensures in
    let step : (number + 1) * most ≡ number * most + most = grind arith in
    let some = i.some in
    let earlier = i.least in
    let later = e.least in
    let before = i.most in
    let after = e.most in record {
      sound = below_more (λ j. IsSoundAt (line_trees c.args.proof.now) (formula_tree c.args.goal.now) j) number i.sound e.fault;
      some = omega (arith, some);
      least = omega (arith, earlier, later);
      most = omega (arith, before, after, step);
      goal = λ lines past. let test = c.loop-number-test.true in
          let count = c.count-number-end.ensures.count in
          let told = e.goal refl some (omega (arith, past, test, count)) in
          omega (arith, earlier, told);
    }

pub returns-in-Some-clause-most : goal.returns-in-Some-clause-most
returns-in-Some-clause-most g c =
    let number = c.loop-number.number in
    let n = length c.args.proof.now in
    let most = line_steps n (greatest_in (line_trees c.args.proof.now)) in
    let before = c.loop-number.invariant.most in
    let after = c.line_fault.ensures.most in
    let test = c.loop-number-test.true in
    let count = c.count-number-end.ensures.count in
    until_number c.args.steps.now c.line_fault.new.steps most number n (omega (arith, before, after)) (omega (arith, test, count))
