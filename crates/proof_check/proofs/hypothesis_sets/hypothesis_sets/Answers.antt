use Rattle.std.proofs.Common.{◌≡◌, ◌+◌, ◌-◌, ◌++◌, ◌∷◌, [], length, get_or, Some, ap, sym, ◌∙◌, subst, arith}
use Rattle.std.proofs.lemmas.List.{length-map, length-append}
use Rattle.proof_lines.specs.Lines.{line_tree, line_trees}
use Rattle.nal_rules.specs.Faults.{line_at}
use Rattle.proof_check.specs.Inner.LineSets.{column_of, holds}
use Rattle.proof_check.specs.Inner.Rests.{IsColumnTo, rests_by}
use Rattle.proof_check.proofs.Found.{line_at_tree}
use Rattle.proof_check.proofs.Reached.{column_ends, first_set, next_set}
use Rattle.proof_check.proofs.hypothesis_sets.hypothesis_sets.Goals as goal

pub loop-index-init : goal.loop-index-init
loop-index-init c =
    let pushed : c.push.new.self.items ≡ c.empty.result ∷ [] = c.push.ensures.items ∙ ap (λ xs. xs ++ c.empty.result ∷ []) c.new-sets.ensures in record {
      size = ap length pushed;
      right = λ h. first_set (line_trees c.args.proof.now) h c.push.new.self.items c.empty.result pushed (c.empty.ensures h);
    }

pub loop-index-preserved : goal.loop-index-preserved
loop-index-preserved c =
    let lines = line_trees c.args.proof.now in
    let n = c.loop-index.index + 1 in
    let l = c.index-lines-index.result in
    let old = c.loop-index.sets.items in
    let set = c.hypotheses_below-set.result in
    let same = ap length c.as_slice-lines.ensures.items in
    let place : n - 1 ≡ c.loop-index.index = omega arith in
    let read : l ≡ get_or c.args.proof.now (n - 1) l = (let e = c.index-lines-index.is in let d = c.as_slice-lines.ensures.items in rw place (cc (e, d))) in
    let stands : line_at lines n ≡ Some (line_tree l) = sym (line_at_tree c.args.proof.now n l (λ e. omega (arith, e)) (omega (arith, same)) read) in
    let pushed : c.push-in-loop-index.new.self.items ≡ old ++ set ∷ [] = c.push-in-loop-index.ensures.items in
    let size = c.loop-index.invariant.size in
    let longer = ap length pushed ∙ length-append old (set ∷ []) in record {
      size = omega (arith, size, longer);
      right = λ h. let told : holds set h ≡ rests_by (column_of old h) h n (line_tree l) = rw c.as_slice.ensures.value at (c.hypotheses_below-set.ensures h) in
          next_set lines h n (line_tree l) stands old c.push-in-loop-index.new.self.items set pushed told (c.loop-index.invariant.right h);
    }

pub returns : goal.returns
returns c =
    let lines = line_trees c.args.proof.now in
    let same = ap length c.as_slice-lines.ensures.items in
    let trees = length-map c.args.proof.now line_tree in
    let whole : c.loop-index.index + 1 ≡ length lines + 1 = omega (arith, same, trees) in
    λ h. let column = column_of c.loop-index.sets.items h in
    column_ends lines h column (subst (λ n. IsColumnTo lines h n column) whole (c.loop-index.invariant.right h))
