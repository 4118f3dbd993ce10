use Rattle.std.proofs.Common.{◌≡◌, ◌≤◌, length, take, ap, sym, ◌∙◌}
use Rattle.std.specs.List.{filter}
use Rattle.std.proofs.lemmas.List.{take-map, take_all}
use Rattle.proof_lines.specs.Lines.{line_tree, line_trees}
use Rattle.nal_rules.specs.Faults.{is_ask}
use Rattle.proof_check.proofs.faults.asks_until.Goals as goal

pub returns : goal.returns
returns c =
    let e = c.as_slice.ensures.items in
    let past : length (take c.args.number c.args.proof.now) ≤ c.loop-line.line-index = rw e at c.loop-line-test.false in
    let whole = take_all c.loop-line.line-index (take c.args.number c.args.proof.now) past in
    let counted : c.loop-line.count ≡ length (filter is_ask (line_trees (take c.loop-line.line-index (take c.args.number c.args.proof.now)))) = c.loop-line.invariant.counted in
    counted ∙ ap (λ ls. length (filter is_ask (line_trees ls))) whole ∙ ap (λ ls. length (filter is_ask ls)) (sym (take-map line_tree c.args.number c.args.proof.now))
