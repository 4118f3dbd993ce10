use Rattle.std.proofs.Common.{◌<◌, length, map, arith, ap, sym, ◌∙◌}
use Rattle.std.proofs.lemmas.List.{length-map}
use Rattle.nal_term.specs.Trees.{formula_tree}
use Rattle.nal_term.specs.TreeKeys.{same_bytes-Decides}
use Rattle.peer_labels.specs.Bundles.{end, label, label_due, most_labels}
use Rattle.peer_labels.proofs.Following.{after_label}
use Rattle.peer_labels.proofs.progress.after_labels.Goals as goal

pub returns-then-eq-clause-ok : goal.returns-then-eq-clause-ok
returns-then-eq-clause-ok c = end ((same_bytes-Decides c.args.line.now c.as_slice.result.now).0 (sym c.if-eq.ensures) ∙ c.as_slice.ensures)

pub returns-in-Ok-clause-ok : goal.returns-in-Ok-clause-ok
returns-in-Ok-clause-ok c =
    let longer = c.in-Ok.ensures.ok in
    let few = c.if-len-ge-MOST_LABELS.false in
    let count = c.len.ensures in
    let same = length-map c.args.labels.items formula_tree in
    let room : length (map formula_tree c.args.labels.items) < most_labels = omega (arith, few, count, same) in
    rw longer.2 (label c.in-Some.ensures room longer.1)

pub returns-in-Ok-clause-only : goal.returns-in-Ok-clause-only
returns-in-Ok-clause-only c = λ other f.
    let after = after_label c.args.line.now c.in-Some.text.now (map formula_tree c.args.labels.items) other c.in-Some.ensures f in
    after.3 ∙ ap label_due (sym (c.in-Ok.ensures.only after.1 after.2))
