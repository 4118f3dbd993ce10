use Rattle.std.proofs.Common.{◌+◌, ◌≤◌, length, ap, arith, length-take-le}
use Rattle.std.proofs.lemmas.List.{length-map}
use Rattle.policy_history.specs.Events.{entry_tree}
use Rattle.policy_history.specs.Values.{entry_trees}
use Rattle.label_holdings.proofs.Journals.{one_more}
use Rattle.label_holdings.proofs.label_tenures.tenures.Goals as goal

pub loop-index-preserved : goal.loop-index-preserved
loop-index-preserved c =
    let es = entry_trees c.args.journal.now.entries in
    let same = ap length c.entries.ensures in
    let count : c.loop-index.index + 1 ≤ length es = omega (arith, same, length-map c.args.journal.now.entries entry_tree) in
    rw c.in_ok-push.ensures.items
    (one_more c.args.journal.now.head _ c.loop-index.index c.hand_over.new.tenures.items c.first_tenure.result (length-take-le (c.loop-index.index + 1) es count) c.hand_over.ensures c.first_tenure.ensures)
