use Rattle.policy_history.specs.Values.{entry_trees}
use Rattle.policy_compaction.proofs.Written.{read_again}
use Rattle.policy_compaction.proofs.compaction.compact.Goals as goal

pub returns-clause-stands : goal.returns-clause-stands
returns-clause-stands c = c.compactions_stand.ensures c.args.journal.now.head (entry_trees c.args.journal.now.entries) c.count-legal.ensures.legal

pub returns-clause-read_again : goal.returns-clause-read_again
returns-clause-read_again c =
    let es = entry_trees c.args.journal.now.entries in
    let stands = c.compactions_stand.ensures c.args.journal.now.head es c.count-legal.ensures.legal in
    read_again c.args.journal.now.head es c.print_kept.result c.printed_policies_are_read_again.ensures stands.legal c.print_kept.ensures.text c.print_kept.ensures.kept
