use Rattle.std.proofs.Common.{take}
use Rattle.policy_history.specs.Values.{entry_trees}
use Rattle.label_holdings.specs.Tenures.{AreTenures}
use Rattle.label_holdings.proofs.label_tenures.tenures.Given as goal

abbrev pub invariant-loop-index : goal.invariant-loop-index
invariant-loop-index l = AreTenures l.journal.head (take l.index (entry_trees l.journal.entries)) l.tenures.items
