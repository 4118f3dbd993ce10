use Rattle.std.proofs.Common.{◌+◌}
use Rattle.policy_history.specs.Values.{entry_trees}
use Rattle.nal_term.specs.Trees.{formula_tree}
use Rattle.label_holdings.proofs.Held.{NoneBelow}
use Rattle.label_holdings.proofs.holdings.holding_of.Given as goal

abbrev pub invariant-loop-index : goal.invariant-loop-index
invariant-loop-index l = NoneBelow l.journal.head (entry_trees l.journal.entries) l.principal (formula_tree l.formula) (l.index + 1)
