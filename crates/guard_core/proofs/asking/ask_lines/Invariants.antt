use Rattle.std.proofs.Common.{map}
use Rattle.proof_lines.specs.Lines.{line_trees}
use Rattle.nal_rules.specs.Asking.{binding_tree}
use Rattle.guard_core.proofs.Asks.{IsAsking}
use Rattle.guard_core.proofs.asking.ask_lines.Given as goal

abbrev pub invariant-loop-index : goal.invariant-loop-index
invariant-loop-index g l = IsAsking (line_trees l.proof) (map binding_tree l.bound) l.index (g.P.Panel.history l.fn.panel) (g.P.Panel.history l.panel) l.asks
