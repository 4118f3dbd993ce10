use Rattle.std.proofs.Common.{[]}
use Rattle.nal_term.proofs.ForCallers.{closed_spec}
use Rattle.nal_term.specs.Closed.{covers}
use Rattle.nal_term.specs.Trees.{formula_tree}
use Rattle.policy_history.proofs.Limits.{same_test}
use Rattle.policy_history.proofs.spelled.has_no_free_variable.Goals as goal

pub returns : goal.returns
returns c = same_test c.is_closed.result (covers [] (formula_tree c.args.formula.now)) c.is_closed.ensures (closed_spec (formula_tree c.args.formula.now))
