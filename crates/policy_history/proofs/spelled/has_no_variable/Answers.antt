use Rattle.std.proofs.Common.{[]}
use Rattle.nal_term.proofs.ForCallers.{closed_term_spec}
use Rattle.nal_term.specs.Closed.{covers_term}
use Rattle.nal_term.specs.Trees.{term_tree}
use Rattle.policy_history.proofs.Limits.{same_test}
use Rattle.policy_history.proofs.spelled.has_no_variable.Goals as goal

pub returns : goal.returns
returns c = same_test c.is_closed_term.result (covers_term [] (term_tree c.args.term.now)) c.is_closed_term.ensures (closed_term_spec (term_tree c.args.term.now))
