use Rattle.std.proofs.Common.{[], ◌∷◌}
use Rattle.nal_term.proofs.ForCallers.{closed_but_spec}
use Rattle.nal_term.specs.Closed.{covers}
use Rattle.nal_term.specs.Trees.{formula_tree}
use Rattle.policy_history.proofs.Limits.{same_test}
use Rattle.policy_history.proofs.spelled.is_of_subject.Goals as goal

pub returns : goal.returns
returns c = same_test c.is_closed_but.result (covers (c.args.subject.now ∷ []) (formula_tree c.args.goal.now)) c.is_closed_but.ensures (closed_but_spec c.args.subject.now (formula_tree c.args.goal.now))
