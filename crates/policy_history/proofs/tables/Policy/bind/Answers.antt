use Rattle.std.proofs.Common.{refl}
use Rattle.goal_store.specs.GoalRows.{ports, is_port}
use Rattle.policy_history.proofs.Changed.{put_either}
use Rattle.nal_term.specs.Trees.{term_tree}
use Rattle.policy_history.proofs.tables.Policy.bind.Goals as goal

pub returns-in-Port-clause-state : goal.returns-in-Port-clause-state
returns-in-Port-clause-state c =
    let before = ports c.args.self.now.goals in
    let t = term_tree c.in-Port.principal in
    let e = put_either (is_port t) (t, c.args.port) before (ports c.bind.new.self) c.bind.ensures.known c.bind.ensures.fresh in
    let k = rw c.in-Port.is at c.requires.copies in
    rw (k, e, c.bind.ensures.goals) refl
