use Rattle.std.proofs.Common.{◌∙◌, refl, map, arith}
use Rattle.nal_term.specs.Trees.{formula_tree}
use Rattle.policy_history.specs.Values.{entry_trees}
use Rattle.peer_labels.proofs.Saying.{front_more, front_said, none_carried, one_accepted, one_refused}
use Rattle.peer_labels.proofs.carrying.carry.Goals.{then-branch, else-branch}
use Rattle.peer_labels.proofs.carrying.carry.Goals as goal

pub loop-label-init : goal.loop-label-init
loop-label-init c = record {
  head = refl;
  carried = none_carried c.args.journal.now.head c.args.session c.args.peer (entry_trees c.args.journal.now.entries);
  handled = refl;
}

pub loop-label-preserved : goal.loop-label-preserved
loop-label-preserved c =
    let inv = c.loop-label.invariant in
    let h = c.args.journal.now.head in
    let f = formula_tree c.label-item.result in
    let same = c.deref-label-items.ensures.value ∙ c.labels.ensures.labels in
    let more = front_more c.args.bundle.now c.label-item.result c.loop-label.label-index (rw same at c.loop-label-test.true) (rw same at c.label-item.is) in
    let said = rw inv.head at c.in_ok-say.ensures.ok in
    elim c.if-branch.branch [
      | then-branch w ↦ record {
        head = c.in_ok-say.ensures.head ∙ inv.head;
        carried = rw (w.carried-is, more) (one_accepted h c.args.session c.args.peer f inv.carried (rw w.if-branch.true at said));
        handled = rw w.carried-is (omega (arith, inv.handled));
      }
      | else-branch w ↦ record {
        head = c.in_ok-say.ensures.head ∙ inv.head;
        carried = rw (w.carried-is, more) (one_refused h c.args.session c.args.peer f inv.carried (rw w.if-branch.false at said));
        handled = rw w.carried-is (omega (arith, inv.handled));
      }
    ]

pub returns-in_err-say-clause-said : goal.returns-in_err-say-clause-said
returns-in_err-say-clause-said c =
    rw c.in_err-say.ensures.err
    (front_said c.args.journal.now.head c.args.session c.args.peer c.requires.peer (map formula_tree c.args.bundle.now) c.loop-label.label-index c.loop-label.invariant.carried)

pub returns-clause-said : goal.returns-clause-said
returns-clause-said c = front_said c.args.journal.now.head c.args.session c.args.peer c.requires.peer (map formula_tree c.args.bundle.now) c.loop-label.label-index c.loop-label.invariant.carried
