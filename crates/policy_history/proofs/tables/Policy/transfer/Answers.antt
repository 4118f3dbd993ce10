use Rattle.std.proofs.Common.{refl, sym}
use Rattle.label_store.specs.LabelRows.{rows as label_rows}
use Rattle.policy_history.specs.declared.events.Refusal.TheVariants.{NoSuchPrincipal, NoSuchLabel, NotHolder}
use Rattle.policy_history.proofs.Changed.{given}
use Rattle.policy_history.proofs.tables.Policy.transfer.Goals as goal

pub returns-in_default-clause-state : goal.returns-in_default-clause-state
returns-in_default-clause-state c =
    let known = c.requires NoSuchPrincipal in
    let none = c.in_default.ensures.number in
    absurd (cc (rw (sym none) at known))

pub returns-clause-state : goal.returns-clause-state
returns-clause-state c =
    let before = label_rows c.args.self.now.labels in
    let e = given c.args.number c.args.caller c.transfer-moved.result before (label_rows c.transfer-moved.new.self) c.in-Some.receiver c.transfer-moved.ensures.no_label c.transfer-moved.ensures.not_holder c.transfer-moved.ensures.moved (c.requires NoSuchLabel) (c.requires NotHolder) in
    rw (e, sym c.in-Some.ensures.number) refl
