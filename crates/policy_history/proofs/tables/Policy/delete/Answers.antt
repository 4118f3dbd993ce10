use Rattle.std.proofs.Common.{refl}
use Rattle.label_store.specs.LabelRows.{rows as label_rows}
use Rattle.policy_history.specs.declared.events.Refusal.TheVariants.{NoSuchLabel, NotHolder}
use Rattle.policy_history.proofs.Changed.{deleted}
use Rattle.policy_history.proofs.tables.Policy.delete.Goals as goal

pub returns-clause-state : goal.returns-clause-state
returns-clause-state c =
    let before = label_rows c.args.self.now.labels in
    let e = deleted c.args.number c.args.caller c.delete-gone.result before (label_rows c.delete-gone.new.self) c.delete-gone.ensures.no_label c.delete-gone.ensures.not_holder c.delete-gone.ensures.removed (c.requires NoSuchLabel) (c.requires NotHolder) in
    rw e refl
