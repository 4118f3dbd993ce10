use Rattle.label_store.proofs.HeldLabels.{labels_are}
use Rattle.label_store.proofs.labels.LabelStore.labels.Goals as goal

pub returns : goal.returns
returns c = rw (← c.self.view_is) (labels_are c.self.inside.formulas.keys c.self.inside.rows.entries c.args.holder)
