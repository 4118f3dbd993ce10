use Rattle.std.proofs.Common.{◌∙◌, sym}
use Rattle.label_store.proofs.HeldLabels.{holder_agrees, holder_here, holder_none}
use Rattle.label_store.proofs.labels.LabelStore.find.Goals as goal

pub returns-in-Some : goal.returns-in-Some
returns-in-Some c =
    let found = c.in-Some.ensures in
    let es = c.self.inside.rows.entries in
    let holder = holder_here es c.args.number c.in-Some.field-0-0 c.in-Some.row (record { at = found.at; value = found.row; live = found.live }) in
    rw (← c.self.view_is) (sym (holder_agrees c.self.inside.formulas.keys es c.args.number ∙ holder))

pub returns-in-None : goal.returns-in-None
returns-in-None c =
    let es = c.self.inside.rows.entries in
    rw (← c.self.view_is) (sym (holder_agrees c.self.inside.formulas.keys es c.args.number ∙ holder_none es c.args.number c.in-None.ensures.none))
