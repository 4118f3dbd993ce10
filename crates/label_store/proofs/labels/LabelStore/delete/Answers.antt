use Rattle.std.proofs.Common.{◌∙◌, sym, refl, true, arith}
use Rattle.label_store.specs.declared.labels.LabelRefusal.TheVariants as LabelRefusal
use Rattle.label_store.specs.Inner.Kept.{hole}
use Rattle.indexmap.specs.Layout.{set_value_at}
use Rattle.label_store.proofs.LiveRows.{some_is_no_none, same_some}
use Rattle.label_store.proofs.HeldLabels.{refused_none, refused_other, holder_is, removed_rows, set_held, tidied_held, tidied_rows}
use Rattle.label_store.proofs.HeldCounts.{own_row, own_some, own_deleted, length-set_value_at, tidied_counted, tidied_length}
use Rattle.label_store.proofs.labels.LabelStore.delete.Goals as goal

pub returns-in-Err-clause-no_label : goal.returns-in-Err-clause-no_label
returns-in-Err-clause-no_label c =
    rw (← c.self.view_is) (refused_none c.self.inside.formulas.keys c.self.inside.rows.entries c.args.number c.in-Err.refusal LabelRefusal.NoSuchLabel c.in-Err.ensures.no_label)

pub returns-in-Err-clause-not_holder : goal.returns-in-Err-clause-not_holder
returns-in-Err-clause-not_holder c =
    rw (← c.self.view_is) (refused_other c.self.inside.formulas.keys c.self.inside.rows.entries c.args.number c.in-Err.refusal LabelRefusal.NotHolder c.args.from c.in-Err.ensures.not_holder)

pub take_one-requires : goal.take_one-requires
take_one-requires c =
    let es = c.self.inside.rows.entries in
    let removed = c.remove_row.ensures.removed in
    let w = removed.0 in
    record { some = own_some es c.args.number c.in-Ok.row.0 c.args.from c.in-Ok.row.1 c.in-Ok.ensures.row w removed.1 c.self.inside.counts c.self.invariant.1.numbers }

pub invariant_of-self : goal.invariant_of-self
invariant_of-self c =
    let es = c.self.inside.rows.entries in
    let removed = c.remove_row.ensures.removed in
    let w = removed.0 in
    let formulas = c.self.inside.formulas.keys in
    let row = own_row es c.args.number c.in-Ok.row.0 c.args.from c.in-Ok.row.1 c.in-Ok.ensures.row w removed.1 in
    let less = set_value_at es c.in-Ok.row.0 (hole w) in
    let new = c.remove_row.new.rows.entries in
    let same = length-set_value_at es c.in-Ok.row.0 (hole w) in
    let fewer = tidied_length less new removed.2 in
    let numbers = own_deleted es c.args.number c.in-Ok.row.0 c.args.from c.in-Ok.row.1 c.in-Ok.ensures.row w removed.1 c.self.inside.counts c.self.invariant.1.numbers c.take_one.new.counts c.take_one.ensures.numbers in (
      tidied_held formulas less new removed.2 (set_held formulas es c.args.number c.in-Ok.row.0 w row (hole w) refl c.self.invariant.0),
      record { numbers = λ k. numbers k ∙ sym (tidied_counted less new removed.2 k); room = omega (arith, same, fewer, c.take_one.ensures.room, c.self.invariant.1.room) },
    )

pub returns-clause-no_label : goal.returns-clause-no_label
returns-clause-no_label c =
    let es = c.self.inside.rows.entries in
    let held = holder_is c.self.inside.formulas.keys es c.args.number c.in-Ok.row.0 (record { holder = c.args.from; place = c.in-Ok.row.1; live = true }) c.in-Ok.ensures.row in
    rw (← c.self.view_is) (λ e. absurd (cc e), λ none. absurd (some_is_no_none held none))

pub returns-clause-not_holder : goal.returns-clause-not_holder
returns-clause-not_holder c =
    let es = c.self.inside.rows.entries in
    let held = holder_is c.self.inside.formulas.keys es c.args.number c.in-Ok.row.0 (record { holder = c.args.from; place = c.in-Ok.row.1; live = true }) c.in-Ok.ensures.row in
    rw (← c.self.view_is) (λ e. absurd (cc e), λ h. absurd (h.2 (same_some h.1 held)))

pub returns-clause-removed : goal.returns-clause-removed
returns-clause-removed c =
    let es = c.self.inside.rows.entries in
    let removed = c.remove_row.ensures.removed in
    let w = removed.0 in
    let formulas = c.self.inside.formulas.keys in
    let row = own_row es c.args.number c.in-Ok.row.0 c.args.from c.in-Ok.row.1 c.in-Ok.ensures.row w removed.1 in
    let gone = removed_rows formulas es c.args.number c.in-Ok.row.0 w row in
    let less = set_value_at es c.in-Ok.row.0 (hole w) in
    rw (← c.self.view_is) (gone.0, gone.1, tidied_rows formulas less c.remove_row.new.rows.entries removed.2 ∙ gone.2)

pub returns-clause-spare : goal.returns-clause-spare
returns-clause-spare c =
    let es = c.self.inside.rows.entries in
    let removed = c.remove_row.ensures.removed in
    let w = removed.0 in
    let less = set_value_at es c.in-Ok.row.0 (hole w) in
    let same = length-set_value_at es c.in-Ok.row.0 (hole w) in
    let fewer = tidied_length less c.remove_row.new.rows.entries removed.2 in
    rw (← c.self.view_is) (omega (arith, same, fewer, c.take_one.ensures.room, c.remove_row.ensures.spare))
