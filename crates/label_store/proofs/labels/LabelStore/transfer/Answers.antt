use Rattle.std.proofs.Common.{refl, true, arith}
use Rattle.label_store.specs.declared.labels.LabelRefusal.TheVariants as LabelRefusal
use Rattle.label_store.proofs.LiveRows.{some_is_no_none, same_some}
use Rattle.label_store.proofs.HeldLabels.{refused_none, refused_other, holder_is, given_rows, set_held}
use Rattle.label_store.proofs.HeldCounts.{own_row, own_some, own_given, length-set_value_at}
use Rattle.label_store.proofs.labels.LabelStore.transfer.Goals as goal

pub returns-in-Err-clause-no_label : goal.returns-in-Err-clause-no_label
returns-in-Err-clause-no_label c =
    rw (← c.self.view_is) (refused_none c.self.inside.formulas.keys c.self.inside.rows.entries c.args.number c.in-Err.refusal LabelRefusal.NoSuchLabel c.in-Err.ensures.no_label)

pub returns-in-Err-clause-not_holder : goal.returns-in-Err-clause-not_holder
returns-in-Err-clause-not_holder c =
    rw (← c.self.view_is) (refused_other c.self.inside.formulas.keys c.self.inside.rows.entries c.args.number c.in-Err.refusal LabelRefusal.NotHolder c.args.from c.in-Err.ensures.not_holder)

pub take_one-requires : goal.take_one-requires
take_one-requires c =
    record { some = own_some c.self.inside.rows.entries c.args.number c.in-Ok.row.0 c.args.from c.in-Ok.row.1 c.in-Ok.ensures.row c.index_mut.result.now c.index_mut.ensures.value c.self.inside.counts c.self.invariant.1.numbers }

pub count-requires-clause-one_less : goal.count-requires-clause-one_less
count-requires-clause-one_less c =
    own_given c.self.inside.rows.entries c.args.number c.in-Ok.row.0 c.args.from c.in-Ok.row.1 c.in-Ok.ensures.row c.index_mut.result.now c.index_mut.ensures.value c.self.inside.counts c.self.invariant.1.numbers
    c.take_one.new.counts c.take_one.ensures.numbers c.args.to

pub count-requires-clause-room : goal.count-requires-clause-room
count-requires-clause-room c =
    let w = c.index_mut.result.now in
    let same = length-set_value_at c.self.inside.rows.entries c.in-Ok.row.0 (record { holder = c.args.to; place = w.place; live = w.live }) in
    omega (arith, same, c.take_one.ensures.room, c.self.invariant.1.room)

pub invariant_of-self : goal.invariant_of-self
invariant_of-self c =
    let es = c.self.inside.rows.entries in
    let w = c.index_mut.result.now in
    let row = own_row es c.args.number c.in-Ok.row.0 c.args.from c.in-Ok.row.1 c.in-Ok.ensures.row w c.index_mut.ensures.value in
    let same = length-set_value_at es c.in-Ok.row.0 (record { holder = c.args.to; place = w.place; live = w.live }) in (
      set_held c.self.inside.formulas.keys es c.args.number c.in-Ok.row.0 w row (record { holder = c.args.to; place = w.place; live = w.live }) refl c.self.invariant.0,
      record { numbers = c.count.ensures.numbers; room = omega (arith, same, c.take_one.ensures.room, c.count.ensures.room, c.self.invariant.1.room) },
    )

pub returns-clause-no_label : goal.returns-clause-no_label
returns-clause-no_label c =
    let es = c.self.inside.rows.entries in
    let held = holder_is c.self.inside.formulas.keys es c.args.number c.in-Ok.row.0 (record { holder = c.args.from; place = c.in-Ok.row.1; live = true }) c.in-Ok.ensures.row in
    rw (← c.self.view_is) (λ e. absurd (cc e), λ none. absurd (some_is_no_none held none))

pub returns-clause-not_holder : goal.returns-clause-not_holder
returns-clause-not_holder c =
    let es = c.self.inside.rows.entries in
    let held = holder_is c.self.inside.formulas.keys es c.args.number c.in-Ok.row.0 (record { holder = c.args.from; place = c.in-Ok.row.1; live = true }) c.in-Ok.ensures.row in
    rw (← c.self.view_is) (λ e. absurd (cc e), λ h. absurd (h.2 (same_some h.1 held)))

pub returns-clause-moved : goal.returns-clause-moved
returns-clause-moved c =
    let es = c.self.inside.rows.entries in
    let w = c.index_mut.result.now in
    let row = own_row es c.args.number c.in-Ok.row.0 c.args.from c.in-Ok.row.1 c.in-Ok.ensures.row w c.index_mut.ensures.value in
    rw (← c.self.view_is) (given_rows c.self.inside.formulas.keys es c.args.number c.in-Ok.row.0 w row c.args.to)

pub returns-clause-spare : goal.returns-clause-spare
returns-clause-spare c =
    let w = c.index_mut.result.now in
    let same = length-set_value_at c.self.inside.rows.entries c.in-Ok.row.0 (record { holder = c.args.to; place = w.place; live = w.live }) in
    rw (← c.self.view_is) (omega (arith, same, c.take_one.ensures.room, c.count.ensures.room))
