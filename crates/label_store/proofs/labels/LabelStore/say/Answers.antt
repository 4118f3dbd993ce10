use Rattle.std.proofs.Common.{◌∙◌, sym, subst, ap, ◌<◌, ◌≤◌, ◌+◌, length, length-append, [], ◌∷◌, true, arith}
use Rattle.std.specs.List.{list_any, All}
use Rattle.label_store.specs.LabelRows.{LabelRow, rows}
use Rattle.label_store.specs.Inner.Kept.{same_label, same_key, counted}
use Rattle.label_store.proofs.HeldLabels.{above_entries, said_rows, said_held}
use Rattle.label_store.proofs.HeldCounts.{counted_push, one_if, tidied_counted, tidied_length}
use Rattle.label_store.proofs.labels.LabelStore.say.Goals as goal

pub push_row-requires-clause-above : goal.push_row-requires-clause-above
push_row-requires-clause-above c =
    above_entries c.self.inside.formulas.keys c.self.inside.rows.entries c.args.number (subst (λ s. All (λ (row : LabelRow). row.0 < c.args.number) (rows s)) (sym c.self.view_is) c.requires.above)

pub count-requires-clause-one_less : goal.count-requires-clause-one_less
count-requires-clause-one_less c =
    let old = c.self.inside.rows.entries in
    let pushed = c.push_row.ensures.pushed in
    λ k.
    ap (λ n. n + one_if (same_key (c.args.holder, c.unwrap-place.result.0) k)) (c.self.invariant.1.numbers k ∙ sym (tidied_counted old pushed.0 pushed.1 k))
    ∙ sym (counted_push pushed.0 c.args.number c.args.holder c.unwrap-place.result.0 k)
    ∙ ap (λ es. counted es k) (sym pushed.2)

pub count-requires-clause-room : goal.count-requires-clause-room
count-requires-clause-room c =
    let pushed = c.push_row.ensures.pushed in
    let fewer = tidied_length c.self.inside.rows.entries pushed.0 pushed.1 in
    let longer = ap length pushed.2 in
    let one = length-append pushed.0 ((c.args.number, record { holder = c.args.holder; place = c.unwrap-place.result.0; live = true }) ∷ []) in
    let room = subst (λ s. 1 ≤ s.spare) (sym c.self.view_is) c.requires.room in
    omega (arith, fewer, longer, one, room, c.self.invariant.1.room)

pub invariant_of-self : goal.invariant_of-self
invariant_of-self c =
    let placed = c.unwrap-place.ensures in
    let formulas = c.insert_full.ensures in
    let keys = rw placed at formulas.keys in
    let stored = rw placed at formulas.stored in
    let old = c.self.inside.rows.entries in
    let pushed = c.push_row.ensures.pushed in
    let fewer = tidied_length old pushed.0 pushed.1 in
    let longer = ap length pushed.2 in
    let one = length-append pushed.0 ((c.args.number, record { holder = c.args.holder; place = c.unwrap-place.result.0; live = true }) ∷ []) in
    let room = subst (λ s. 1 ≤ s.spare) (sym c.self.view_is) c.requires.room in
    let kept = c.count.ensures.room in (
      said_held c.self.inside.formulas.keys c.insert_full.new.self.keys (list_any (same_label c.args.label) c.self.inside.formulas.keys) c.args.label keys formulas.unique
          old c.self.invariant.0.places c.args.number c.args.holder c.unwrap-place.result.0 stored pushed.0 pushed.1 c.push_row.new.rows.entries pushed.2,
      record { numbers = c.count.ensures.numbers; room = omega (arith, fewer, longer, one, room, kept, c.self.invariant.1.room) },
    )

pub returns-clause-rows : goal.returns-clause-rows
returns-clause-rows c =
    let placed = c.unwrap-place.ensures in
    let formulas = c.insert_full.ensures in
    let keys = rw placed at formulas.keys in
    let stored = rw placed at formulas.stored in
    let old = c.self.inside.rows.entries in
    let pushed = c.push_row.ensures.pushed in
    rw (← c.self.view_is)
    (said_rows c.self.inside.formulas.keys c.insert_full.new.self.keys (list_any (same_label c.args.label) c.self.inside.formulas.keys) c.args.label keys formulas.unique
    old c.self.invariant.0.places c.args.number c.args.holder c.unwrap-place.result.0 stored pushed.0 pushed.1 c.push_row.new.rows.entries pushed.2)

pub returns-clause-spare : goal.returns-clause-spare
returns-clause-spare c =
    let pushed = c.push_row.ensures.pushed in
    let fewer = tidied_length c.self.inside.rows.entries pushed.0 pushed.1 in
    let longer = ap length pushed.2 in
    let one = length-append pushed.0 ((c.args.number, record { holder = c.args.holder; place = c.unwrap-place.result.0; live = true }) ∷ []) in
    rw (← c.self.view_is) (omega (arith, fewer, longer, one, c.count.ensures.room, c.push_row.ensures.spare, c.insert_full.ensures.spare))
