use Rattle.std.proofs.Common.{◌∙◌, sym, ap, nat_lt, unwrap_or}
use Rattle.label_store.proofs.HeldCounts.{held_by_key, held_by_none}
use Rattle.label_store.proofs.labels.LabelStore.holds.Goals as goal

pub returns-in-None : goal.returns-in-None
returns-in-None c =
    let held = c.self.invariant.0 in
    let none = sym c.get_index_of.ensures.index ∙ c.in-None.is in
    rw (← c.self.view_is) (sym (held_by_none c.self.inside.formulas.keys held.distinct c.self.inside.rows.entries held.places c.args.holder c.args.label.now none))

pub returns-in-Some-get : goal.returns-in-Some-get
returns-in-Some-get c =
    let held = c.self.invariant.0 in
    let at = sym c.get_index_of.ensures.index ∙ c.in-Some.is in
    let is = held_by_key c.self.inside.formulas.keys held.distinct c.self.inside.rows.entries held.places c.args.holder c.args.label.now c.in-Some.place at in
    let number = c.self.invariant.1.numbers (c.args.holder, c.in-Some.place) in
    let found = c.in-Some-get.is in
    let value = c.get.ensures.value in
    let value = rw found at value in
    rw (← c.self.view_is) (ap (nat_lt 0) (ap (λ o. unwrap_or o 0) value ∙ number) ∙ sym is)

pub returns-in-None-get : goal.returns-in-None-get
returns-in-None-get c =
    let held = c.self.invariant.0 in
    let at = sym c.get_index_of.ensures.index ∙ c.in-Some.is in
    let is = held_by_key c.self.inside.formulas.keys held.distinct c.self.inside.rows.entries held.places c.args.holder c.args.label.now c.in-Some.place at in
    let number = c.self.invariant.1.numbers (c.args.holder, c.in-Some.place) in
    let found = c.in-None-get.is in
    let value = c.get.ensures.value in
    let value = rw found at value in
    rw (← c.self.view_is) (ap (nat_lt 0) (ap (λ o. unwrap_or o 0) value ∙ number) ∙ sym is)
