use Rattle.std.proofs.Common.{◌∙◌, refl, Some}
use Rattle.label_store.proofs.LiveRows.{some_is_no_none, same_some}
use Rattle.label_store.proofs.HeldLabels.{holder_here, holder_none}
use Rattle.label_store.proofs.labels.held_row.Goals as goal

pub returns-in-None-clause-no_label : goal.returns-in-None-clause-no_label
returns-in-None-clause-no_label c = let none = holder_none c.args.rows.now.entries c.args.number c.in-None.ensures.none in (λ e. none, λ e. refl)

pub returns-in-None-clause-not_holder : goal.returns-in-None-clause-not_holder
returns-in-None-clause-not_holder c =
    let none = holder_none c.args.rows.now.entries c.args.number c.in-None.ensures.none in
    (λ e. absurd (cc e), λ h. absurd (some_is_no_none h.1 none))

pub returns-then-row-from-clause-no_label : goal.returns-then-row-from-clause-no_label
returns-then-row-from-clause-no_label c =
    let found = c.in-Some.ensures in
    let holder = holder_here c.args.rows.now.entries c.args.number c.in-Some.found.0 c.in-Some.found.1 (record { at = found.at; value = found.row; live = found.live }) in
    (λ e. absurd (cc e), λ e. absurd (some_is_no_none holder e))

pub returns-then-row-from-clause-not_holder : goal.returns-then-row-from-clause-not_holder
returns-then-row-from-clause-not_holder c =
    let found = c.in-Some.ensures in
    let holder = holder_here c.args.rows.now.entries c.args.number c.in-Some.found.0 c.in-Some.found.1 (record { at = found.at; value = found.row; live = found.live }) in
    (λ e. absurd (cc e), λ h. absurd (h.2 (same_some h.1 holder ∙ c.if-row-from.true)))

pub returns-then-row-from-clause-row : goal.returns-then-row-from-clause-row
returns-then-row-from-clause-row c =
    let found = c.in-Some.ensures in
    let w = c.in-Some.found.1 in
    record { at = found.at; value = found.row ∙ (λ i. Some (record { holder = c.if-row-from.true i; place = w.place; live = found.live i })); live = refl }

pub returns-else-row-from-clause-no_label : goal.returns-else-row-from-clause-no_label
returns-else-row-from-clause-no_label c =
    let found = c.in-Some.ensures in
    let holder = holder_here c.args.rows.now.entries c.args.number c.in-Some.found.0 c.in-Some.found.1 (record { at = found.at; value = found.row; live = found.live }) in
    (λ e. absurd (cc e), λ e. absurd (some_is_no_none holder e))

pub returns-else-row-from-clause-not_holder : goal.returns-else-row-from-clause-not_holder
returns-else-row-from-clause-not_holder c =
    let found = c.in-Some.ensures in
    let holder = holder_here c.args.rows.now.entries c.args.number c.in-Some.found.0 c.in-Some.found.1 (record { at = found.at; value = found.row; live = found.live }) in
    (λ e. (c.in-Some.found.1.holder, holder, c.if-row-from.false), λ h. refl)
