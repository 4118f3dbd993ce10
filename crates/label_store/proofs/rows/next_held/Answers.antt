use Rattle.std.proofs.Common.{◌∙◌, sym, arith}
use Rattle.label_store.proofs.HeldLabels.{next_is, next_is_later, none_from}
use Rattle.label_store.proofs.rows.next_held.Goals as goal

pub returns-then-is_held_by-clause-next : goal.returns-then-is_held_by-clause-next
returns-then-is_held_by-clause-next c =
    let next = next_is c.args.rows.now.entries c.loop-index.index c.index.result.now c.index.ensures c.args.holder (sym c.is_held_by.ensures ∙ c.if-is_held_by.true) in
    (next.0, c.loop-index.invariant ∙ next.1)

pub loop-index-preserved : goal.loop-index-preserved
loop-index-preserved c =
    c.loop-index.invariant ∙ next_is_later c.args.rows.now.entries c.loop-index.index c.index.result.now c.index.ensures c.args.holder (sym c.is_held_by.ensures ∙ c.if-is_held_by.false)

pub returns-clause-none : goal.returns-clause-none
returns-clause-none c = c.loop-index.invariant ∙ none_from c.args.rows.now.entries c.args.holder c.loop-index.index (omega (arith, c.loop-index-test.false, c.len-index-end.ensures.len))
