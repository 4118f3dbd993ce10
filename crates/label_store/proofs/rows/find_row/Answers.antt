use Rattle.std.proofs.Common.{◌∙◌, sym}
use Rattle.std.proofs.lemmas.List.Elements.{All-from_recursion}
use Rattle.label_store.specs.Held.{live_entries}
use Rattle.label_store.proofs.LiveRows.{none_absent, none_dead, Differs}
use Rattle.label_store.proofs.rows.find_row.Goals as goal

pub returns-in-None-clause-none : goal.returns-in-None-clause-none
returns-in-None-clause-none c = none_absent c.args.rows.now.entries c.args.number (sym c.get_index_of.ensures.index ∙ c.in-None.is)

pub returns-else-row-clause-none : goal.returns-else-row-clause-none
returns-else-row-clause-none c =
    let es = c.args.rows.now.entries in
    let at = sym c.get_index_of.ensures.index ∙ c.in-Some.is in
    All-from_recursion (Differs c.args.number) (live_entries es) (none_dead es c.args.number c.in-Some.index c.index-row.result.now c.get_index_of.ensures.unique at c.index-row.ensures c.if-row.false)
