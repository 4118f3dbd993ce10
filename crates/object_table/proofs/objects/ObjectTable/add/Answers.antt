use Rattle.std.proofs.Common.{◌≡◌, ◌∙◌, nat_eq, sym, None, subst}
use Rattle.std.specs.Cmp.Lexicographic.{pointwise}
use Rattle.indexmap.specs.IndexMap.{get}
use Rattle.indexmap.proofs.CallerLemmas.{insert_entry-new}
use Rattle.indexmap.proofs.MapLemmas.{Missing-position}
use Rattle.object_table.specs.Objects.{number_of}
use Rattle.object_table.proofs.objects.ObjectTable.add.Goals as goal

pub returns-clause-rows : goal.returns-clause-rows
returns-clause-rows c =
    let old = c.self.inside.rows in
    let name = c.args.name in
    let fresh = subst (λ t. number_of t.rows name ≡ None) (sym c.self.view_is) c.requires.fresh in
    let absent : get (pointwise nat_eq) old name ≡ None = (Missing-position _ old.entries fresh).value in
    let entries = c.insert.ensures.entries in
    let ok = c.unwrap.ensures in
    rw (← c.self.view_is) ((rw ok at entries) ∙ insert_entry-new (pointwise nat_eq) old name c.args.owner absent)
