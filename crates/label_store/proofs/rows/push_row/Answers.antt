use Rattle.std.proofs.Common.{◌∙◌, nat_eq, ap, refl, inl, inr}
use Rattle.indexmap.specs.IndexMap.{insert_entry}
use Rattle.indexmap.proofs.CallerLemmas.{insert_entry-new}
use Rattle.label_store.specs.Held.{live_entries}
use Rattle.label_store.proofs.LiveRows.{put_last, not_some}
use Rattle.label_store.proofs.rows.push_row.Goals.{then-contains_key, else-contains_key}
use Rattle.label_store.proofs.rows.push_row.Goals as goal

pub returns-clause-pushed : goal.returns-clause-pushed
returns-clause-pushed c =
    let put = c.unwrap.ensures in
    let entries = c.insert.ensures.entries in
    let entries = rw put at entries in
    elim c.if-contains_key.branch [
      | then-contains_key w ↦
          let closed = ap (λ (m : _). m.entries) w.rows-is ∙ w.close_up.ensures.entries in
          (live_entries c.args.rows.now.entries, inr refl, entries ∙ put_last c.args.rows.now.entries c.if-contains_key.rows.entries closed c.args.number c.args.row c.requires.above)
      | else-contains_key w ↦
          let same = ap (λ (m : _). m.entries) w.rows-is in
          (c.args.rows.now.entries, inl refl, entries ∙ ap (λ es. insert_entry nat_eq es c.args.number c.args.row) same ∙ insert_entry-new nat_eq c.args.rows.now c.args.number c.args.row (not_some _ w.if-contains_key.ensures))
    ]
