use Rattle.std.proofs.Common.{◌∙◌, sym, ap, map, get_or, slice_get, List}
use Rattle.std.specs.Option.{option_map}
use Rattle.std.proofs.lemmas.Option.{slice_get-get_or}
use Rattle.nal_term.specs.declared.formulas.Formula.TheVariants.{True}
use Rattle.nal_term.specs.Trees.{formula_tree}
use Rattle.label_store.specs.Held.{Entry}
use Rattle.label_store.proofs.HeldLabels.{place_of_value}
use Rattle.label_store.proofs.labels.LabelsOf.next.Goals as goal

pub returns-in-Some-clause-label : goal.returns-in-Some-clause-label
returns-in-Some-clause-label c =
    let formulas = c.self.inside.formulas.now.keys in
    let es = c.self.inside.rows.now.entries in
    let w = c.in-Some.row in
    let found = c.in-Some.ensures in
    let within = place_of_value formulas es c.self.invariant found.row.0 w found.row.1 in
    rw (← c.self.view_is)
    (ap (option_map formula_tree) (c.get_index.ensures.key ∙ slice_get-get_or formulas w.place True within)
    ∙ sym (ap (λ (l : List Entry). slice_get (map formula_tree (map (λ (e : Entry). get_or formulas e.1.place True) l)) 0) found.next.1))
