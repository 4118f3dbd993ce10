use Rattle.std.proofs.Common.{map, arith, ap, ◌∙◌}
use Rattle.std.proofs.lemmas.List.{length-map}
use Rattle.nal_term.specs.Trees.{formula_tree}
use Rattle.peer_labels.specs.Bundles.{complete}
use Rattle.peer_labels.specs.Inner.Reading.{stage_of}
use Rattle.peer_labels.proofs.Following.{bundle_labels, same_labels}
use Rattle.peer_labels.proofs.reading.read_bundle.Goals as goal

pub bundle_of-requires-clause-each : goal.bundle_of-requires-clause-each
bundle_of-requires-clause-each c =
    (bundle_labels (stage_of c.in-Ok-Complete.field-0) (map formula_tree c.in-Ok-Complete.labels.items) (ap stage_of c.in-Ok-Complete.field-0-is) c.in-Ok-Complete.ensures.ok.1).0

pub bundle_of-requires-clause-few : goal.bundle_of-requires-clause-few
bundle_of-requires-clause-few c =
    let labels = map formula_tree c.in-Ok-Complete.labels.items in
    let few = (bundle_labels (stage_of c.in-Ok-Complete.field-0) labels (ap stage_of c.in-Ok-Complete.field-0-is) c.in-Ok-Complete.ensures.ok.1).1 in
    let same = length-map c.in-Ok-Complete.labels.items formula_tree in
    omega (arith, few, same)

pub returns-in-Ok-Complete-clause-only : goal.returns-in-Ok-Complete-clause-only
returns-in-Ok-Complete-clause-only c = λ others is.
    rw c.bundle_of.ensures (same_labels (c.in-Ok-Complete.ensures.only (complete others) is ∙ ap stage_of c.in-Ok-Complete.field-0-is))

pub returns-in-Err-Wrong-clause-refused : goal.returns-in-Err-Wrong-clause-refused
returns-in-Err-Wrong-clause-refused c = λ k same others is. c.in-Err-Wrong.ensures.refused (λ e. cc e) (complete others) tt is
