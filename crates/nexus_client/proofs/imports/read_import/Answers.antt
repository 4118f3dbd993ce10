use Rattle.std.proofs.Common.{Err, refl, ap, ◌∙◌, arith}
use Rattle.nexus_client.specs.Imports.{in_bundle}
use Rattle.nexus_client.proofs.Peers.{few_lines}
use Rattle.nexus_client.proofs.imports.read_import.Goals as goal

pub overflow_add-result : goal.overflow_add-result
overflow_add-result c =
    let few = few_lines (c.read_bundle.ensures.bad c.in-Err-Bad-read_bundle.line (c.in-Err-Bad-read_bundle.is ∙ ap Err c.in-Err-Bad-read_bundle.field-0-is)) in
    let small = c.requires in
    rw c.in-Err-Bad-read_bundle.field-0-is (omega (arith, few, small))

pub returns-in-Err-Bad-read_bundle-clause-wrong : goal.returns-in-Err-Bad-read_bundle-clause-wrong
returns-in-Err-Bad-read_bundle-clause-wrong c =
    let wrong = c.read_bundle.ensures.bad c.in-Err-Bad-read_bundle.line (c.in-Err-Bad-read_bundle.is ∙ ap Err c.in-Err-Bad-read_bundle.field-0-is) in
    rw c.in-Err-Bad-read_bundle.field-0-is
    (in_bundle c.in-Ok.peer.0 c.in-Ok.peer.1 c.in-Err-Bad-read_bundle.line (rw c.first_line.ensures.line at c.in-Ok.ensures.ok) (rw c.first_line.ensures.rest at wrong) refl)

pub returns-in-Err-Bad-read_bundle-clause-refused : goal.returns-in-Err-Bad-read_bundle-clause-refused
returns-in-Err-Bad-read_bundle-clause-refused c = λ n frames is.
    c.read_bundle.ensures.refused c.in-Err-Bad-read_bundle.line (c.in-Err-Bad-read_bundle.is ∙ ap Err c.in-Err-Bad-read_bundle.field-0-is) is.labels (rw c.first_line.ensures.rest is.import.bundle)
