use Rattle.nexus_client.proofs.Lengths.{say_fits}
use Rattle.nexus_client.proofs.imports.label_frame.Goals as goal

pub write_request-requires : goal.write_request-requires
write_request-requires c =
    say_fits c.in_ok-of.field-0 c.in_ok-print_formula.field-0 (rw (c.in_ok-of.ensures, c.as_slice.ensures) c.requires.peer) (rw c.in_ok-print_formula.ensures.text c.requires.label.length_limit)
