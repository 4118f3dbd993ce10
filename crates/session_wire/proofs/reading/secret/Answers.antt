use Rattle.std.proofs.Common.{◌∙◌, Err, ap}
use Rattle.session_wire.proofs.Judging.{secret_there}
use Rattle.session_wire.proofs.reading.secret.Goals as goal

pub unreachable-requires-in-Err-Bad : goal.unreachable-requires-in-Err-Bad
unreachable-requires-in-Err-Bad c =
    c.of.ensures.bad.0 (c.in-Err-Bad.is ∙ ap Err c.in-Err-Bad.field-0-is) (secret_there c.args.bytes.now c.in-Some.text.now c.in-Some.rest.now c.requires c.in-Some.ensures)
