use Rattle.std.proofs.Common.{[]}
use Rattle.session_wire.specs.declared.fields.Sort.TheVariants.{Number}
use Rattle.session_wire.specs.Frames.{number_bytes}
use Rattle.session_wire.proofs.Judging.{others}
use Rattle.session_wire.proofs.Payloads.{last}
use Rattle.session_wire.proofs.reading.one_number.Goals as goal

pub returns-clause-bytes : goal.returns-clause-bytes
returns-clause-bytes c =
    let h = others Number [] c.args.body.now c.number-number.result.1.now c.requires (c.number-number.result.0, c.number-number.ensures.number, c.number-number.ensures.bytes) in
    last c.args.body.now (number_bytes c.number-number.result.0) c.number-number.result.1.now c.number-number.ensures.bytes h
