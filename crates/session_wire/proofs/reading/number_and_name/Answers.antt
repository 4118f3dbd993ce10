use Rattle.std.proofs.Common.{[], ◌∷◌}
use Rattle.session_wire.specs.declared.fields.Sort.TheVariants.{Name, Number}
use Rattle.session_wire.specs.Frames.{number_bytes, text_bytes}
use Rattle.session_wire.proofs.Judging.{others}
use Rattle.session_wire.proofs.Payloads.{last, then}
use Rattle.session_wire.proofs.reading.number_and_name.Goals as goal

pub name-requires : goal.name-requires
name-requires c =
    let h1 = others Number (Name ∷ []) c.args.body.now c.number-number.result.1.now c.requires (c.number-number.result.0, c.number-number.ensures.number, c.number-number.ensures.bytes) in
    (h1.0, h1.1)

pub returns-clause-bytes : goal.returns-clause-bytes
returns-clause-bytes c =
    let h1 = others Number (Name ∷ []) c.args.body.now c.number-number.result.1.now c.requires (c.number-number.result.0, c.number-number.ensures.number, c.number-number.ensures.bytes) in
    let h2 = others Name [] c.number-number.result.1.now c.in_ok-name.field-0-1.now h1 (c.in_ok-name.name, c.in_ok-name.ensures.name, c.in_ok-name.ensures.bytes) in
    then c.args.body.now (number_bytes c.number-number.result.0) c.number-number.result.1.now (text_bytes c.in_ok-name.name) c.number-number.ensures.bytes (last c.number-number.result.1.now (text_bytes c.in_ok-name.name) c.in_ok-name.field-0-1.now c.in_ok-name.ensures.bytes h2)
