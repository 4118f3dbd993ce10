use Rattle.std.proofs.Common.{[], ◌∷◌}
use Rattle.session_wire.specs.declared.fields.Sort.TheVariants.{Number, Text}
use Rattle.session_wire.specs.Frames.{number_bytes, text_bytes}
use Rattle.session_wire.proofs.Judging.{others}
use Rattle.session_wire.proofs.Payloads.{last, then}
use Rattle.session_wire.proofs.reading.text_and_number.Goals as goal

pub number-number-requires : goal.number-number-requires
number-number-requires c =
    let h1 = others Text (Number ∷ []) c.args.body.now c.in_ok-text.rest.now c.requires (c.in_ok-text.text, c.in_ok-text.ensures.text, c.in_ok-text.ensures.bytes) in
    (h1.0, h1.1)

pub returns-clause-bytes : goal.returns-clause-bytes
returns-clause-bytes c =
    let h1 = others Text (Number ∷ []) c.args.body.now c.in_ok-text.rest.now c.requires (c.in_ok-text.text, c.in_ok-text.ensures.text, c.in_ok-text.ensures.bytes) in
    let h2 = others Number [] c.in_ok-text.rest.now c.number-number.result.1.now h1 (c.number-number.result.0, c.number-number.ensures.number, c.number-number.ensures.bytes) in
    then c.args.body.now (text_bytes c.in_ok-text.text) c.in_ok-text.rest.now (number_bytes c.number-number.result.0) c.in_ok-text.ensures.bytes (last c.in_ok-text.rest.now (number_bytes c.number-number.result.0) c.number-number.result.1.now c.number-number.ensures.bytes h2)
