use Rattle.std.proofs.Common.{[], ◌∷◌}
use Rattle.session_wire.specs.declared.fields.Sort.TheVariants.{Text}
use Rattle.session_wire.specs.Frames.{text_bytes}
use Rattle.session_wire.proofs.Judging.{others}
use Rattle.session_wire.proofs.Payloads.{last, then}
use Rattle.session_wire.proofs.reading.two_texts.Goals as goal

pub text-requires-2 : goal.text-requires-2
text-requires-2 c =
    let h1 = others Text (Text ∷ []) c.args.body.now c.in_ok-first.rest.now c.requires (c.in_ok-first.first, c.in_ok-first.ensures.text, c.in_ok-first.ensures.bytes) in
    (h1.0, h1.1)

pub returns-clause-bytes : goal.returns-clause-bytes
returns-clause-bytes c =
    let h1 = others Text (Text ∷ []) c.args.body.now c.in_ok-first.rest.now c.requires (c.in_ok-first.first, c.in_ok-first.ensures.text, c.in_ok-first.ensures.bytes) in
    let h2 = others Text [] c.in_ok-first.rest.now c.in_ok-second.field-0-1.now h1 (c.in_ok-second.second, c.in_ok-second.ensures.text, c.in_ok-second.ensures.bytes) in
    then c.args.body.now (text_bytes c.in_ok-first.first) c.in_ok-first.rest.now (text_bytes c.in_ok-second.second) c.in_ok-first.ensures.bytes (last c.in_ok-first.rest.now (text_bytes c.in_ok-second.second) c.in_ok-second.field-0-1.now c.in_ok-second.ensures.bytes h2)
