use Rattle.std.proofs.Common.{[], ◌∷◌, ◌++◌}
use Rattle.session_wire.specs.declared.fields.Sort.TheVariants.{Name, Text}
use Rattle.session_wire.specs.Frames.{text_bytes}
use Rattle.session_wire.proofs.Judging.{others}
use Rattle.session_wire.proofs.Payloads.{last, then}
use Rattle.session_wire.proofs.reading.place_and_text.Goals as goal

pub name-requires-2 : goal.name-requires-2
name-requires-2 c =
    let h1 = others Name (Name ∷ Text ∷ []) c.args.body.now c.in_ok-op.rest.now c.requires (c.in_ok-op.op, c.in_ok-op.ensures.name, c.in_ok-op.ensures.bytes) in
    (h1.0, h1.1)

pub text-requires : goal.text-requires
text-requires c =
    let h1 = others Name (Name ∷ Text ∷ []) c.args.body.now c.in_ok-op.rest.now c.requires (c.in_ok-op.op, c.in_ok-op.ensures.name, c.in_ok-op.ensures.bytes) in
    let h2 = others Name (Text ∷ []) c.in_ok-op.rest.now c.in_ok-object.rest.now h1 (c.in_ok-object.object, c.in_ok-object.ensures.name, c.in_ok-object.ensures.bytes) in
    (h2.0, h2.1)

pub returns-clause-bytes : goal.returns-clause-bytes
returns-clause-bytes c =
    let h1 = others Name (Name ∷ Text ∷ []) c.args.body.now c.in_ok-op.rest.now c.requires (c.in_ok-op.op, c.in_ok-op.ensures.name, c.in_ok-op.ensures.bytes) in
    let h2 = others Name (Text ∷ []) c.in_ok-op.rest.now c.in_ok-object.rest.now h1 (c.in_ok-object.object, c.in_ok-object.ensures.name, c.in_ok-object.ensures.bytes) in
    let h3 = others Text [] c.in_ok-object.rest.now c.in_ok-text.field-0-1.now h2 (c.in_ok-text.text, c.in_ok-text.ensures.text, c.in_ok-text.ensures.bytes) in
    then c.args.body.now (text_bytes c.in_ok-op.op) c.in_ok-op.rest.now (text_bytes c.in_ok-object.object ++ text_bytes c.in_ok-text.text) c.in_ok-op.ensures.bytes (then c.in_ok-op.rest.now (text_bytes c.in_ok-object.object) c.in_ok-object.rest.now (text_bytes c.in_ok-text.text) c.in_ok-object.ensures.bytes (last c.in_ok-object.rest.now (text_bytes c.in_ok-text.text) c.in_ok-text.field-0-1.now c.in_ok-text.ensures.bytes h3))
