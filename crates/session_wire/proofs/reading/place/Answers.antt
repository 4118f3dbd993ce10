use Rattle.std.proofs.Common.{[], ◌∷◌}
use Rattle.session_wire.specs.declared.fields.Sort.TheVariants.{Name}
use Rattle.session_wire.specs.Frames.{text_bytes}
use Rattle.session_wire.proofs.Judging.{others}
use Rattle.session_wire.proofs.Payloads.{last, then}
use Rattle.session_wire.proofs.reading.place.Goals as goal

pub name-requires-2 : goal.name-requires-2
name-requires-2 c =
    let h1 = others Name (Name ∷ []) c.args.body.now c.in_ok-op.rest.now c.requires (c.in_ok-op.op, c.in_ok-op.ensures.name, c.in_ok-op.ensures.bytes) in
    (h1.0, h1.1)

pub returns-clause-bytes : goal.returns-clause-bytes
returns-clause-bytes c =
    let h1 = others Name (Name ∷ []) c.args.body.now c.in_ok-op.rest.now c.requires (c.in_ok-op.op, c.in_ok-op.ensures.name, c.in_ok-op.ensures.bytes) in
    let h2 = others Name [] c.in_ok-op.rest.now c.in_ok-object.field-0-1.now h1 (c.in_ok-object.object, c.in_ok-object.ensures.name, c.in_ok-object.ensures.bytes) in
    then c.args.body.now (text_bytes c.in_ok-op.op) c.in_ok-op.rest.now (text_bytes c.in_ok-object.object) c.in_ok-op.ensures.bytes (last c.in_ok-op.rest.now (text_bytes c.in_ok-object.object) c.in_ok-object.field-0-1.now c.in_ok-object.ensures.bytes h2)
