use Rattle.std.proofs.Common.{[], ◌∷◌}
use Rattle.session_wire.specs.declared.fields.Sort.TheVariants.{Name, Secret}
use Rattle.session_wire.specs.Frames.{text_bytes}
use Rattle.session_wire.proofs.Judging.{others}
use Rattle.session_wire.proofs.Payloads.{last, then}
use Rattle.session_wire.proofs.reading.name_and_secret.Goals as goal

pub secret-requires : goal.secret-requires
secret-requires c =
    let h1 = others Name (Secret ∷ []) c.args.body.now c.in_ok-name.rest.now c.requires (c.in_ok-name.name, c.in_ok-name.ensures.name, c.in_ok-name.ensures.bytes) in
    (h1.0, h1.1)

pub returns-clause-bytes : goal.returns-clause-bytes
returns-clause-bytes c =
    let h1 = others Name (Secret ∷ []) c.args.body.now c.in_ok-name.rest.now c.requires (c.in_ok-name.name, c.in_ok-name.ensures.name, c.in_ok-name.ensures.bytes) in
    let h2 = others Secret [] c.in_ok-name.rest.now c.in_ok-secret.field-0-1.now h1 (c.in_ok-secret.secret, c.in_ok-secret.ensures.secret, c.in_ok-secret.ensures.bytes) in
    then c.args.body.now (text_bytes c.in_ok-name.name) c.in_ok-name.rest.now (text_bytes c.in_ok-secret.secret) c.in_ok-name.ensures.bytes (last c.in_ok-name.rest.now (text_bytes c.in_ok-secret.secret) c.in_ok-secret.field-0-1.now c.in_ok-secret.ensures.bytes h2)
