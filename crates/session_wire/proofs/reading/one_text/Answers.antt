use Rattle.std.proofs.Common.{[]}
use Rattle.session_wire.specs.declared.fields.Sort.TheVariants.{Text}
use Rattle.session_wire.specs.Frames.{text_bytes}
use Rattle.session_wire.proofs.Judging.{others}
use Rattle.session_wire.proofs.Payloads.{last}
use Rattle.session_wire.proofs.reading.one_text.Goals as goal

pub returns-clause-bytes : goal.returns-clause-bytes
returns-clause-bytes c =
    let h = others Text [] c.args.body.now c.in_ok-text.field-0-1.now c.requires (c.in_ok-text.text, c.in_ok-text.ensures.text, c.in_ok-text.ensures.bytes) in
    last c.args.body.now (text_bytes c.in_ok-text.text) c.in_ok-text.field-0-1.now c.in_ok-text.ensures.bytes h
