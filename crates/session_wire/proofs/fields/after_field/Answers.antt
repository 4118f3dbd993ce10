use Rattle.std.proofs.lemmas.Bool.{false≢true}
use Rattle.session_wire.proofs.Judging.{not_held}
use Rattle.session_wire.proofs.fields.after_field.Goals as goal

pub returns-else-may_hold : goal.returns-else-may_hold
returns-else-may_hold c =
    not_held c.args.sort c.args.bytes.now c.in_ok-text-in_default.text.now c.in_ok-text-in_default.rest.now c.in_default.not-Number c.in_ok-text-in_default.ensures (λ may. false≢true (c.if-may_hold.ensures.1 may))
