use Rattle.std.proofs.Common.{◌∙◌}
use Rattle.audit_check.proofs.Counts.{place_is}
use Rattle.audit_check.proofs.judging.asks_before.Goals as goal

pub returns : goal.returns
returns c =
    let is = place_is c.args.proof.now c.args.number c.if-number-eq0.false in
    rw (c.min-before.ensures, c.as_slice-lines.ensures.items) at c.ask_count.ensures ∙ is
