use Rattle.std.proofs.Common.{inr, arith}
use Rattle.answer_commands.specs.Compacts.{compact_command}
use Rattle.run_streams.proofs.ForCallers.{answer_ends, never_both, refusal_ends, refusal_hands, refusal_never_done, runs_answer, runs_with}
use Rattle.answer_commands.proofs.compacts.compact_text.Goals as goal

pub returns-then-status-eq0-clause-ok : goal.returns-then-status-eq0-clause-ok
returns-then-status-eq0-clause-ok g c =
    runs_with c.if-status-eq0.true
    (runs_answer (λ answer is e three. c.tell_answer-status.ensures.few three)
    (answer_ends {command = compact_command} c.in-Ok.compacted _ _ _ _ c.in-Ok.ensures.ok c.in-Ok.ensures.count c.tell_answer-status.ensures.told))

pub returns-else-status-eq0-clause-err : goal.returns-else-status-eq0-clause-err
returns-else-status-eq0-clause-err g c =
    rw c.of.ensures (
      (λ zero. absurd (omega (arith, zero, c.if-status-eq0.false))),
      runs_answer (λ answer is e three. c.tell_answer-status.ensures.few three)
          (answer_ends {command = compact_command} c.in-Ok.compacted _ _ _ _ c.in-Ok.ensures.ok c.in-Ok.ensures.count c.tell_answer-status.ensures.told),
    )

pub returns-else-status-eq0-clause-untouched : goal.returns-else-status-eq0-clause-untouched
returns-else-status-eq0-clause-untouched g c = rw c.of.ensures c.tell_answer-status.ensures.untouched

pub returns-else-status-eq0-clause-handed : goal.returns-else-status-eq0-clause-handed
returns-else-status-eq0-clause-handed g c = rw c.of.ensures c.tell_answer-status.ensures.few

pub returns-in-Err-Refused-clause-err : goal.returns-in-Err-Refused-clause-err
returns-in-Err-Refused-clause-err g c =
    let refusal = rw c.in-Err-Refused.field-0-is at c.in-Err-Refused.ensures.err in
    let still = rw c.in-Err-Refused.field-0-is at c.in-Err-Refused.ensures.count in (
      refusal_never_done c.tell_refusal.ensures.told,
      runs_answer (λ answer is e three. never_both {command = compact_command} c.in-Err-Refused.refusal answer refusal is)
          (inr (refusal_ends c.in-Err-Refused.refusal _ _ _ _ refusal still c.tell_refusal.ensures.told)),
    )

pub returns-in-Err-Refused-clause-handed : goal.returns-in-Err-Refused-clause-handed
returns-in-Err-Refused-clause-handed g c =
    let refusal = rw c.in-Err-Refused.field-0-is at c.in-Err-Refused.ensures.err in
    refusal_hands compact_command.form _ c.in-Err-Refused.refusal _ _ _ _ _ _ refusal c.tell_refusal.ensures.told c.tell_refusal.ensures.handed c.tell_refusal.ensures.kept
