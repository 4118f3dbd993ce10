use Rattle.std.proofs.Common.{inr, refl}
use Rattle.nx_io.proofs.ForCallers.{gained-nothing}
use Rattle.run_streams.specs.Ends.{no_memory, source_failed}
use Rattle.run_streams.specs.Refusals.{form_of}
use Rattle.run_streams.proofs.ForCallers.{answer_ends, never_both, refusal_ends, refusal_hands, runs_answer, told_grows}
use Rattle.answer_commands.proofs.answering.answer_input.Goals as goal

pub returns-in-Ok-clause-runs : goal.returns-in-Ok-clause-runs
returns-in-Ok-clause-runs g c =
    rw c.of.ensures
    (runs_answer (λ answer is e three. c.tell_answer.ensures.few three) (answer_ends c.in-Ok.answer _ _ _ _ c.in-Ok.ensures.ok c.in-Ok.ensures.count c.tell_answer.ensures.told))

pub returns-in-Ok-clause-sent : goal.returns-in-Ok-clause-sent
returns-in-Ok-clause-sent g c = told_grows _ _ c.tell_answer.ensures.told

pub returns-in-Ok-clause-untouched : goal.returns-in-Ok-clause-untouched
returns-in-Ok-clause-untouched g c = rw c.of.ensures c.tell_answer.ensures.untouched

pub returns-in-Ok-clause-handed : goal.returns-in-Ok-clause-handed
returns-in-Ok-clause-handed g c = rw c.of.ensures c.tell_answer.ensures.few

pub returns-in-Err-Refused-clause-sent : goal.returns-in-Err-Refused-clause-sent
returns-in-Err-Refused-clause-sent g c = told_grows _ _ c.tell_refusal.ensures.told

pub returns-in-Err-Refused-clause-runs : goal.returns-in-Err-Refused-clause-runs
returns-in-Err-Refused-clause-runs g c =
    let refusal = rw c.in-Err-Refused.field-0-is at c.in-Err-Refused.ensures.err in
    let still = rw c.in-Err-Refused.field-0-is at c.in-Err-Refused.ensures.count in
    runs_answer (λ answer is e three. never_both c.in-Err-Refused.refusal answer refusal is) (inr (refusal_ends c.in-Err-Refused.refusal _ _ _ _ refusal still c.tell_refusal.ensures.told))

pub returns-in-Err-Refused-clause-handed : goal.returns-in-Err-Refused-clause-handed
returns-in-Err-Refused-clause-handed g c =
    let refusal = rw c.in-Err-Refused.field-0-is at c.in-Err-Refused.ensures.err in
    refusal_hands (form_of g.A.Answer.formed g.A.Answer.wrong) _ c.in-Err-Refused.refusal _ _ _ _ _ _ refusal c.tell_refusal.ensures.told c.tell_refusal.ensures.handed c.tell_refusal.ensures.kept

pub returns-in-Err-Failed-clause-runs : goal.returns-in-Err-Failed-clause-runs
returns-in-Err-Failed-clause-runs g c =
    rw c.of-in-Err-Failed.ensures
    (runs_answer (λ answer is e three. cc three) (inr (source_failed refl (gained-nothing (g.K.Sink.sent c.args.output.now)) (rw c.in-Err-Failed.field-0-is at c.in-Err-Failed.ensures.count) refl)))

pub returns-in-Err-Failed-clause-handed : goal.returns-in-Err-Failed-clause-handed
returns-in-Err-Failed-clause-handed g c = rw c.of-in-Err-Failed.ensures (λ three. cc three)

pub returns-in-Err-Memory-clause-runs : goal.returns-in-Err-Memory-clause-runs
returns-in-Err-Memory-clause-runs g c =
    rw c.of-in-Err-Memory.ensures
    (runs_answer (λ answer is e three. cc three) (inr (no_memory refl (gained-nothing (g.K.Sink.sent c.args.output.now)) (rw c.in-Err-Memory.field-0-is at c.in-Err-Memory.ensures.count) refl)))

pub returns-in-Err-Memory-clause-handed : goal.returns-in-Err-Memory-clause-handed
returns-in-Err-Memory-clause-handed g c = rw c.of-in-Err-Memory.ensures (λ three. cc three)
