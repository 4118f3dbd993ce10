use Rattle.std.proofs.Common.{refl, ap}
use Rattle.nx_io.proofs.ForCallers.{gained-nothing}
use Rattle.policy_script.specs.Inner.Reading.{script_tree}
use Rattle.run_streams.specs.Ends.{no_memory, source_failed}
use Rattle.run_streams.specs.Runs.{sink_run}
use Rattle.run_streams.proofs.ForCallers.{none_hands, refusal_ends, refusal_hands, told_grows}
use Rattle.script_command.specs.Scripts.{script_form, unanswered}
use Rattle.script_command.proofs.ScriptEnds.{answers_end, never_refused}
use Rattle.script_command.proofs.scripts.script.Goals as goal

pub returns-in-Ok-clause-ends : goal.returns-in-Ok-clause-ends
returns-in-Ok-clause-ends g c =
    answers_end _ _ _ _ _ (script_tree c.in-Ok.script) c.in-Ok.ensures.ok c.in-Ok.ensures.count (rw c.as_slice.ensures.value at c.answers.ensures.ends)

pub returns-in-Ok-clause-handed : goal.returns-in-Ok-clause-handed
returns-in-Ok-clause-handed g c =
    none_hands script_form _ (sink_run g.K.Sink c.args.output.now c.answers.new.output) _ _ c.answers.ensures.unrefused (never_refused c.answers.ensures.ends)

pub returns-in-Err-Refused-clause-sent : goal.returns-in-Err-Refused-clause-sent
returns-in-Err-Refused-clause-sent g c = told_grows _ _ c.tell_refusal-end.ensures.told

pub returns-in-Err-Refused-clause-ends : goal.returns-in-Err-Refused-clause-ends
returns-in-Err-Refused-clause-ends g c =
    let refusal = rw c.in-Err-Refused.field-0-is at c.in-Err-Refused.ensures.err in
    let still = rw c.in-Err-Refused.field-0-is at c.in-Err-Refused.ensures.count in
    rw (c.unanswered.ensures.status, c.unanswered.ensures.panel)
    (unanswered (refusal_ends c.in-Err-Refused.refusal (g.K.Sink.sent c.args.output.now) (g.K.Sink.sent c.tell_refusal-end.new.output) _ _ refusal still c.tell_refusal-end.ensures.told)
    refl c.unanswered.ensures.journal)

pub returns-in-Err-Refused-clause-handed : goal.returns-in-Err-Refused-clause-handed
returns-in-Err-Refused-clause-handed g c =
    let refusal = rw c.in-Err-Refused.field-0-is at c.in-Err-Refused.ensures.err in
    rw (c.unanswered.ensures.status, c.unanswered.ensures.refusal)
    (refusal_hands script_form _ c.in-Err-Refused.refusal _ _ _ _ _ _ refusal c.tell_refusal-end.ensures.told c.tell_refusal-end.ensures.handed c.tell_refusal-end.ensures.kept)

pub returns-in-Err-Failed-clause-ends : goal.returns-in-Err-Failed-clause-ends
returns-in-Err-Failed-clause-ends g c =
    rw c.unanswered-in-Err-Failed.ensures.panel
    (unanswered (source_failed (rw c.of.ensures at c.unanswered-in-Err-Failed.ensures.status) (gained-nothing (g.K.Sink.sent c.args.output.now)) (rw c.in-Err-Failed.field-0-is at c.in-Err-Failed.ensures.count) refl)
    refl c.unanswered-in-Err-Failed.ensures.journal)

pub returns-in-Err-Failed-clause-handed : goal.returns-in-Err-Failed-clause-handed
returns-in-Err-Failed-clause-handed g c =
    rw (c.unanswered-in-Err-Failed.ensures.status, c.unanswered-in-Err-Failed.ensures.refusal, c.of.ensures) (λ three. cc three)

pub returns-in-Err-Memory-clause-ends : goal.returns-in-Err-Memory-clause-ends
returns-in-Err-Memory-clause-ends g c =
    unanswered (no_memory (rw c.of-in-Err-Memory.ensures at c.unanswered-in-Err-Memory.ensures.status) (gained-nothing (g.K.Sink.sent c.args.output.now)) (rw c.in-Err-Memory.field-0-is at c.in-Err-Memory.ensures.count) refl)
    (ap g.P.Panel.history c.unanswered-in-Err-Memory.ensures.panel) c.unanswered-in-Err-Memory.ensures.journal

pub returns-in-Err-Memory-clause-handed : goal.returns-in-Err-Memory-clause-handed
returns-in-Err-Memory-clause-handed g c =
    rw (c.unanswered-in-Err-Memory.ensures.status, c.unanswered-in-Err-Memory.ensures.refusal, c.of-in-Err-Memory.ensures) (λ three. cc three)
