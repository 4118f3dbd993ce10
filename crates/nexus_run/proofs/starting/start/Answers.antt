use Rattle.std.proofs.Common.{[], inl, inr, refl, subst, sym, ap, ◌∙◌}
use Rattle.service_commands.proofs.ForCallers.{none_audited}
use Rattle.nexus_run.specs.Commands.{IsCommand}
use Rattle.nexus_run.specs.Notes.{RunsNoted}
use Rattle.nexus_run.specs.Runs.{told_by}
use Rattle.nexus_run.proofs.HandedOn.{idle_program, unnoted_runs}
use Rattle.nexus_run.proofs.Running.{no_memory_logged, no_memory_runs, none_runs}
use Rattle.nexus_run.proofs.TrueRuns.{no_journal}
use Rattle.nexus_run.proofs.Words.{not_command}
use Rattle.nexus_run.proofs.starting.start.Goals as goal

pub returns-in-Ok-Some-clause-other_words : goal.returns-in-Ok-Some-clause-other_words
returns-in-Ok-Some-clause-other_words g c =
    let texts = rw (c.in-Ok-Some.field-0-is, c.as_slice.ensures.value, ← c.as_slice-in-Ok-Some.ensures.value) at c.in-Ok-Some.ensures in
    let same = texts ∙ c.in-Ok.ensures.words in
    λ none. (let other = c.run-end.ensures.other_words (λ command. none (subst IsCommand same command)) in
    rw c.with_code-in-Ok-Some.ensures.ended (inl (c.with_code-in-Ok-Some.ensures.code ∙ other.0), other.1, other.2))

pub returns-in-Ok-Some-clause-runs : goal.returns-in-Ok-Some-clause-runs
returns-in-Ok-Some-clause-runs g c =
    let texts = rw (c.in-Ok-Some.field-0-is, c.as_slice.ensures.value, ← c.as_slice-in-Ok-Some.ensures.value) at c.in-Ok-Some.ensures in
    rw (c.with_code-in-Ok-Some.ensures.ended, c.with_code-in-Ok-Some.ensures.log)
    (subst (λ ws. RunsNoted (told_by g.S.Source g.K.Sink g.C.Sink g.C.Recorder g.D.Door g.D.Link.Link g.P.Panel.history) g.J.Sink g.J.Log ws (record { input = c.args.input.now; output = c.args.sinks.output; records = c.args.sinks.records; door = c.args.door; panel = c.args.panel })
    c.args.sinks.log c.run-end.new.input c.run-end.result.ended c.run-end.result.log) (texts ∙ c.in-Ok.ensures.words) c.run-end.ensures.runs)

pub returns-in-Ok-Some-clause-earned : goal.returns-in-Ok-Some-clause-earned
returns-in-Ok-Some-clause-earned g c = rw c.with_code-in-Ok-Some.ensures.ended c.run-end.ensures.earned

pub returns-in-Ok-None-clause-other_words : goal.returns-in-Ok-None-clause-other_words
returns-in-Ok-None-clause-other_words g c = λ none. rw (c.with_code-in-Ok-None.ensures.ended, c.idle_back-end-in-Ok-None.ensures.ended) (inl (c.with_code-in-Ok-None.ensures.code ∙ ap (λ e. e.status) c.idle_back-end-in-Ok-None.ensures.ended), refl, refl)

pub returns-in-Ok-None-clause-runs : goal.returns-in-Ok-None-clause-runs
returns-in-Ok-None-clause-runs g c =
    let none = not_command _ (rw (c.in-Ok-None.field-0-is, c.as_slice.ensures.value) at c.in-Ok-None.ensures) in
    rw (c.with_code-in-Ok-None.ensures.ended, c.idle_back-end-in-Ok-None.ensures.ended, c.with_code-in-Ok-None.ensures.log, c.idle_back-end-in-Ok-None.ensures.log) (unnoted_runs (told_by g.S.Source g.K.Sink g.C.Sink g.C.Recorder g.D.Door g.D.Link.Link g.P.Panel.history) g.J.Sink g.J.Log _
    (record { input = c.args.input.now; output = c.args.sinks.output; records = c.args.sinks.records; door = c.args.door; panel = c.args.panel }) c.args.sinks.log _ _ _
    (record {
      unlogged = λ unlogged. (none_runs (told_by g.S.Source g.K.Sink g.C.Sink g.C.Recorder g.D.Door g.D.Link.Link g.P.Panel.history) _ (record { input = c.args.input.now; output = c.args.sinks.output; records = c.args.sinks.records; door = c.args.door; panel = c.args.panel }) 2 (λ is. none (subst IsCommand (sym c.in-Ok.ensures.words) (inl is))), refl);
      audited = λ unlogged. none_audited {P = g.row.P.Denot} {C = g.row.C.Denot} _ _ _ [] refl;
      logged = λ a m n p r x are within is. absurd (none (subst IsCommand (sym c.in-Ok.ensures.words) (inr (a, m, n, p, r, x, within, is, are))));
    })
    (idle_program (told_by g.S.Source g.K.Sink g.C.Sink g.C.Recorder g.D.Door g.D.Link.Link g.P.Panel.history) _ (record { input = c.args.input.now; output = c.args.sinks.output; records = c.args.sinks.records; door = c.args.door; panel = c.args.panel }) 2 (λ three. cc three)) refl)

pub returns-in-Ok-None-clause-earned : goal.returns-in-Ok-None-clause-earned
returns-in-Ok-None-clause-earned g c = λ h es is. absurd (no_journal _ h es (ap (λ e. e.journal) (c.with_code-in-Ok-None.ensures.ended ∙ c.idle_back-end-in-Ok-None.ensures.ended)) is)

pub returns-in_default-clause-other_words : goal.returns-in_default-clause-other_words
returns-in_default-clause-other_words g c = λ none. rw (c.with_code.ensures.ended, c.idle_back-end.ensures.ended) (inr (c.with_code.ensures.code ∙ ap (λ e. e.status) c.idle_back-end.ensures.ended), refl, refl)

pub returns-in_default-clause-runs : goal.returns-in_default-clause-runs
returns-in_default-clause-runs g c =
    rw (c.with_code.ensures.ended, c.idle_back-end.ensures.ended, c.with_code.ensures.log, c.idle_back-end.ensures.log) (unnoted_runs (told_by g.S.Source g.K.Sink g.C.Sink g.C.Recorder g.D.Door g.D.Link.Link g.P.Panel.history) g.J.Sink g.J.Log _
    (record { input = c.args.input.now; output = c.args.sinks.output; records = c.args.sinks.records; door = c.args.door; panel = c.args.panel }) c.args.sinks.log _ _ _
    (record {
      unlogged = λ unlogged. (no_memory_runs (told_by g.S.Source g.K.Sink g.C.Sink g.C.Recorder g.D.Door g.D.Link.Link g.P.Panel.history) _ (record { input = c.args.input.now; output = c.args.sinks.output; records = c.args.sinks.records; door = c.args.door; panel = c.args.panel }), refl);
      audited = λ unlogged. none_audited {P = g.row.P.Denot} {C = g.row.C.Denot} _ _ _ [] refl;
      logged = no_memory_logged (told_by g.S.Source g.K.Sink g.C.Sink g.C.Recorder g.D.Door g.D.Link.Link g.P.Panel.history) _ (record { input = c.args.input.now; output = c.args.sinks.output; records = c.args.sinks.records; door = c.args.door; panel = c.args.panel }) g.J.Sink g.J.Log c.args.sinks.log;
    })
    (idle_program (told_by g.S.Source g.K.Sink g.C.Sink g.C.Recorder g.D.Door g.D.Link.Link g.P.Panel.history) _ (record { input = c.args.input.now; output = c.args.sinks.output; records = c.args.sinks.records; door = c.args.door; panel = c.args.panel }) 6 (λ three. cc three)) refl)

pub returns-in_default-clause-earned : goal.returns-in_default-clause-earned
returns-in_default-clause-earned g c = λ h es is. absurd (no_journal _ h es (ap (λ e. e.journal) (c.with_code.ensures.ended ∙ c.idle_back-end.ensures.ended)) is)

pub returns-clause-other_words : goal.returns-clause-other_words
returns-clause-other_words g c = λ none. rw (c.with_code-in-Err.ensures.ended, c.idle_back-end-in-Err.ensures.ended) (inr (c.with_code-in-Err.ensures.code ∙ ap (λ e. e.status) c.idle_back-end-in-Err.ensures.ended), refl, refl)

pub returns-clause-runs : goal.returns-clause-runs
returns-clause-runs g c =
    rw (c.with_code-in-Err.ensures.ended, c.idle_back-end-in-Err.ensures.ended, c.with_code-in-Err.ensures.log, c.idle_back-end-in-Err.ensures.log) (unnoted_runs (told_by g.S.Source g.K.Sink g.C.Sink g.C.Recorder g.D.Door g.D.Link.Link g.P.Panel.history) g.J.Sink g.J.Log _
    (record { input = c.args.input.now; output = c.args.sinks.output; records = c.args.sinks.records; door = c.args.door; panel = c.args.panel }) c.args.sinks.log _ _ _
    (record {
      unlogged = λ unlogged. (no_memory_runs (told_by g.S.Source g.K.Sink g.C.Sink g.C.Recorder g.D.Door g.D.Link.Link g.P.Panel.history) _ (record { input = c.args.input.now; output = c.args.sinks.output; records = c.args.sinks.records; door = c.args.door; panel = c.args.panel }), refl);
      audited = λ unlogged. none_audited {P = g.row.P.Denot} {C = g.row.C.Denot} _ _ _ [] refl;
      logged = no_memory_logged (told_by g.S.Source g.K.Sink g.C.Sink g.C.Recorder g.D.Door g.D.Link.Link g.P.Panel.history) _ (record { input = c.args.input.now; output = c.args.sinks.output; records = c.args.sinks.records; door = c.args.door; panel = c.args.panel }) g.J.Sink g.J.Log c.args.sinks.log;
    })
    (idle_program (told_by g.S.Source g.K.Sink g.C.Sink g.C.Recorder g.D.Door g.D.Link.Link g.P.Panel.history) _ (record { input = c.args.input.now; output = c.args.sinks.output; records = c.args.sinks.records; door = c.args.door; panel = c.args.panel }) 6 (λ three. cc three)) refl)

pub returns-clause-earned : goal.returns-clause-earned
returns-clause-earned g c = λ h es is. absurd (no_journal _ h es (ap (λ e. e.journal) (c.with_code-in-Err.ensures.ended ∙ c.idle_back-end-in-Err.ensures.ended)) is)
