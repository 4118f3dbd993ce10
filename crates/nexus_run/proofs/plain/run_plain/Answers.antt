use Rattle.std.specs.Prelude.{option_map}
use Rattle.std.proofs.Common.{ap, refl}
use Rattle.nx_io.specs.Streams.{gained}
use Rattle.policy_history.specs.Values.{entry_trees}
use Rattle.proof_lines.specs.Lines.{line_trees}
use Rattle.run_streams.specs.Runs.{sink_run}
use Rattle.run_streams.proofs.ForCallers.{runs_as}
use Rattle.answer_commands.specs.Compacts.{compact_command}
use Rattle.answer_commands.specs.Recovers.{recover_command}
use Rattle.nexus_run.proofs.Commanded.{lasting_runs}
use Rattle.nexus_run.proofs.HandedOn.{lasting_hands}
use Rattle.nexus_run.proofs.LoadEnds.{runs_load}
use Rattle.script_command.specs.Scripts.{script_form}
use Rattle.script_command.proofs.ForCallers.{has_more, more_nothing, runs_script}
use Rattle.nexus_run.proofs.plain.run_plain.Goals as goal

pub returns-in-Check-clause-command : goal.returns-in-Check-clause-command
returns-in-Check-clause-command g c = rw (c.in-Check.is, c.ended.ensures.status) c.answer_input.ensures.runs

pub returns-in-Script-clause-command : goal.returns-in-Script-clause-command
returns-in-Script-clause-command g c =
    rw c.in-Script.is (lasting_runs _ _ _ _ _ _ _ _ c.lasting.ensures.sent (runs_script c.script-status.ensures.ends) c.lasting.ensures.ends)

pub returns-in-Trust-clause-command : goal.returns-in-Trust-clause-command
returns-in-Trust-clause-command g c = rw (c.in-Trust.is, c.ended-in-Trust.ensures.status) c.answer_input-in-Trust.ensures.runs

pub returns-in-Prove-clause-command : goal.returns-in-Prove-clause-command
returns-in-Prove-clause-command g c = rw (c.in-Prove.is, c.ended-in-Prove.ensures.status) (runs_as (λ found. option_map line_trees found.proof) c.answer_input-in-Prove.ensures.runs)

pub returns-in-Audit-clause-command : goal.returns-in-Audit-clause-command
returns-in-Audit-clause-command g c = rw (c.in-Audit.is, c.ended-in-Audit.ensures.status) c.answer_input-in-Audit.ensures.runs

pub returns-in-Explain-clause-command : goal.returns-in-Explain-clause-command
returns-in-Explain-clause-command g c = rw (c.in-Explain.is, c.ended-in-Explain.ensures.status) c.answer_input-in-Explain.ensures.runs

pub returns-in-Recover-clause-command : goal.returns-in-Recover-clause-command
returns-in-Recover-clause-command g c =
    rw (c.in-Recover.is, c.ended-in-Recover.ensures.status)
    (lasting_runs _ _ _ _ _ _ _ _ c.lasting-status.ensures.sent
    (runs_as (λ recovered. record { head = recovered.journal.head; entries = entry_trees recovered.journal.entries }) c.answer_input-end.ensures.runs) c.lasting-status.ensures.ends)

pub returns-in-Compact-clause-command : goal.returns-in-Compact-clause-command
returns-in-Compact-clause-command g c =
    rw (c.in-Compact.is, c.ended-in-Compact.ensures.status)
    (lasting_runs _ _ _ _ _ _ _ _ c.lasting-status-in-Compact.ensures.sent c.compact-end.ensures.runs c.lasting-status-in-Compact.ensures.ends)

pub returns-in-Compact-clause-unrecorded : goal.returns-in-Compact-clause-unrecorded
returns-in-Compact-clause-unrecorded g c = λ other. absurd (other c.in-Compact.is)

pub returns-in-Export-clause-command : goal.returns-in-Export-clause-command
returns-in-Export-clause-command g c = rw (c.in-Export.is, c.ended-in-Export.ensures.status) c.export.ensures.runs

pub returns-in-Core-clause-command : goal.returns-in-Core-clause-command
returns-in-Core-clause-command g c = rw (c.in-Core.is, c.ended-in-Core.ensures.status, c.of.ensures) (runs_load c.load.ensures.ends)

pub drill-requires-clause-workers : goal.drill-requires-clause-workers
drill-requires-clause-workers g c κs within = (rw c.in-Drill.is at c.requires).workers_are

pub drill-requires-clause-calls : goal.drill-requires-clause-calls
drill-requires-clause-calls g c κs within = (rw c.in-Drill.is at c.requires).calls_are.1

pub returns-in-Drill-clause-command : goal.returns-in-Drill-clause-command
returns-in-Drill-clause-command g c = rw (c.in-Drill.is, c.ended-in-Drill.ensures.status, c.of-in-Drill.ensures) (runs_load c.drill.ensures.ends)

-- ---- What is handed on

pub returns-in-Check-clause-handed : goal.returns-in-Check-clause-handed
returns-in-Check-clause-handed g c = rw (c.in-Check.is, c.ended.ensures.status, c.ended.ensures.refusal) c.answer_input.ensures.handed

pub returns-in-Trust-clause-handed : goal.returns-in-Trust-clause-handed
returns-in-Trust-clause-handed g c = rw (c.in-Trust.is, c.ended-in-Trust.ensures.status, c.ended-in-Trust.ensures.refusal) c.answer_input-in-Trust.ensures.handed

pub returns-in-Prove-clause-handed : goal.returns-in-Prove-clause-handed
returns-in-Prove-clause-handed g c = rw (c.in-Prove.is, c.ended-in-Prove.ensures.status, c.ended-in-Prove.ensures.refusal) c.answer_input-in-Prove.ensures.handed

pub returns-in-Audit-clause-handed : goal.returns-in-Audit-clause-handed
returns-in-Audit-clause-handed g c = rw (c.in-Audit.is, c.ended-in-Audit.ensures.status, c.ended-in-Audit.ensures.refusal) c.answer_input-in-Audit.ensures.handed

pub returns-in-Explain-clause-handed : goal.returns-in-Explain-clause-handed
returns-in-Explain-clause-handed g c = rw (c.in-Explain.is, c.ended-in-Explain.ensures.status, c.ended-in-Explain.ensures.refusal) c.answer_input-in-Explain.ensures.handed

pub returns-in-Export-clause-handed : goal.returns-in-Export-clause-handed
returns-in-Export-clause-handed g c = rw (c.in-Export.is, c.ended-in-Export.ensures.status, c.ended-in-Export.ensures.refusal) c.export.ensures.handed

pub returns-in-Script-clause-handed : goal.returns-in-Script-clause-handed
returns-in-Script-clause-handed g c =
    let before = c.args.output.now in
    rw c.in-Script.is
    (lasting_hands script_form _ (sink_run g.K.Sink before c.script-status.new.output) (sink_run g.K.Sink before c.lasting.new.output) _
    (ap (gained (g.K.Sink.sent before)) c.lasting.ensures.sent) c.lasting.ensures.ends c.script-status.ensures.handed)

pub returns-in-Recover-clause-handed : goal.returns-in-Recover-clause-handed
returns-in-Recover-clause-handed g c =
    let before = c.args.output.now in
    rw (c.in-Recover.is, c.ended-in-Recover.ensures.status, c.ended-in-Recover.ensures.refusal)
    (lasting_hands recover_command.form _ (sink_run g.K.Sink before c.answer_input-end.new.output) (sink_run g.K.Sink before c.lasting-status.new.output) _
    (ap (gained (g.K.Sink.sent before)) c.lasting-status.ensures.sent) c.lasting-status.ensures.ends c.answer_input-end.ensures.handed)

pub returns-in-Compact-clause-handed : goal.returns-in-Compact-clause-handed
returns-in-Compact-clause-handed g c =
    let before = c.args.output.now in
    rw (c.in-Compact.is, c.ended-in-Compact.ensures.status, c.ended-in-Compact.ensures.refusal)
    (lasting_hands compact_command.form _ (sink_run g.K.Sink before c.compact-end.new.output) (sink_run g.K.Sink before c.lasting-status-in-Compact.new.output) _
    (ap (gained (g.K.Sink.sent before)) c.lasting-status-in-Compact.ensures.sent) c.lasting-status-in-Compact.ensures.ends c.compact-end.ensures.handed)

pub returns-in-Core-clause-handed : goal.returns-in-Core-clause-handed
returns-in-Core-clause-handed g c = rw (c.in-Core.is, c.ended-in-Core.ensures.refusal, c.of.ensures) refl

pub returns-in-Drill-clause-handed : goal.returns-in-Drill-clause-handed
returns-in-Drill-clause-handed g c = rw (c.in-Drill.is, c.ended-in-Drill.ensures.refusal, c.of-in-Drill.ensures) refl

-- ---- Only a script makes calls of the panel

pub returns-in-Script-clause-asked : goal.returns-in-Script-clause-asked
returns-in-Script-clause-asked g c = has_more c.script-status.ensures.ends

pub returns-in-Check-clause-asked : goal.returns-in-Check-clause-asked
returns-in-Check-clause-asked g c = more_nothing (ap g.P.Panel.history c.ended.ensures.panel)

pub returns-in-Trust-clause-asked : goal.returns-in-Trust-clause-asked
returns-in-Trust-clause-asked g c = more_nothing (ap g.P.Panel.history c.ended-in-Trust.ensures.panel)

pub returns-in-Prove-clause-asked : goal.returns-in-Prove-clause-asked
returns-in-Prove-clause-asked g c = more_nothing (ap g.P.Panel.history c.ended-in-Prove.ensures.panel)

pub returns-in-Audit-clause-asked : goal.returns-in-Audit-clause-asked
returns-in-Audit-clause-asked g c = more_nothing (ap g.P.Panel.history c.ended-in-Audit.ensures.panel)

pub returns-in-Explain-clause-asked : goal.returns-in-Explain-clause-asked
returns-in-Explain-clause-asked g c = more_nothing (ap g.P.Panel.history c.ended-in-Explain.ensures.panel)

pub returns-in-Recover-clause-asked : goal.returns-in-Recover-clause-asked
returns-in-Recover-clause-asked g c = more_nothing (ap g.P.Panel.history c.ended-in-Recover.ensures.panel)

pub returns-in-Compact-clause-asked : goal.returns-in-Compact-clause-asked
returns-in-Compact-clause-asked g c = more_nothing (ap g.P.Panel.history c.ended-in-Compact.ensures.panel)

pub returns-in-Export-clause-asked : goal.returns-in-Export-clause-asked
returns-in-Export-clause-asked g c = more_nothing (ap g.P.Panel.history c.ended-in-Export.ensures.panel)

pub returns-in-Core-clause-asked : goal.returns-in-Core-clause-asked
returns-in-Core-clause-asked g c = more_nothing (ap g.P.Panel.history c.ended-in-Core.ensures.panel)

pub returns-in-Drill-clause-asked : goal.returns-in-Drill-clause-asked
returns-in-Drill-clause-asked g c = more_nothing (ap g.P.Panel.history c.ended-in-Drill.ensures.panel)

-- ---- A load leaves the sink alone where it says so

pub returns-in-Core-clause-untouched : goal.returns-in-Core-clause-untouched
returns-in-Core-clause-untouched g c = rw (c.ended-in-Core.ensures.status, c.of.ensures) c.load.ensures.untouched

pub returns-in-Drill-clause-untouched : goal.returns-in-Drill-clause-untouched
returns-in-Drill-clause-untouched g c = rw (c.ended-in-Drill.ensures.status, c.of-in-Drill.ensures) c.drill.ensures.untouched
