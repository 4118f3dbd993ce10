-- How a run of a command ends that is neither a service nor a talk.
use Rattle.std.specs.Prelude.{ℕ, Option}
use Rattle.policy_history.specs.Values.{History}
use Rattle.run_streams.specs.Runs.{SinkRun, SourceRun}
use Rattle.nexus_run.specs.declared.commands.Command.{Command}
use Rattle.nexus_run.specs.declared.commands.Command.TheVariants.{Check, Script, Trust, Prove, Audit, Explain, Recover, Compact, Export, Core, Drill}
use Rattle.nexus_run.specs.Lasting.{EndsLasting}
use Rattle.nexus_run.specs.LoadRuns.{RunsCore, RunsDrill}
use Rattle.answer_commands.specs.Audits.{RunsAudit}
use Rattle.answer_commands.specs.Explains.{RunsExplain}
use Rattle.answer_commands.specs.Exports.{RunsExport}
use Rattle.answer_commands.specs.Checks.{RunsCheck}
use Rattle.answer_commands.specs.Compacts.{RunsCompact}
use Rattle.answer_commands.specs.Proves.{RunsProve}
use Rattle.answer_commands.specs.Recovers.{RunsRecover}
use Rattle.script_command.specs.Scripts.{PanelRun, RunsScript}
use Rattle.answer_commands.specs.Trusts.{RunsTrust}

-- a run of a command whose text is to last, and whether all that the sink was sent is synced
pub record RunsLasting (runs : SinkRun → ℕ → Type 0) (sink : SinkRun) (synced : Type 0) (status : ℕ) : Type 0 where
  pub written : ℕ
  pub faults : ℕ
  pub runs_so : runs (record sink { faults_now = faults }) written
  pub ends : EndsLasting synced written status faults sink.faults_now

-- what a run of the command is
abbrev pub RunsCommand : Command → SourceRun → SinkRun → SinkRun → Type 0 → PanelRun → Option History → ℕ → Type 0
RunsCommand Check source sink records synced panel journal status = RunsCheck source sink status
RunsCommand Script source sink records synced panel journal status = RunsLasting (λ sink status. RunsScript source sink panel journal status) sink synced status
RunsCommand Trust source sink records synced panel journal status = RunsTrust source sink status
RunsCommand Prove source sink records synced panel journal status = RunsProve source sink status
RunsCommand Audit source sink records synced panel journal status = RunsAudit source sink status
RunsCommand Explain source sink records synced panel journal status = RunsExplain source sink status
RunsCommand Recover source sink records synced panel journal status = RunsLasting (RunsRecover source) sink synced status
RunsCommand Compact source sink records synced panel journal status = RunsLasting (λ sink status. RunsCompact source sink records status) sink synced status
RunsCommand (Export name) source sink records synced panel journal status = RunsExport name.now source sink status
RunsCommand (Core number steps) source sink records synced panel journal status = RunsCore number steps sink status
RunsCommand (Drill number workers calls) source sink records synced panel journal status = RunsDrill number workers calls sink status
