-- What a run hands on of an input that was refused, and what is told beside the refusal.
use Rattle.std.specs.Prelude.{◌≡◌, ◌≢◌, ℕ, Bool, List, Option, None}
use Rattle.nx_io.specs.declared.streams.Sink.{Ghosts as SinkGhosts}
use Rattle.line_log.specs.declared.logs.Log.{Ghosts as LogGhosts}
use Rattle.nexus_client.specs.declared.inputs.TalkInput.{TalkInput}
use Rattle.run_streams.specs.declared.refusals.InputRefusal.{InputRefusal}
use Rattle.run_streams.specs.Ends.{HandsOn}
use Rattle.run_streams.specs.Refusals.{Form}
use Rattle.run_streams.specs.Runs.{SinkRun, SourceRun, sink_run, source_run}
use Rattle.answer_commands.specs.Audits.{audit_command}
use Rattle.answer_commands.specs.Checks.{check_command}
use Rattle.answer_commands.specs.Compacts.{compact_command}
use Rattle.answer_commands.specs.Explains.{explain_command}
use Rattle.answer_commands.specs.Exports.{export_command}
use Rattle.answer_commands.specs.Proves.{prove_command}
use Rattle.answer_commands.specs.Recovers.{recover_command}
use Rattle.answer_commands.specs.Trusts.{trust_command}
use Rattle.script_command.specs.Scripts.{script_form}
use Rattle.service_commands.specs.Clients.{requests_form}
use Rattle.service_commands.specs.Notes.{IsNoted}
use Rattle.service_commands.specs.Services.{EndedValue, HandsBack, IsAddress, IsService, most_session, patience_in, policy_form, sink_behind}
use Rattle.nexus_run.specs.declared.commands.Command.{Command}
use Rattle.nexus_run.specs.declared.commands.Command.TheVariants.{Check, Script, Trust, Prove, Audit, Explain, Recover, Compact, Export, Core, Drill}
use Rattle.nexus_run.specs.Commands.{IsLoggedCall, IsWithin, command_words, logged_words, serve_words, talk_words}
use Rattle.nexus_run.specs.Runs.{Handed, RunsProgram, Tellers}

-- what a run of the command hands on: the refusal of its input, and nothing where it reads none
abbrev pub HandsOnOf : Command → SourceRun → SinkRun → ℕ → Option InputRefusal → Type 0
HandsOnOf Check source sink status refusal = HandsOn check_command.form source sink status refusal
HandsOnOf Script source sink status refusal = HandsOn script_form source sink status refusal
HandsOnOf Trust source sink status refusal = HandsOn trust_command.form source sink status refusal
HandsOnOf Prove source sink status refusal = HandsOn prove_command.form source sink status refusal
HandsOnOf Audit source sink status refusal = HandsOn audit_command.form source sink status refusal
HandsOnOf Explain source sink status refusal = HandsOn explain_command.form source sink status refusal
HandsOnOf Recover source sink status refusal = HandsOn recover_command.form source sink status refusal
HandsOnOf Compact source sink status refusal = HandsOn compact_command.form source sink status refusal
HandsOnOf (Export name) source sink status refusal = HandsOn (export_command name.now).form source sink status refusal
HandsOnOf (Core number steps) source sink status refusal = refusal ≡ None
HandsOnOf (Drill number workers calls) source sink status refusal = refusal ≡ None

-- the form of the inputs of a service
abbrev pub service_form : List ℕ → ℕ → ℕ → Option ℕ → Form
service_form address workers sessions patience = policy_form (most_session (record { address = address; workers = workers; sessions = sessions; patience = patience_in patience }))

-- What the command of these words hands on, over what it was handed: one that is neither a service nor a talk, a talk, or a service. `input_now` is the source behind the run, and `after` what
-- is handed back
pub record HandsOnRefusal {S K C D L P : Type 0} (t : Tellers S K C D L P) (words : List (List ℕ)) (before : Handed S K C D P) (input_now : S) (after : EndedValue K C D L P) : Type 0 where
  pub plain : (command : Command) → words ≡ command_words command → IsWithin command
      → HandsBack after.output (λ k. HandsOnOf command (source_run t.source before.input input_now) (sink_run t.output before.output k) after.status after.refusal)
  pub talk : (talk : TalkInput) (address : List ℕ) → words ≡ talk_words talk address → IsAddress address
      → HandsBack after.output (λ k. HandsOn (requests_form talk) (source_run t.source before.input input_now) (sink_run t.output before.output k) after.status after.refusal)
  pub serve : (address : List ℕ) (workers sessions : ℕ) (patience : Option ℕ) (recorded : Bool) → words ≡ serve_words address workers sessions patience recorded → IsService address workers sessions patience
      → HandsOn (service_form address workers sessions patience) (source_run t.source before.input input_now) (sink_behind t.output before.output after.output) after.status after.refusal

-- The same of a service whose text is kept by a log
abbrev pub HandsOnLogged : {S K C D L P : Type 0} → Tellers S K C D L P → List (List ℕ) → Handed S K C D P → S → EndedValue K C D L P → Type 0
HandsOnLogged t words before input_now after =
    (address : List ℕ) (workers sessions : ℕ) (patience : Option ℕ) (recorded : Bool) (log : List ℕ) → words ≡ logged_words address workers sessions patience recorded log
    → IsService address workers sessions patience → IsAddress log
    → HandsBack after.output (λ k. HandsOn (service_form address workers sessions patience) (source_run t.source before.input input_now) (sink_run t.output before.output k) after.status after.refusal)

-- What a run with these words hands on: the refusal of its input, with status 3, and none else
pub record HandsOnProgram {S K C D L P : Type 0} (t : Tellers S K C D L P) (words : List (List ℕ)) (before : Handed S K C D P) (input_now : S) (after : EndedValue K C D L P) : Type 0 where
  pub unlogged : ¬ IsLoggedCall words → HandsOnRefusal t words before input_now after
  pub logged : HandsOnLogged t words before input_now after
  pub only : after.status ≢ 3 → after.refusal ≡ None

-- What a run with these words promises: how it had ended before anything was told beside a refusal, and what was told then. That changes the records alone.
pub record RunsNoted {S K C D L P J : Type 0} (t : Tellers S K C D L P) (sink : SinkGhosts J) (teller : LogGhosts J) (words : List (List ℕ)) (before : Handed S K C D P) (log : J) (input_now : S) (after : EndedValue K C D L P) (log_now : Option J) : Type 0 where
  pub unnoted : EndedValue K C D L P
  pub runs : RunsProgram t sink teller words before log input_now unnoted log_now
  pub hands : HandsOnProgram t words before input_now unnoted
  pub rest : after ≡ record unnoted { records = after.records }
  pub noted : IsNoted t.records unnoted.refusal unnoted.records after.records
