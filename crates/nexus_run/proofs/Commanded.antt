-- What a run of a command is, by the words that call it, and where there was no memory for them.
use Rattle.std.proofs.Common.{◌≡◌, inr, ℕ, List, [], Option, None, refl, sym, ap, subst, ◌∙◌}
use Rattle.policy_history.specs.Values.{History}
use Rattle.nx_io.specs.Streams.{gained}
use Rattle.run_streams.specs.Runs.{SinkRun, SourceRun}
use Rattle.nexus_run.specs.declared.commands.Command.{Command}
use Rattle.nexus_run.specs.declared.commands.Command.TheVariants.{Check, Script, Trust, Prove, Audit, Explain, Recover, Compact, Export, Core, Drill}
use Rattle.nexus_run.specs.Commands.{IsWithin, command_words, core_words, drill_words, export_words}
use Rattle.nexus_run.specs.Commanded.{RunsCommand, RunsLasting}
use Rattle.nexus_run.specs.Lasting.{EndsLasting, undone}
use Rattle.nexus_run.specs.LoadRuns.{no_memory as load_memory}
use Rattle.answer_commands.specs.Compacts.{unwritten}
use Rattle.script_command.specs.Scripts.{IsIdle, PanelRun, unanswered}
use Rattle.run_streams.specs.Ends.{no_memory as answer_memory}
use Rattle.nexus_run.proofs.LoadEnds.{runs_load}
use Rattle.run_streams.proofs.ForCallers.{apart, runs_answer}
use Rattle.script_command.proofs.ForCallers.{runs_script}
use Rattle.nexus_run.proofs.FirstWords.{told}
use Rattle.nexus_run.proofs.Words.{core_same, drill_same}

-- ---- A run of a command is one of each command that has the same words

module _ (source : SourceRun) (sink records : SinkRun) (synced : Type 0) (panel : PanelRun) (journal : Option History) (status : ℕ) where
  abbrev Runs : Command → Type 0
  Runs command = RunsCommand command source sink records synced panel journal status

  -- a command that is named alone
  alone : (command other : Command) → other ≡ command → Runs command → Runs other
  alone command other same runs = subst Runs (sym same) runs

  pub same_runs : (command other : Command) → IsWithin command → IsWithin other → command_words command ≡ command_words other → Runs command → Runs other
  same_runs Check other within is same runs = alone Check other (told (command_words Check) other same) runs
  same_runs Script other within is same runs = alone Script other (told (command_words Script) other same) runs
  same_runs Trust other within is same runs = alone Trust other (told (command_words Trust) other same) runs
  same_runs Prove other within is same runs = alone Prove other (told (command_words Prove) other same) runs
  same_runs Audit other within is same runs = alone Audit other (told (command_words Audit) other same) runs
  same_runs Explain other within is same runs = alone Explain other (told (command_words Explain) other same) runs
  same_runs Recover other within is same runs = alone Recover other (told (command_words Recover) other same) runs
  same_runs Compact other within is same runs = alone Compact other (told (command_words Compact) other same) runs
  same_runs (Export name) other within is same runs =
      let known = told (export_words name.now) other same in
      let names : known.0.now ≡ name.now = cc (same ∙ ap command_words known.1) in
      subst Runs (sym known.1) (rw names runs)
  same_runs (Core number steps) other within is same runs =
      let known = told (core_words number steps) other same in
      let numbers = core_same known.0 known.1 number steps (subst IsWithin known.2 is) within (sym (same ∙ ap command_words known.2)) in
      subst Runs (sym known.2) (rw (numbers.0, numbers.1) runs)
  same_runs (Drill number workers calls) other within is same runs =
      let known = told (drill_words number workers calls) other same in
      let numbers = drill_same known.0 known.1 known.2 number workers calls (subst IsWithin known.3 is) within (sym (same ∙ ap command_words known.3)) in
      subst Runs (sym known.3) (rw (numbers.0, numbers.1, numbers.2) runs)

-- ---- Where there was no memory for the words, nothing was read or written

-- what a sink did, by what it was sent and how often it failed before and after
abbrev ran : List ℕ → List ℕ → ℕ → ℕ → SinkRun
ran sent sent_now faults faults_now = record { sent = gained sent sent_now; faults = faults; faults_now = faults_now }

-- a run, and then what becomes of its text
pub lasting_runs : (runs : SinkRun → ℕ → Type 0) {synced : Type 0} {status : ℕ} (before now last : List ℕ) (u v w written : ℕ) → last ≡ now → runs (ran before now u v) written
    → EndsLasting synced written status v w → RunsLasting runs (ran before last u w) synced status
lasting_runs runs before now last u v w written same run ends = record {
  written = written;
  faults = v;
  runs_so = subst (λ (n : List ℕ). runs (ran before n u v) written) (sym same) run;
  ends = ends;
}

-- a run that came to 6 has nothing that is to last
not_done : {runs : SinkRun → ℕ → Type 0} {sink : SinkRun} {synced : Type 0} {status : ℕ} → status ≡ 6 → runs sink status → RunsLasting runs sink synced status
not_done {sink = sink} {status = status} six runs = record { written = status; faults = sink.faults_now; runs_so = runs; ends = undone (λ z. apart status 6 0 six z refl) refl refl }

module _ (source : SourceRun) (sink records : SinkRun) (synced : Type 0) (panel : PanelRun) (status : ℕ) (six : status ≡ 6) (idle : IsIdle panel) (none : sink.sent ≡ []) (still : source.faults_now ≡ source.faults)
    (still_too : sink.faults_now ≡ sink.faults) (unrecorded : records.sent ≡ []) (still_there : records.faults_now ≡ records.faults) where
  pub memory_commanded : (command : Command) → RunsCommand command source sink records synced panel None status
  memory_commanded Check = runs_answer (λ answer is e three. apart status 6 3 six three refl) (inr (answer_memory six none still still_too))
  memory_commanded Script = not_done six (runs_script (unanswered (answer_memory six none still still_too) idle refl))
  memory_commanded Trust = runs_answer (λ answer is e three. apart status 6 3 six three refl) (inr (answer_memory six none still still_too))
  memory_commanded Prove = runs_answer (λ answer is e three. apart status 6 3 six three refl) (inr (answer_memory six none still still_too))
  memory_commanded Audit = runs_answer (λ answer is e three. apart status 6 3 six three refl) (inr (answer_memory six none still still_too))
  memory_commanded Explain = runs_answer (λ answer is e three. apart status 6 3 six three refl) (inr (answer_memory six none still still_too))
  memory_commanded Recover = not_done six (runs_answer (λ answer is e three. apart status 6 3 six three refl) (inr (answer_memory six none still still_too)))
  memory_commanded Compact = not_done six (record {
    text_status = 6;
    text = runs_answer (λ answer is e three. apart 6 6 3 refl three refl) (inr (answer_memory refl none still still_too));
    numbers = unwritten (λ z. apart 6 6 0 refl z refl) six unrecorded still_there;
  })
  memory_commanded (Export name) = runs_answer (λ answer is e three. apart status 6 3 six three refl) (inr (answer_memory six none still still_too))
  memory_commanded (Core number steps) = runs_load (load_memory six none still_too)
  memory_commanded (Drill number workers calls) = runs_load (load_memory six none still_too)
