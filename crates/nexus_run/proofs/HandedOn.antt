-- What a run hands on of an input that was refused, for each way in which it can go: a service, a talk, another command, or none.
use Rattle.std.proofs.Common.{◌≡◌, ◌≢◌, ℕ, Bool, List, Option, None, refl, sym, subst, ◌∙◌}
use Rattle.nx_io.specs.declared.streams.Sink.{Ghosts as SinkGhosts}
use Rattle.line_log.specs.declared.logs.Log.{Ghosts as LogGhosts}
use Rattle.nexus_client.specs.declared.inputs.TalkInput.{TalkInput}
use Rattle.run_streams.specs.declared.refusals.InputRefusal.{InputRefusal}
use Rattle.run_streams.specs.Ends.{HandsOn}
use Rattle.run_streams.specs.Refusals.{Form}
use Rattle.run_streams.specs.Runs.{SinkRun, SourceRun, sink_run, source_run}
use Rattle.run_streams.proofs.ForCallers.{apart, handed_ends, hands_same}
use Rattle.answer_commands.specs.Audits.{audit_command}
use Rattle.answer_commands.specs.Checks.{check_command}
use Rattle.answer_commands.specs.Compacts.{compact_command}
use Rattle.answer_commands.specs.Explains.{explain_command}
use Rattle.answer_commands.specs.Exports.{export_command}
use Rattle.answer_commands.specs.Proves.{prove_command}
use Rattle.answer_commands.specs.Recovers.{recover_command}
use Rattle.answer_commands.specs.Trusts.{trust_command}
use Rattle.script_command.specs.Scripts.{script_form}
use Rattle.service_commands.specs.Clients.{requests_form}
use Rattle.service_commands.specs.Services.{EndedValue, HandsBack, IsService, sink_behind}
use Rattle.nexus_run.specs.declared.commands.Command.{Command}
use Rattle.nexus_run.specs.declared.commands.Command.TheVariants.{Check, Script, Trust, Prove, Audit, Explain, Recover, Compact, Export, Core, Drill}
use Rattle.nexus_run.specs.Commands.{command_words, core_words, drill_words, export_words, serve_words, talk_words}
use Rattle.nexus_run.specs.Lasting.{EndsLasting, lasts, undone, unsynced}
use Rattle.nexus_run.specs.Notes.{HandsOnOf, HandsOnProgram, HandsOnRefusal, RunsNoted, service_form}
use Rattle.nexus_run.specs.Runs.{Handed, RunsProgram, Tellers}
use Rattle.nexus_run.proofs.FirstWords.{serve_not_plain, serve_not_talk, talk_not_plain, talk_same, told}
use Rattle.nexus_run.proofs.Running.{all_back, handed}
use Rattle.nexus_run.proofs.Words.{serve_same}

-- ---- A command

module _ (source : SourceRun) (sink : SinkRun) (status : ℕ) where
  abbrev Hands : Option InputRefusal → Command → Type 0
  Hands refusal command = HandsOnOf command source sink status refusal

  -- what is handed on by a command is handed on by each that has the same words
  pub same_hands : (refusal : Option InputRefusal) (command other : Command) → command_words command ≡ command_words other → Hands refusal command → Hands refusal other
  same_hands refusal Check other same hands = subst (Hands refusal) (sym (told (command_words Check) other same)) hands
  same_hands refusal Script other same hands = subst (Hands refusal) (sym (told (command_words Script) other same)) hands
  same_hands refusal Trust other same hands = subst (Hands refusal) (sym (told (command_words Trust) other same)) hands
  same_hands refusal Prove other same hands = subst (Hands refusal) (sym (told (command_words Prove) other same)) hands
  same_hands refusal Audit other same hands = subst (Hands refusal) (sym (told (command_words Audit) other same)) hands
  same_hands refusal Explain other same hands = subst (Hands refusal) (sym (told (command_words Explain) other same)) hands
  same_hands refusal Recover other same hands = subst (Hands refusal) (sym (told (command_words Recover) other same)) hands
  same_hands refusal Compact other same hands = subst (Hands refusal) (sym (told (command_words Compact) other same)) hands
  same_hands refusal (Export name) other same hands = subst (Hands refusal) (sym (told (export_words name.now) other same).1) hands
  same_hands refusal (Core number steps) other same hands = subst (Hands refusal) (sym (told (core_words number steps) other same).2) hands
  same_hands refusal (Drill number workers calls) other same hands = subst (Hands refusal) (sym (told (drill_words number workers calls) other same).3) hands

  -- with another status than 3 none is
  pub only_refused : (refusal : Option InputRefusal) (command : Command) → Hands refusal command → status ≢ 3 → refusal ≡ None
  only_refused refusal Check hands = handed_ends check_command.form source sink status refusal hands
  only_refused refusal Script hands = handed_ends script_form source sink status refusal hands
  only_refused refusal Trust hands = handed_ends trust_command.form source sink status refusal hands
  only_refused refusal Prove hands = handed_ends prove_command.form source sink status refusal hands
  only_refused refusal Audit hands = handed_ends audit_command.form source sink status refusal hands
  only_refused refusal Explain hands = handed_ends explain_command.form source sink status refusal hands
  only_refused refusal Recover hands = handed_ends recover_command.form source sink status refusal hands
  only_refused refusal Compact hands = handed_ends compact_command.form source sink status refusal hands
  only_refused refusal (Export name) hands = handed_ends (export_command name.now).form source sink status refusal hands
  only_refused refusal (Core number steps) none = λ other. none
  only_refused refusal (Drill number workers calls) none = λ other. none

  none_handed : status ≢ 3 → (command : Command) → Hands None command
  none_handed other Check = other
  none_handed other Script = other
  none_handed other Trust = other
  none_handed other Prove = other
  none_handed other Audit = other
  none_handed other Explain = other
  none_handed other Recover = other
  none_handed other Compact = other
  none_handed other (Export name) = other
  none_handed other (Core number steps) = refl
  none_handed other (Drill number workers calls) = refl

-- what is handed on stays so as the text is brought to where it lasts
pub lasting_hands : (form : Form) {Synced : Type 0} {written status faults faults_now : ℕ} (source : SourceRun) (sink other : SinkRun) (refusal : Option InputRefusal) → other.sent ≡ sink.sent
    → EndsLasting Synced written status faults faults_now → HandsOn form source sink written refusal → HandsOn form source other status refusal
lasting_hands form {written = written} source sink other refusal same (lasts zero done synced still) hands =
    let none = handed_ends form source sink written refusal hands (λ three. apart written 0 3 zero three refl) in rw (none, done) (λ three. cc three)
lasting_hands form {written = written} source sink other refusal same (unsynced zero failed rose) hands =
    let none = handed_ends form source sink written refusal hands (λ three. apart written 0 3 zero three refl) in rw (none, failed) (λ three. cc three)
lasting_hands form {written = written} source sink other refusal same (undone some is still) hands =
    subst (λ n. HandsOn form source other n refusal) (sym is) (hands_same form source sink other written refusal (sym same) hands)

-- ---- A run

module _ {S K C D L P : Type 0} (t : Tellers S K C D L P) (words : List (List ℕ)) (before : Handed S K C D P) (input_now : S) (after : EndedValue K C D L P) where
  abbrev read : SourceRun
  read = source_run t.source before.input input_now

  pub service_hands : (address : List ℕ) (workers sessions : ℕ) (patience : Option ℕ) (recording : Bool) → IsService address workers sessions patience
      → words ≡ serve_words address workers sessions patience recording
      → HandsOn (service_form address workers sessions patience) read (sink_behind t.output before.output after.output) after.status after.refusal → HandsOnRefusal t words before input_now after
  service_hands address workers sessions patience recording within words_are hands = record {
    plain = λ other words_too is. absurd (serve_not_plain address workers sessions patience recording other (sym words_are ∙ words_too));
    talk = λ talk other words_too is. absurd (serve_not_talk address workers sessions patience recording talk other (sym words_are ∙ words_too));
    serve = λ a m n p r words_too is.
        let same = serve_same a m n p r address workers sessions patience recording is within (sym words_too ∙ words_are) in
        rw (same.1, same.2) hands;
  }

  pub talk_hands : (input : TalkInput) (address : List ℕ) → words ≡ talk_words input address
      → HandsBack after.output (λ k. HandsOn (requests_form input) read (sink_run t.output before.output k) after.status after.refusal) → HandsOnRefusal t words before input_now after
  talk_hands input address words_are hands = record {
    plain = λ other words_too is. absurd (talk_not_plain input address other (sym words_are ∙ words_too));
    talk = λ talk other words_too is. (let same = talk_same talk input (sym words_too ∙ words_are) in rw same.0 hands);
    serve = λ a m n p r words_too is. absurd (serve_not_talk a m n p r input address (sym words_too ∙ words_are));
  }

  pub plain_hands : (command : Command) → words ≡ command_words command
      → HandsBack after.output (λ k. HandsOnOf command read (sink_run t.output before.output k) after.status after.refusal) → HandsOnRefusal t words before input_now after
  plain_hands command words_are hands = record {
    plain = λ other are is. handed after.output (λ k one. same_hands read (sink_run t.output before.output k) after.status after.refusal command other (sym words_are ∙ are) one) hands;
    talk = λ talk address are is. absurd (talk_not_plain talk address command (sym are ∙ words_are));
    serve = λ a m n p r are is. absurd (serve_not_plain a m n p r command (sym are ∙ words_are));
  }

-- where nothing was done, nothing is handed on
module _ {S K C D L P : Type 0} (t : Tellers S K C D L P) (words : List (List ℕ)) (before : Handed S K C D P) (status : ℕ) (other : status ≢ 3) where
  pub idle_hands : HandsOnRefusal t words before before.input (all_back t words before status)
  idle_hands = record {
    plain = λ command are is. none_handed (source_run t.source before.input before.input) (sink_run t.output before.output before.output) status other command;
    talk = λ talk address are is. other;
    serve = λ a m n p r are is. other;
  }

  pub idle_program : HandsOnProgram t words before before.input (all_back t words before status)
  idle_program = record {
    unlogged = λ unlogged. idle_hands;
    logged = λ a m n p r x are within is. other;
    only = λ same. refl;
  }

-- a run that handed on nothing is told as it is
pub unnoted_runs : {S K C D L P J : Type 0} (t : Tellers S K C D L P) (sink : SinkGhosts J) (teller : LogGhosts J) (words : List (List ℕ)) (before : Handed S K C D P) (log : J) (input_now : S)
    (after : EndedValue K C D L P) (log_now : Option J) → RunsProgram t sink teller words before log input_now after log_now → HandsOnProgram t words before input_now after → after.refusal ≡ None
    → RunsNoted t sink teller words before log input_now after log_now
unnoted_runs t sink teller words before log input_now after log_now runs hands none = record {
  unnoted = after;
  runs = runs;
  hands = hands;
  rest = refl;
  noted = rw none refl;
}
