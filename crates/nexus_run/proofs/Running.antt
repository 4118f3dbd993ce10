-- What a run promises, for each way in which it can go: a service, a talk, another command, or none.
use Rattle.std.proofs.Common.{◌≡◌, ◌≢◌, ◌⊎◌, ℕ, Bool, List, [], Option, Some, None, inl, inr, refl, sym, ap, subst, ◌∙◌}
use Rattle.nx_io.specs.Streams.{Grows}
use Rattle.nx_io.specs.Views.{DoorView, HasGiven, RecorderView, SinkView, door_view, link_view, recorder_view, sink_view}
use Rattle.nx_io.proofs.ForCallers.{gained-nothing, gave-nothing, grows-nothing}
use Rattle.std.specs.Prelude.{length, option_map}
use Rattle.policy_history.specs.Values.{History}
use Rattle.run_streams.specs.declared.refusals.InputRefusal.{InputRefusal}
use Rattle.run_streams.specs.Ends.{no_memory}
use Rattle.run_streams.specs.Runs.{SourceRun, sink_run, source_run}
use Rattle.nexus_client.specs.declared.inputs.TalkInput.{TalkInput}
use Rattle.script_command.specs.Scripts.{HasMore, panel_run}
use Rattle.script_command.proofs.ForCallers.{more_nothing}
use Rattle.nexus_serve.specs.Hosting.{Plan}
use Rattle.service_commands.specs.Clients.{EndsClient}
use Rattle.service_commands.specs.Clients as talks
use Rattle.service_commands.specs.Services.{EndedValue, EndedView, EndsService, HandsBack, IsAddress, IsService, IsUnbegun, RunsService, ended_view, only_where, patience_in}
use Rattle.service_commands.specs.Services as service
use Rattle.service_commands.specs.Logged as logs
use Rattle.nx_io.specs.declared.streams.Sink.{Ghosts as SinkGhosts}
use Rattle.line_log.specs.declared.logs.Log.{Ghosts as LogGhosts}
use Rattle.service_commands.proofs.ForCallers.{aside_back, beside, runs_client, runs_service, none_audited, runs_logged, sink_back, sink_of, still_unsent}
use Rattle.nexus_run.specs.Commanded.{RunsCommand}
use Rattle.nexus_run.specs.Commands.{IsServiceCall, IsUnlogged, IsWithin, command_words, core_words, drill_words, serve_words, talk_words}
use Rattle.nexus_run.specs.Runs.{DoesCommand, Handed, Runs, RunsWithLog, Tellers}
use Rattle.nexus_run.specs.declared.commands.Command.{Command}
use Rattle.nexus_run.specs.declared.commands.Command.TheVariants.{Compact, Core, Drill, Script}
use Rattle.nexus_run.proofs.Commanded.{memory_commanded, same_runs}
use Rattle.nexus_run.proofs.FirstWords.{serve_not_plain, serve_not_talk, talk_not_plain, talk_same, told}
use Rattle.nexus_run.proofs.Recordings.{grows_same, not_recorded}
use Rattle.nexus_run.proofs.ServiceAsks.{service_more}
use Rattle.nexus_run.proofs.Words.{serve_same}

-- what holds of what is handed back
pub handed : {K : Type 0} {P Q : K → Type 0} (output : Option K) → ((k : K) → P k → Q k) → HandsBack output P → HandsBack output Q
handed None f p = p
handed (Some k) f p = f k p

module _ {S K C D L P : Type 0} (t : Tellers S K C D L P) (words : List (List ℕ)) (before : Handed S K C D P) (input_now : S) where
  abbrev read : SourceRun
  read = source_run t.source before.input input_now

  -- ---- A service

  module _ (address : List ℕ) (workers sessions : ℕ) (patience : Option ℕ) (recording : Bool) (within : IsService address workers sessions patience) (words_are : words ≡ serve_words address workers sessions patience recording) where
    abbrev plan : Plan
    plan = record { address = address; workers = workers; sessions = sessions; patience = patience_in patience }

    is_service : IsServiceCall words
    is_service = (address, workers, sessions, patience, recording, within, words_are)

    -- the records of a service are its recorder, or kept aside
    pub service_runs : (ended : EndedValue K C D L P) → HasGiven t.source before.input input_now → ended.dialed ≡ None
        → EndsService t.panel plan read (sink_view t.output before.output) (door_view t.door t.link before.door) before.panel (option_map (recorder_view t.records t.recorder) (only_where recording (Some before.records)))
        (ended_view t.output t.records t.recorder t.door t.link ended)
        → Runs t words before input_now (record ended { records = sink_of recording before.records ended.records })
    service_runs ended gave undialed ends =
        let view : C → RecorderView = recorder_view t.records t.recorder in
        let told : EndedView P C = ended_view t.output t.records t.recorder t.door t.link ended in
        let sink : SinkView = sink_view t.output before.output in
        let door : DoorView = door_view t.door t.link before.door in
        let still = still_unsent t.panel plan read sink door before.panel _ told ends in
        let runs = beside view recording before.records ended.records told refl still (λ (recorder : Option RecorderView) (e : EndedView P C). RunsService t.panel plan read sink door before.panel recorder e)
        (runs_service t.panel plan read sink door before.panel _ told ends) in
        record {
          command = record {
            plain = λ other words_too is. absurd (serve_not_plain address workers sessions patience recording other (sym words_are ∙ words_too));
            talk = λ talk other words_too is. absurd (serve_not_talk address workers sessions patience recording talk other (sym words_are ∙ words_too));
            serve = λ a m n p r words_too is.
                let same = serve_same a m n p r address workers sessions patience recording is within (sym words_too ∙ words_are) in
                rw (same.0, same.1, same.2, same.3, same.4) runs;
          };
          grows = record {
            gave = gave;
            sent = λ other. absurd (other is_service);
            recorded = handed (sink_of recording before.records ended.records) (λ r same. grows_same same) (sink_back view recording before.records ended.records told refl still);
            asked = service_more ends;
          };
          alone = record {
            by_core = λ n m is. absurd (serve_not_plain address workers sessions patience recording (Core n m) (sym words_are ∙ is));
            by_drill = λ l m n is. absurd (serve_not_plain address workers sessions patience recording (Drill l m n) (sym words_are ∙ is));
            unwritten = λ other. absurd (other is_service);
            unrecorded = λ other unrecorded. aside_back view recording before.records ended.records told refl still (not_recorded recording within words_are unrecorded);
            door = λ other. absurd (other is_service);
            undialed = λ other. absurd (other is_service);
            panel = λ other_words other. absurd (other is_service);
            dialed = λ other. undialed;
            workers = λ other. absurd (other is_service);
          };
        }

  -- ---- A talk

  pub talk_runs : (input : TalkInput) (address : List ℕ) → IsAddress address → words ≡ talk_words input address → (ended : EndedValue K C D L P) → HasGiven t.source before.input input_now
      → HandsBack ended.output (λ k. Grows (t.output.sent before.output) (t.output.sent k))
      → (ended.dialed ≡ None → (ended.status ≡ 4) ⊎ (ended.status ≡ 6) → HandsBack ended.output (λ k. k ≡ before.output)) → (ended.dialed ≡ None → ended.status ≢ 7 → ended.door ≡ before.door)
      → HandsBack ended.output (λ k. EndsClient input address read (sink_run t.output before.output k) (door_view t.door t.link before.door) (door_view t.door t.link ended.door) (option_map (link_view t.link) ended.dialed) ended.status)
      → (ended.journal ≡ None) × (ended.reports ≡ []) × (ended.doors ≡ []) × (ended.panel ≡ before.panel) × (ended.means ≡ []) × (ended.records ≡ Some before.records)
      → Runs t words before input_now ended
  talk_runs input address is words_are ended gave sent untouched undialed ends unused = record {
    command = record {
      plain = λ other words_too is_too. absurd (talk_not_plain input address other (sym words_are ∙ words_too));
      talk = λ talk other words_too is_too. (let same = talk_same talk input (sym words_too ∙ words_are) in rw (same.0, same.1) (handed ended.output (λ k ends. runs_client ends) ends));
      serve = λ a m n p r words_too is_too. absurd (serve_not_talk a m n p r input address (sym words_too ∙ words_are));
    };
    grows = record {
      gave = gave;
      sent = λ other. sent;
      recorded = subst (λ (o : Option C). HandsBack o (λ r. Grows (t.records.sent before.records) (t.records.sent r))) (sym unused.5) (grows_same refl);
      asked = more_nothing (ap t.panel unused.3);
    };
    alone = record {
      by_core = λ n m words_too. absurd (talk_not_plain input address (Core n m) (sym words_are ∙ words_too));
      by_drill = λ l m n words_too. absurd (talk_not_plain input address (Drill l m n) (sym words_are ∙ words_too));
      unwritten = λ other. untouched;
      unrecorded = λ other unrecorded. subst (λ (o : Option C). HandsBack o (λ r. r ≡ before.records)) (sym unused.5) refl;
      door = λ other quiet. absurd (quiet (input, address, is, words_are));
      undialed = λ other. undialed;
      panel = λ other_words other. (unused.3, unused.0);
      dialed = λ quiet. absurd (quiet (input, address, is, words_are));
      workers = λ other. (unused.1, unused.2, unused.4);
    };
  }

  -- ---- Another command

  -- what is handed back where nobody was dialed and nobody served
  abbrev pub handed_back : ℕ → Option InputRefusal → K → C → Option History → P → EndedValue K C D L P
  handed_back status refusal output records journal panel = record {
    status = status;
    refusal = refusal;
    output = Some output;
    records = Some records;
    journal = journal;
    reports = [];
    dialed = None;
    door = before.door;
    doors = [];
    panel = panel;
    means = [];
  }

  module _ (command : Command) (within : IsWithin command) (words_are : words ≡ command_words command) (status : ℕ) (refusal : Option InputRefusal) (output : K) (records : C) (journal : Option History) (panel : P) where
    -- the words of a load are those of no other command
    is_core : (number steps : ℕ) → words ≡ core_words number steps → (m : ℕ) × (n : ℕ) × (command ≡ Core m n)
    is_core number steps are = told (core_words number steps) command (sym are ∙ words_are)

    is_drill : (number workers calls : ℕ) → words ≡ drill_words number workers calls → (l : ℕ) × (m : ℕ) × (n : ℕ) × (command ≡ Drill l m n)
    is_drill number workers calls are = told (drill_words number workers calls) command (sym are ∙ words_are)

    pub plain_runs : HasGiven t.source before.input input_now → Grows (t.output.sent before.output) (t.output.sent output) → Grows (t.records.sent before.records) (t.records.sent records)
        → (command ≢ Compact → records ≡ before.records) → HasMore (t.panel before.panel) (t.panel panel) → ((status ≡ 4) ⊎ (status ≡ 6) → output ≡ before.output)
        → RunsCommand command read (sink_run t.output before.output output) (sink_run t.records before.records records) (t.output.synced output ≡ length (t.output.sent output)) (panel_run (t.panel before.panel) (t.panel panel)) journal status
        → ((number steps : ℕ) → command ≡ Core number steps → input_now ≡ before.input) → ((number workers calls : ℕ) → command ≡ Drill number workers calls → input_now ≡ before.input)
        → (command ≢ Script → (panel ≡ before.panel) × (journal ≡ None)) → Runs t words before input_now (handed_back status refusal output records journal panel)
    plain_runs gave sent recorded unrecorded asked untouched runs core_unread drill_unread other_panel = record {
      command = record {
        plain = λ other are is. same_runs _ _ _ _ _ _ _ command other within is (sym words_are ∙ are) runs;
        talk = λ talk address are is. absurd (talk_not_plain talk address command (sym are ∙ words_are));
        serve = λ a m n p r are is. absurd (serve_not_plain a m n p r command (sym are ∙ words_are));
      };
      grows = record { gave = gave; sent = λ other. sent; recorded = recorded; asked = asked };
      alone = record {
        by_core = λ n m are. (let is = is_core n m are in core_unread is.0 is.1 is.2);
        by_drill = λ l m n are. (let is = is_drill l m n are in drill_unread is.0 is.1 is.2 is.3);
        unwritten = λ other none. untouched;
        unrecorded = λ other plain. unrecorded (λ is. other (words_are ∙ ap command_words is));
        door = λ other quiet. refl;
        undialed = λ other none status. refl;
        panel = λ other_words other. other_panel (λ is. other_words (words_are ∙ ap command_words is));
        dialed = λ quiet. refl;
        workers = λ other. (refl, refl, refl);
      };
    }

-- ---- Where nothing was done

module _ {S K C D L P : Type 0} (t : Tellers S K C D L P) (words : List (List ℕ)) (before : Handed S K C D P) where
  abbrev pub all_back : ℕ → EndedValue K C D L P
  all_back status = handed_back t words before before.input status None before.output before.records None before.panel

  idle : (status : ℕ) → DoesCommand t words before before.input (all_back status) → Runs t words before before.input (all_back status)
  idle status command = record {
    command = command;
    grows = record {
      gave = gave-nothing (t.source.left before.input) (t.source.given before.input);
      sent = λ other. grows-nothing (t.output.sent before.output);
      recorded = grows-nothing (t.records.sent before.records);
      asked = more_nothing refl;
    };
    alone = record {
      by_core = λ n m is. refl;
      by_drill = λ l m n is. refl;
      unwritten = λ other none failed. refl;
      unrecorded = λ other plain. refl;
      door = λ other quiet. refl;
      undialed = λ other none status. refl;
      panel = λ other_words other. (refl, refl);
      dialed = λ quiet. refl;
      workers = λ other. (refl, refl, refl);
    };
  }

  -- a call of no command, which is read no further
  pub none_runs : (status : ℕ) → ¬ IsUnlogged words → Runs t words before before.input (all_back status)
  none_runs status none = idle status (record {
    plain = λ command are is. absurd (none (inl (command, is, are)));
    talk = λ talk address are is. absurd (none (inr (inr (talk, address, is, are))));
    serve = λ a m n p r are is. absurd (none (inr (inl (a, m, n, p, r, is, are))));
  })

  -- one that found no memory, whatever its words
  pub no_memory_runs : Runs t words before before.input (all_back 6)
  no_memory_runs = idle 6 (record {
    plain = λ command are is. memory_commanded _ _ _ _ _ _ refl refl (gained-nothing (t.output.sent before.output)) refl refl (gained-nothing (t.records.sent before.records)) refl command;
    talk = λ talk address is address_is. runs_client (talks.undialed refl refl (no_memory refl (gained-nothing (t.output.sent before.output)) refl refl));
    serve = λ a m n p r is within. runs_service t.panel _ _ _ _ _ _ _ (service.unbegun (sink_view t.output before.output) (unbegun r) refl (grows-nothing (t.output.sent before.output)) (λ failed. refl) (no_memory refl (gained-nothing (t.output.sent before.output)) refl refl));
  })
    where
      unbegun : (recorded : Bool) → IsUnbegun (door_view t.door t.link before.door) before.panel (only_where recorded (Some (recorder_view t.records t.recorder before.records)))
          (record (ended_view t.output t.records t.recorder t.door t.link (all_back 6)) { recorder = only_where recorded (Some (recorder_view t.records t.recorder before.records)) })
      unbegun recorded = record { journal = refl; reports = refl; door_is = refl; doors = refl; panel_is = refl; recorder_is = refl; means = refl }

  -- and so it is of a service with a log
  pub no_memory_logged : {J : Type 0} (sink : SinkGhosts J) (teller : LogGhosts J) (log : J) → RunsWithLog t sink teller words before log before.input (all_back 6) (Some log)
  no_memory_logged sink teller log a m n p r x are within is = record {
    runs = runs_logged t.panel _ _ _ _ _ _ _ _ _ (logs.unbegun (unbegun r) refl (grows-nothing (t.output.sent before.output)) (λ failed. refl) (no_memory refl (gained-nothing (t.output.sent before.output)) refl refl));
    gave = gave-nothing (t.source.left before.input) (t.source.given before.input);
    asked = more_nothing refl;
    recorded_grows = grows-nothing (t.records.sent before.records);
    unrecorded = λ un. refl;
    undialed = refl;
    audited = none_audited {P = P} {C = C} _ _ _ [] refl;
  }
    where
      unbegun : (recorded : Bool) → IsUnbegun (door_view t.door t.link before.door) before.panel (only_where recorded (Some (recorder_view t.records t.recorder before.records)))
          (record (ended_view t.output t.records t.recorder t.door t.link (all_back 6)) { output = Some (sink_view sink log); recorder = only_where recorded (Some (recorder_view t.records t.recorder before.records)) })
      unbegun recorded = record { journal = refl; reports = refl; door_is = refl; doors = refl; panel_is = refl; recorder_is = refl; means = refl }
