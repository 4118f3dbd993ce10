-- What a list of steps leaves.
use Rattle.std.proofs.Common.{◌≡◌, ◌<◌, ℕ, List, [], ◌++◌, length, sym, ap, ◌∙◌, subst}
use Rattle.std.specs.List.{All}
use Rattle.policy_history.specs.declared.heads.Head.{Head}
use Rattle.policy_history.specs.Events.{EntryTree}
use Rattle.policy_history.specs.Values.{History, entry_trees}
use Rattle.cache_machine.specs.declared.steps.Outcome.{Outcome}
use Rattle.cache_machine.specs.declared.steps.Told.{Told}
use Rattle.cache_machine.specs.States.{MachineState}
use Rattle.cache_machine.specs.Moves.{StepTree}
use Rattle.cache_machine.specs.Runs.{Happened, IsRun, entries_of, idle_over, own, told_of}
use Rattle.cache_machine.specs.Justified.{IsJustified}
use Rattle.cache_machine.specs.Machines.{AreTakenAs, IsOutcomeAs, MachineValue, first_state, state_in}
use Rattle.cache_machine.proofs.Justifying.{first_linked, justified_run, own_run, run_entries, run_head}
use Rattle.cache_machine.proofs.Running.{itself}
use Rattle.cache_machine.proofs.Starting.{first_worded}

-- what is left by steps from the start of a machine
pub outcome_of : (h : Head) (es : List EntryTree) (ps : List ℕ) (old new : MachineValue) (steps : List StepTree) (xs : List Happened) (outcome : Outcome) → All (λ p. p < length h.principals) ps
    → state_in old ≡ first_state h es ps → old.told ≡ [] → old.idle ≡ 0 → AreTakenAs old steps xs new
    → outcome.journal ≡ new.world.journal → outcome.told ≡ new.told → outcome.idle ≡ new.idle → IsOutcomeAs (first_state h es ps) steps xs outcome
outcome_of h es ps old new steps xs outcome below start_is none zero_is taken journal told idle_is =
    let start = first_state h es ps in
    let end = state_in new in
    let run : IsRun start steps xs end = subst (λ (s : MachineState). IsRun s steps xs end) start_is taken.run in
    let head : outcome.journal.head ≡ end.head = ap (λ (j : History). j.head) journal in
    let end_is : entry_trees outcome.journal.entries ≡ end.entries = ap (λ (j : History). entry_trees j.entries) journal in
    let entries : entry_trees outcome.journal.entries ≡ es ++ entries_of start.actors xs = end_is ∙ run_entries start.actors start steps xs end run (itself start.actors) in
    record {
      end = end;
      run = run;
      head = head ∙ run_head start steps xs end run;
      end_is = end_is;
      entries = entries;
      own_entries = λ a y at. ap (own y.session) entries ∙ own_run h es ps xs a y at;
      told = told ∙ taken.told ∙ ap (λ (ts : List Told). ts ++ told_of xs) none;
      idle = idle_is ∙ taken.idle ∙ ap (idle_over xs) zero_is;
      justified = subst (λ (zs : List EntryTree). IsJustified h zs start.actors xs) (sym end_is) (justified_run start steps xs end run (first_worded h es ps below) (first_linked h es ps));
    }
