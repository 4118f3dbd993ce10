-- How the ends of a run of `serve` come from those of its parts.
use Rattle.std.specs.Prelude.{◌-◌, ◌^◌, IfOk, Result, map, min, take}
use Rattle.std.specs.declared.alloc.AllocError.{AllocError}
use Rattle.std.proofs.Common.{◌≡◌, ◌≢◌, ◌==◌, ◌⊎◌, ◌+◌, ◌++◌, cond, inl, inr, ℕ, Bool, true, false, List, [], ◌∷◌, length, Option, None, Some, IsTrue, refl, sym, ap, subst, ◌∙◌, arith}
use Rattle.std.proofs.lemmas.Bool.Decides.{Decides-eqb}
use Rattle.std.proofs.lemmas.List.Sums.{sum_by-append, sum_by-cons}
use Rattle.std.specs.Io.KnownBytes.{IsAtEnd}
use Rattle.std.specs.List.{count_by}
use Rattle.nx_io.specs.DoorCalls.{Listening, faults_in, is_fault, not_listened, not_shared}
use Rattle.nx_io.specs.Streams.{Rose, prepended}
use Rattle.policy_history.specs.declared.events.Entry.{Entry}
use Rattle.policy_history.specs.declared.heads.Head.{Head}
use Rattle.policy_history.specs.Events.{EntryTree}
use Rattle.policy_history.specs.Values.{entry_trees}
use Rattle.journal_text.specs.PolicyFronts.{IsFront, IsFrontError, wrong, above}
use Rattle.journal_text.specs.PolicyText.{formless, refusal}
use Rattle.journal_text.specs.declared.policy_reader.PolicyError.TheVariants.{Bad as BadLine, Refused as RefusedLine}
use Rattle.nexus_serve.specs.declared.closing.ServeEnd.{ServeEnd}
use Rattle.nexus_serve.specs.declared.closing.ServeEnd.TheVariants.{Done, DoorFault, Memory, NoRoom}
use Rattle.authority_ask.specs.PanelCalls.{PanelHistory}
use Rattle.authority_ask.specs.PanelCalls as panels
use Rattle.session_core.specs.Reaching.{reached_at}
use Rattle.nexus_serve.specs.declared.means.Means.{Means}
use Rattle.nexus_serve.specs.Means.{means_history}
use Rattle.nx_io.specs.Views.{DoorView, RecorderView, SinkView}
use Rattle.nexus_serve.specs.Services.{IsTextSent, Serves, whole as text_whole, line_cut, end_cut, done, unopened, no_memory as nothing_served}
use Rattle.nexus_serve.specs.Hosting.{AreReady, HasFailed, HasFailedPanel, HasFailedToLend, HasLent, HasNoneToLend, Hosts, IsHeld, Plan, no_door, no_lists, no_panel, no_recorder, not_heard, not_made, not_reached, panel_calls, ready_calls, served, some_cut_off, status_of, unheard, unlent, unreached, unready, unshared}
use Rattle.run_streams.specs.Runs.{SourceRun}
use Rattle.run_streams.proofs.ForCallers.{apart, not_refused, read_whole, unanswered_memory, unanswered_refuses}
use Rattle.input_flaws.specs.PolicyFlaws.{IsFrontFlaw}
use Rattle.input_flaws.proofs.ForCallers.{each_flaw}
use Rattle.run_streams.specs.Flaws.{flaw_tree}
use Rattle.run_streams.specs.declared.flaws.Flaw.{Flaw}
use Rattle.service_commands.specs.declared.service.PolicyTextError.{PolicyTextError}
use Rattle.service_commands.specs.declared.service.PolicyTextError.TheVariants.{Wrong as WrongText, Memory as TextMemory}
use Rattle.run_streams.specs.Refusals.{RefusesExactly}
use Rattle.service_commands.specs.Inner.ServiceEnds.{IsWrongText}
use Rattle.service_commands.specs.Services.{EndedView, EndsService, HandsBack, HasFailedToRecord, IsCompleteService, IsPolicy, IsPolicyOf, IsServedWhole, IsUnserved, IsWrongPolicy, RunsService, hosted, hosted_of, in_policy, most_session, policy_form, sink_between, unbegun}

-- a count over more calls rose where one of these failed
more_faults : {Call : Type 0} (fails : Call → Bool) (calls more : List Call) (last : Call) → fails last ≡ true
    → Rose (min (count_by fails calls) (2 ^ 64 - 1)) (min (count_by fails (calls ++ (more ++ last ∷ []))) (2 ^ 64 - 1))
more_faults fails calls more last is =
    let one : count_by fails (last ∷ []) ≡ 1 = sum_by-cons (λ c. cond (fails c) 1 0) last [] ∙ ap (λ b. cond b 1 0 + 0) is in
    let rest : count_by fails (more ++ last ∷ []) ≡ count_by fails more + count_by fails (last ∷ []) = sum_by-append (λ c. cond (fails c) 1 0) more (last ∷ []) in
    let all : count_by fails (calls ++ (more ++ last ∷ [])) ≡ count_by fails calls + count_by fails (more ++ last ∷ []) = sum_by-append (λ c. cond (fails c) 1 0) calls (more ++ last ∷ []) in
    omega (arith, all, rest, one)

-- a door that could not be made ready has failed
door_rose : {listening : Listening} {workers shares : ℕ} {door door_now : DoorView} → HasFailed listening workers shares door door_now → Rose (faults_in door.calls) (faults_in door_now.calls)
door_rose {listening = listening} {door = door} (not_heard none called) =
    subst (λ (d : DoorView). Rose (faults_in door.calls) (faults_in d.calls)) (sym called) (more_faults is_fault door.calls [] (not_listened listening) refl)
door_rose {listening = listening} {shares = shares} {door = door} (not_made few called) =
    subst (λ (d : DoorView). Rose (faults_in door.calls) (faults_in d.calls)) (sym called) (more_faults is_fault door.calls (ready_calls listening shares) not_shared refl)

-- and so has a panel
panel_rose : {head : Head} {workers shares : ℕ} {asked asked_now : PanelHistory} → HasFailedPanel head workers shares asked asked_now
    → Rose (panels.faults_in asked.calls) (panels.faults_in asked_now.calls)
panel_rose {head = head} {asked = asked} (not_reached none (count, a, is, called)) =
    subst (λ (p : PanelHistory). Rose (panels.faults_in asked.calls) (panels.faults_in p.calls)) (sym called)
    (more_faults panels.is_fault asked.calls (map reached_at (take count head.authorities)) (panels.not_reached a.port a.address) refl)
panel_rose {head = head} {shares = shares} {asked = asked} (unshared few called) =
    subst (λ (p : PanelHistory). Rose (panels.faults_in asked.calls) (panels.faults_in p.calls)) (sym called)
    (more_faults panels.is_fault asked.calls (panel_calls head shares) panels.not_shared refl)

-- and a recorder
recorder_rose : (workers lent : ℕ) (recorder recorder_now : Option RecorderView) → HasFailedToLend workers lent recorder recorder_now → HasFailedToRecord recorder recorder_now
recorder_rose workers lent None recorder_now failed = absurd failed
recorder_rose workers lent (Some recorder) recorder_now (few, is) = subst (HasFailedToRecord (Some recorder)) (sym is) (omega arith)

-- ---- The input

pub bad_line : (most : ℕ) (text : List ℕ) (k : ℕ) → IsFrontError most text (BadLine k) → IsWrongPolicy most text k
bad_line most text k (inl w) = in_policy (wrong formless w)
bad_line most text k (inr w) = in_policy (above w)

pub refused_line : (most : ℕ) (text : List ℕ) (k number : ℕ) → IsFrontError most text (RefusedLine k number) → IsWrongPolicy most text k
refused_line most text k number w = in_policy (wrong (refusal w.0) w.2)

pub nothing_left : (rest : List ℕ) → (length rest == 0) ≡ true → rest ≡ []
nothing_left [] e = refl
nothing_left (x ∷ xs) e = let none = (Decides-eqb (length (x ∷ xs)) 0).0 e in absurd (omega (arith, none))

pub something_left : (rest : List ℕ) → (length rest == 0) ≡ false → rest ≢ []
something_left rest e none = let is = (Decides-eqb (length rest) 0).1 (ap length none) in absurd (cc (is, e))

-- a policy that is followed by something is none that is followed by nothing
pub none_followed : (most : ℕ) (text : List ℕ) (h : Head) (es : List EntryTree) (n : ℕ) (rest : List ℕ)
    → ((h_too : Head) (es_too : List EntryTree) (m : ℕ) (rest_too : List ℕ) → IsFront most text h_too es_too m rest_too → (h_too ≡ h) × (es_too ≡ es) × (m ≡ n) × (rest_too ≡ rest))
    → rest ≢ [] → (h_too : Head) (es_too : List EntryTree) → IsPolicy most text h_too es_too → ⊥
none_followed most text h es n rest only some h_too es_too (small, (m, front)) = some (sym (only h_too es_too m [] front).3)

pub policy_given : (source : SourceRun) (left_now : Option (List ℕ)) (most : ℕ) (h : Head) (es : List EntryTree) (bytes : List ℕ) → source.known ≡ prepended source.given left_now → source.given ≡ bytes
    → IsTrue source.over → IsAtEnd left_now → IsPolicy most bytes h es → IsPolicyOf source most h es
policy_given source left_now most h es bytes taken same over end form =
    record { form = subst (λ (b : List ℕ). IsPolicy most b h es) (sym same) form; whole = read_whole source left_now taken over end }

-- a text in which a line is wrong, and what was told of it
pub wrong_told : (most : ℕ) (text : List ℕ) (error : PolicyTextError) (k : ℕ) (told : Result Flaw AllocError) → error ≡ WrongText k → IsWrongText most text error
    → IfOk told (λ flaw. IsFrontFlaw most text text k (flaw_tree flaw)) → IfOk told (λ flaw. (policy_form most).wrong text k (flaw_tree flaw))
wrong_told most text error k told e w is = each_flaw told (λ flaw at. (subst (IsWrongText most text) e w, at)) is

pub no_policy : (most : ℕ) (text : List ℕ) (error : PolicyTextError) (k : ℕ) → error ≡ WrongText k → (error ≢ TextMemory → (h : Head) (es : List EntryTree) → ¬ IsPolicy most text h es)
    → ¬ (policy_form most).formed text
no_policy most text error k e no_form = λ has. no_form (λ m. cc (sym e ∙ m)) has.0 has.1 has.2

-- ---- The statuses of a service

memory_status : (written cut_off : Bool) → status_of written Memory cut_off ≡ 6
memory_status true cut_off = refl
memory_status false cut_off = refl

never_three : (written : Bool) (end : ServeEnd) (cut_off : Bool) → status_of written end cut_off ≡ 3 → ⊥
never_three true Done true e = apart (status_of true Done true) 5 3 refl e refl
never_three true Done false e = apart (status_of true Done false) 0 3 refl e refl
never_three true DoorFault cut_off e = apart (status_of true DoorFault cut_off) 7 3 refl e refl
never_three true NoRoom cut_off e = apart (status_of true NoRoom cut_off) 6 3 refl e refl
never_three true Memory cut_off e = apart (status_of true Memory cut_off) 6 3 refl e refl
never_three false Done cut_off e = apart (status_of false Done cut_off) 5 3 refl e refl
never_three false DoorFault cut_off e = apart (status_of false DoorFault cut_off) 5 3 refl e refl
never_three false NoRoom cut_off e = apart (status_of false NoRoom cut_off) 5 3 refl e refl
never_three false Memory cut_off e = apart (status_of false Memory cut_off) 6 3 refl e refl

-- ---- The recorder

-- where there was a recorder, there is one that was sent no more itself
abbrev pub IsStillUnsent : Option RecorderView → Option RecorderView → Type 0
IsStillUnsent None recorder_now = recorder_now ≡ None
IsStillUnsent (Some recorder) recorder_now = HandsBack recorder_now (λ (r : RecorderView). r.sent ≡ recorder.sent)

pub unsent_same : (recorder recorder_now : Option RecorderView) → recorder_now ≡ recorder → IsStillUnsent recorder recorder_now
unsent_same None recorder_now same = same
unsent_same (Some recorder) recorder_now same = subst (IsStillUnsent (Some recorder)) (sym same) refl

unsent_lent : (lent : ℕ) (recorder recorder_now : Option RecorderView) → HasLent lent recorder recorder_now → IsStillUnsent recorder recorder_now
unsent_lent lent None recorder_now same = same
unsent_lent lent (Some recorder) recorder_now is = subst (IsStillUnsent (Some recorder)) (sym is) refl

unsent_failed : (workers lent : ℕ) (recorder recorder_now : Option RecorderView) → HasFailedToLend workers lent recorder recorder_now → IsStillUnsent recorder recorder_now
unsent_failed workers lent None recorder_now failed = absurd failed
unsent_failed workers lent (Some recorder) recorder_now (few, is) = subst (IsStillUnsent (Some recorder)) (sym is) refl

unsent_none : (workers lent : ℕ) (recorder recorder_now : Option RecorderView) → HasNoneToLend workers lent recorder recorder_now → IsStillUnsent recorder recorder_now
unsent_none workers lent None recorder_now failed = absurd failed
unsent_none workers lent (Some recorder) recorder_now (few, is) = subst (IsStillUnsent (Some recorder)) (sym is) refl

unsent_held : {plan : Plan} {h : Head} {doors shares lent : ℕ} {door door_now : DoorView} {asked asked_now : PanelHistory} (recorder recorder_now : Option RecorderView)
    → IsHeld plan h doors shares lent door door_now asked asked_now recorder recorder_now → IsStillUnsent recorder recorder_now
unsent_held recorder recorder_now (no_lists none none_too none_lent same called recorder_is) = unsent_same recorder recorder_now recorder_is
unsent_held recorder recorder_now (no_panel none few none_lent same called recorder_is) = unsent_same recorder recorder_now recorder_is
unsent_held recorder recorder_now (no_recorder none all same called held) = unsent_none _ _ recorder recorder_now held
unsent_held recorder recorder_now (no_door few all all_lent called_door called lent) = unsent_lent _ recorder recorder_now lent

-- ---- The run

module _ {P C : Type 0} (panel : P → PanelHistory) (plan : Plan) (source : SourceRun) (sink : SinkView) (door : DoorView) (asked : P) (recorder : Option RecorderView) (ended : EndedView P C) where
  module _ (unfailed : (sink_now : SinkView) → ended.output ≡ Some sink_now → Rose sink.faults sink_now.faults → ⊥) (head : Head) (opening : List Entry) (written : Bool) (end : ServeEnd)
      (policy : IsPolicyOf source (most_session plan) head (entry_trees opening)) (doors : List DoorView) (means : List (Means P C))
      (ready : AreReady panel plan head door ended.door (panel asked) (panel ended.panel) recorder ended.recorder doors means) (status : ended.status ≡ status_of written end (some_cut_off ended.means)) where
    served_whole : written ≡ true → Serves (means_history panel) plan.sessions head opening sink doors means (hosted_of ended written end).served → IsServedWhole panel plan source sink door asked recorder ended
    served_whole is serves = record {
      head = head;
      opening = opening;
      end = end;
      doors = doors;
      means = means;
      policy = policy;
      ready = ready;
      serves = subst (λ w. Serves (means_history panel) plan.sessions head opening sink doors means (hosted_of ended w end).served) is serves;
      status = status ∙ ap (λ w. status_of w end (some_cut_off ended.means)) is;
    }

    had_no_memory : end ≡ Memory → ended.status ≡ 6
    had_no_memory is = status ∙ ap (λ e. status_of written e (some_cut_off ended.means)) is ∙ memory_status written (some_cut_off ended.means)

    is_written : (h : Head) (es : List EntryTree) (sink_now : SinkView) → ended.output ≡ Some sink_now → IsTextSent h es written sink.sent sink.faults sink_now → written ≡ true
    is_written h es sink_now output (text_whole is sent synced still) = is
    is_written h es sink_now output (line_cut entry un accepted cut rose) = absurd (unfailed sink_now output rose)
    is_written h es sink_now output (end_cut un cut rose) = absurd (unfailed sink_now output rose)

    complete_serves : Serves (means_history panel) plan.sessions head opening sink doors means (hosted_of ended written end).served → IsUnserved sink ended ⊎ IsServedWhole panel plan source sink door asked recorder ended
    complete_serves (done es sink_now journal output serves text lasts) = inr (served_whole (is_written head (entry_trees es) sink_now output text) (done es sink_now journal output serves text lasts))
    complete_serves (unopened sink_now journal output cut rose reports ds ps un e) = absurd (unfailed sink_now output rose)
    complete_serves (nothing_served journal output reports ds ps un e) = inl (record { status = had_no_memory e; reports = reports; output = output })

  pub complete_hosts : ((sink_now : SinkView) → ended.output ≡ Some sink_now → Rose sink.faults sink_now.faults → ⊥) → (Rose (faults_in door.calls) (faults_in ended.door.calls) → ⊥) → (Rose (panels.faults_in (panel asked).calls) (panels.faults_in (panel ended.panel).calls) → ⊥)
      → (HasFailedToRecord recorder ended.recorder → ⊥)
      → (head : Head) (opening : List Entry) (written : Bool) (end : ServeEnd) → IsPolicyOf source (most_session plan) head (entry_trees opening)
      → Hosts panel plan head opening sink door asked recorder (hosted_of ended written end) → IsUnserved sink ended ⊎ IsServedWhole panel plan source sink door asked recorder ended
  complete_hosts sunk shut down kept head opening written end policy (served ds own ready serves status) = complete_serves sunk head opening written end policy ds own ready status serves
  complete_hosts sunk shut down kept head opening written end policy (unreached status idle same none failed still) = absurd (down (panel_rose failed))
  complete_hosts sunk shut down kept head opening written end policy (unlent lent status idle same none count called failed) = absurd (kept (recorder_rose plan.workers lent recorder ended.recorder failed))
  complete_hosts sunk shut down kept head opening written end policy (unheard status idle count called lent failed) = absurd (shut (door_rose failed))
  complete_hosts sunk shut down kept head opening written end policy (unready lent status idle held) = inl (record { status = status; reports = idle.reports; output = idle.sink_is })

  complete : EndsService panel plan source sink door asked recorder ended → IsCompleteService panel plan source sink door asked recorder ended
  complete (hosted h es written end policy still hosts) = λ p q r s t form. complete_hosts q r s t h es written end policy hosts
  complete (unbegun sink_now idle output grows kept ends) = λ p q u v t form.
      let six = unanswered_memory (policy_form (most_session plan)) source (sink_between sink sink_now) ended.status ends p (q sink_now output) form in
      inl (record { status = six; reports = idle.reports; output = output ∙ ap Some (kept (inr six)) })

  pub not_three : (h : Head) (opening : List Entry) (written : Bool) (end : ServeEnd) → Hosts panel plan h opening sink door asked recorder (hosted_of ended written end) → ended.status ≡ 3 → ⊥
  not_three h opening written end (served ds own ready serves status) e = never_three written end (some_cut_off ended.means) (sym status ∙ e)
  not_three h opening written end (unreached status idle same none failed still) e = apart ended.status 8 3 status e refl
  not_three h opening written end (unlent lent status idle same none count called failed) e = apart ended.status 5 3 status e refl
  not_three h opening written end (unheard status idle count called lent failed) e = apart ended.status 7 3 status e refl
  not_three h opening written end (unready lent status idle held) e = apart ended.status 6 3 status e refl

  refuses : EndsService panel plan source sink door asked recorder ended → RefusesExactly (policy_form (most_session plan)) source ended.status
  refuses (hosted h opening written end policy still hosts) = λ x y z.
      ((λ three. absurd (not_three h opening written end hosts three)), λ r. absurd (not_refused (policy_form (most_session plan)) source.given policy.form.0 (h, entry_trees opening, policy.form) r))
  refuses (unbegun sink_now idle output grows kept ends) = unanswered_refuses (policy_form (most_session plan)) source (sink_between sink sink_now) ended.status ends

  -- a policy that was read is not refused
  pub read_not_refused : (h : Head) (es : List EntryTree) → IsPolicyOf source (most_session plan) h es → EndsService panel plan source sink door asked recorder ended → ended.status ≢ 3
  read_not_refused h es policy e three =
      let exactly = refuses e (λ four. apart ended.status 3 4 three four refl) (λ five. apart ended.status 3 5 three five refl) (λ six. apart ended.status 3 6 three six refl) in
      not_refused (policy_form (most_session plan)) source.given policy.form.0 (h, es, policy.form) (exactly.0 three)

  -- what ends a run of `serve` is a run of `serve`
  pub runs_service : EndsService panel plan source sink door asked recorder ended → RunsService panel plan source sink door asked recorder ended
  runs_service e = record { ends = e; complete = complete e; refuses = refuses e }

  pub unsent_hosts : (h : Head) (opening : List Entry) (written : Bool) (end : ServeEnd) → Hosts panel plan h opening sink door asked recorder (hosted_of ended written end)
      → IsStillUnsent recorder ended.recorder
  unsent_hosts h opening written end (served ds own ready serves status) = unsent_lent plan.workers recorder ended.recorder ready.lent
  unsent_hosts h opening written end (unreached status idle same none failed still) = unsent_same recorder ended.recorder still
  unsent_hosts h opening written end (unlent lent status idle same none count called failed) = unsent_failed plan.workers lent recorder ended.recorder failed
  unsent_hosts h opening written end (unheard status idle count called lent failed) = unsent_lent plan.workers recorder ended.recorder lent
  unsent_hosts h opening written end (unready lent status idle held) = unsent_held recorder ended.recorder held

  -- a recorder is handed back, and was sent no more itself
  pub still_unsent : EndsService panel plan source sink door asked recorder ended → IsStillUnsent recorder ended.recorder
  still_unsent (hosted h opening written end policy still hosts) = unsent_hosts h opening written end hosts
  still_unsent (unbegun sink_now idle output grows kept ends) = unsent_same recorder ended.recorder idle.recorder_is
