-- A service that has finished.
use Rattle.std.proofs.Common.{◌≡◌, ◌⊎◌, inl, inr, ◌<◌, ◌≤◌, ◌+◌, ◌*◌, ℕ, Bool, true, false, List, [], ◌∷◌, ◌++◌, length, take, drop, filter, refl, sym, ap, ◌∙◌, subst, arith, append_assoc, length-append}
use Rattle.std.proofs.Math.Seq.{drop-append_seam}
use Rattle.std.proofs.lemmas.List.Elements.{All-append, All-cons, All-map, All-nil, All-weaker, Contains-append_right}
use Rattle.std.specs.Prelude.{All, Contains, map, not, ◌==◌}
use Rattle.std.proofs.lemmas.List.{append-nil}
use Rattle.std.proofs.lemmas.Bool.{ne_eqb, eq-eqb}
use mathlib.Core.Logic.{dite}
use native.Mathlib.Decide.{ℕ_discrete}
use Rattle.nexus_serve.specs.Means.{MeansHistory}
use Rattle.nx_io.specs.Streams.{Rose}
use Rattle.policy_history.specs.declared.events.Entry.{Entry}
use Rattle.policy_history.specs.declared.heads.Head.{Head}
use Rattle.policy_history.specs.Values.{entry_trees, greatest_of}
use Rattle.verdict_words.specs.Histories.{EachFrom, own}
use Rattle.verdict_words.specs.Orders.{found_told, told_of, trail_steps}
use Rattle.verdict_words.specs.Rule.{last_met}
use Rattle.verdict_words.specs.declared.views.AtomicStep.{AtomicStep}
use Rattle.verdict_words.proofs.ForCallers.{trail_steps_snoc}
use Rattle.verdict_words.specs.Settling.{all_of}
use Rattle.verdict_words.specs.Values.{Identity, PassValue}
use Rattle.verdict_words.specs.declared.views.Item.TheVariants.{Met}
use Rattle.policy_book.specs.Books.{BookValue, IsMetIn, session_of}
use Rattle.session_core.specs.ToldLaws.{NotedStaysNoted}
use Rattle.nexus_serve.specs.declared.closing.ServeEnd.{ServeEnd}
use Rattle.nexus_serve.specs.declared.closing.ServeEnd.TheVariants.{Done, DoorFault, NoRoom}
use Rattle.nexus_serve.specs.Views.{ReportView}
use Rattle.nexus_serve.specs.Workers.{HaveWorked, SomeCutShort, SomeFailed}
use Rattle.nexus_serve.specs.Services.{HasSeenAll, HaveOneOrder, IsServed, ServedView, Serves, done, sessions_of}
use Rattle.nexus_serve.specs.Inner.Gathering.{gathered_all, nothing, pass_of}
use Rattle.nexus_serve.specs.Inner.Joining.{IsMetBy, met_report, reports_of, unused_of}
use Rattle.nexus_serve.specs.Inner.Reporting.{IsReported}
use Rattle.nexus_serve.specs.Inner.Serving.{AreDone, doors_of, means_of}
use Rattle.nexus_serve.specs.Inner.Working.{IsUnused, WorkerValue, end_of}
use Rattle.nexus_serve.proofs.Gathering.{all_gathered, doors_gathered, means_gathered, reports_gathered, some_failed, some_short, tells_all}
use Rattle.nexus_serve.proofs.Joining.{have_worked, of_reports, works_same}
use Rattle.nexus_serve.proofs.Lists.{all_both, all_filter, all_left, all_right, all_unfilter, all_unmap, contains_unfilter}
use Rattle.nexus_serve.proofs.Seeing.{own_within}

same_sessions : (board : Identity Entry Head) (es : List Entry) (known : List AtomicStep) (reports : List ReportView) → sessions_of (map (met_report board es known) reports) ≡ sessions_of reports
same_sessions board es known [] = refl
same_sessions board es known (r ∷ rs) = ap (λ l. r.session ∷ l) (same_sessions board es known rs)

-- the passes of all workers are as they were made where they were not used
all_unused : {M : Type 0} (history : M → MeansHistory) (board : Identity Entry Head) (first most : ℕ) (hired workers : List (WorkerValue M)) → AreDone history board first most hired workers → All (IsUnused board) (unused_of workers)
all_unused history board first most [] [] stopped = All-nil (IsUnused board)
all_unused history board first most (j ∷ js) (w ∷ ws) (hired, stopped, others) = All-append (IsUnused board) w.passes (unused_of ws) stopped.unused (all_unused history board (first + most) most js ws others)
all_unused history board first most [] (w ∷ ws) stopped = absurd stopped
all_unused history board first most (j ∷ js) [] stopped = absurd stopped

-- a report's session is that of its pass
all_same : {M : Type 0} (history : M → MeansHistory) (board : Identity Entry Head) (first most : ℕ) (hired workers : List (WorkerValue M)) → AreDone history board first most hired workers → All (λ (report : ReportView). report.pass.session ≡ report.session) (reports_of workers)
all_same history board first most [] [] stopped = All-nil (λ (report : ReportView). report.pass.session ≡ report.session)
all_same history board first most (j ∷ js) (w ∷ ws) (hired, stopped, others) = All-append (λ (report : ReportView). report.pass.session ≡ report.session) w.reports (reports_of ws) (works_same stopped.worked.works) (all_same history board (first + most) most js ws others)
all_same history board first most [] (w ∷ ws) stopped = absurd stopped
all_same history board first most (j ∷ js) [] stopped = absurd stopped

-- of a list that is a front and a rest, each of the rest has what is known of each behind the front
all_behind : {E : Type 0} (P : E → Type 0) (low : ℕ) (whole front rest : List E) → whole ≡ front ++ rest → low ≤ length front → EachFrom low whole (λ before e. P e) → All P rest
all_behind P low whole front [] is long each = All-nil P
all_behind P low whole front (e ∷ rest) is long each =
    let grown = length-append front (e ∷ []) in
    All-cons P e rest (each front e rest is long) (all_behind P low whole (front ++ e ∷ []) rest (is ∙ sym (append_assoc front (e ∷ []) rest)) (omega (arith, long, grown)) each)

module _ {K M : Type 0} (history : M → MeansHistory) (stays : NotedStaysNoted) (book : BookValue K) (synced : ℕ) (served : ServedView M) (most : ℕ) (hired workers : List (WorkerValue M)) (places : ℕ)
    (are_done : AreDone history book.board book.board.origin.first most hired workers) (all_numbers : book.next ≡ book.board.origin.first + length workers * most)
    (reported : IsReported book (gathered_all (nothing places) workers) served) (total : ℕ) (is_counted : All (λ (worker : WorkerValue M). worker.unrecorded ≤ total) workers) (is_failed : 0 < total → book.is_broken ≡ true) (first_is : book.board.origin.first ≡ greatest_of (entry_trees book.board.origin.opening) + 1) where
  abbrev board : Identity Entry Head
  board = book.board

  abbrev es : List Entry
  es = book.entries

  abbrev known : List AtomicStep
  known = reported.known

  abbrev reports : List ReportView
  reports = reports_of workers

  abbrev unused : List (PassValue Entry Head)
  unused = unused_of workers

  passes : all_of (gathered_all (nothing places) workers).used (gathered_all (nothing places) workers).unused ≡ map pass_of reports ++ unused
  passes = all_gathered places workers

  handed : served.reports ≡ map (met_report board es known) reports
  handed = reported.reports ∙ reports_gathered board es known places workers

  met : All (IsMetIn book) (map pass_of reports ++ unused)
  met = subst (All (IsMetIn book)) passes reported.met

  met_reports : All (λ (report : ReportView). IsMetIn book report.pass) reports
  met_reports = all_unmap (IsMetIn book) pass_of reports (all_left (IsMetIn book) (map pass_of reports) unused met)

  met_by : All (λ (report : ReportView). IsMetBy es report.pass) reports
  met_by = All-weaker (λ (report : ReportView). IsMetIn book report.pass) (λ (report : ReportView). IsMetBy es report.pass) (λ report is. record { seen = is.seen; own_is = is.own_met }) reports met_reports

  seen_all : (report : ReportView) → IsMetBy es report.pass × (report.pass.session ≡ report.session) → HasSeenAll es (met_report board es known report)
  seen_all report (is, same) = record {
    before = report.pass.trail;
    trail = refl;
    seen = refl;
    own_is = subst (λ s. own session_of es s ≡ own session_of (take (last_met report.pass.trail) es) s) same (own_within es report.pass.seen (last_met report.pass.trail) report.pass.session is.seen is.own_is);
  }

  seen : All (HasSeenAll es) (map (met_report board es known) reports)
  seen = All-map (HasSeenAll es) (met_report board es known) reports (All-weaker (λ (report : ReportView). IsMetBy es report.pass × (report.pass.session ≡ report.session)) (λ (report : ReportView). HasSeenAll es (met_report board es known report)) seen_all reports (all_both (λ (report : ReportView). IsMetBy es report.pass) (λ (report : ReportView). report.pass.session ≡ report.session) reports met_by (all_same history board board.origin.first most hired workers are_done)))

  -- no entry has the session of a pass that was not used
  no_entry : (pass : PassValue Entry Head) → IsMetIn book pass × IsUnused board pass → own session_of es pass.session ≡ []
  no_entry pass (is, un) = is.own_met ∙ ap (λ trail. own session_of (take (last_met trail) pass.seen) pass.session) un.trail

  no_entries : All (λ (pass : PassValue Entry Head). own session_of es pass.session ≡ []) unused
  no_entries = All-weaker (λ (pass : PassValue Entry Head). IsMetIn book pass × IsUnused board pass) (λ (pass : PassValue Entry Head). own session_of es pass.session ≡ []) no_entry unused (all_both (IsMetIn book) (IsUnused board) unused (all_right (IsMetIn book) (map pass_of reports) unused met) (all_unused history board board.origin.first most hired workers are_done))

  abbrev more : List Entry
  more = reported.numbered.begins.0

  opened : es ≡ board.origin.opening ++ more
  opened = reported.numbered.begins.1

  behind : drop (length board.origin.opening) es ≡ more
  behind = ap (drop (length board.origin.opening)) opened ∙ drop-append_seam board.origin.opening more

  bounds : All (λ (entry : Entry). (board.origin.first ≤ entry.session) × (entry.session < board.origin.first + length workers * most)) more
  bounds = all_behind (λ (entry : Entry). (board.origin.first ≤ entry.session) × (entry.session < board.origin.first + length workers * most)) (length board.origin.opening) es board.origin.opening more opened (omega arith) bound
    where
      bound : (before : List Entry) (entry : Entry) (after : List Entry) → es ≡ before ++ entry ∷ after → length board.origin.opening ≤ length before
          → (board.origin.first ≤ entry.session) × (entry.session < board.origin.first + length workers * most)
      bound before entry after is far = (reported.numbered.new before entry after is far, subst (λ n. entry.session < n) all_numbers (reported.numbered.below before entry after is (omega arith)))

  in_all : (entry : Entry) → Contains more entry → Contains es entry
  in_all entry here = rw (opened) (Contains-append_right board.origin.opening more entry here)

  made : All (λ (entry : Entry). Contains (sessions_of (map (met_report board es known) reports)) entry.session) (drop (length board.origin.opening) es)
  made = rw (behind, same_sessions board es known reports) (of_reports history session_of more es board most board.origin.first hired workers are_done no_entries in_all bounds)

  parts : All (λ (pass : PassValue Entry Head). told_of known pass.session ≡ trail_steps pass.session pass.trail) (map pass_of reports ++ unused)
  parts = subst (All (λ (pass : PassValue Entry Head). told_of known pass.session ≡ trail_steps pass.session pass.trail)) passes reported.order.own_steps

  report_part : (report : ReportView) → (told_of known report.pass.session ≡ trail_steps report.pass.session report.pass.trail) × (report.pass.session ≡ report.session)
      → told_of known report.session ≡ trail_steps report.session (report.pass.trail ++ Met (length es) ∷ [])
  report_part report (part, same) =
      subst (λ s. told_of known s ≡ trail_steps s report.pass.trail) same part
      ∙ sym (trail_steps_snoc report.session report.pass.trail (Met (length es)) ∙ append-nil (trail_steps report.session report.pass.trail))

  none_of_map : {X Y : Type 0} (f : X → Y) (xs : List X) → map f xs ≡ [] → xs ≡ []
  none_of_map f [] e = refl
  none_of_map f (x ∷ xs) e = absurd (cc e)

  -- a pass that was not used made no step
  unused_part : (pass : PassValue Entry Head) → (told_of known pass.session ≡ trail_steps pass.session pass.trail) × IsUnused board pass → own (λ (step : AtomicStep). step.session) known pass.session ≡ []
  unused_part pass (part, un) =
      none_of_map (λ (step : AtomicStep). record step { found = found_told step.action step.found }) (own (λ (step : AtomicStep). step.session) known pass.session) (part ∙ ap (trail_steps pass.session) un.trail)

  unused_parts : All (λ (pass : PassValue Entry Head). own (λ (step : AtomicStep). step.session) known pass.session ≡ []) unused
  unused_parts =
      All-weaker (λ (pass : PassValue Entry Head). (told_of known pass.session ≡ trail_steps pass.session pass.trail) × IsUnused board pass) (λ (pass : PassValue Entry Head). own (λ (step : AtomicStep). step.session) known pass.session ≡ []) unused_part unused
      (all_both (λ (pass : PassValue Entry Head). told_of known pass.session ≡ trail_steps pass.session pass.trail) (IsUnused board) unused
      (all_right (λ (pass : PassValue Entry Head). told_of known pass.session ≡ trail_steps pass.session pass.trail) (map pass_of reports) unused parts) (all_unused history board board.origin.first most hired workers are_done))

  own_steps : All (λ (report : ReportView). told_of known report.session ≡ trail_steps report.session report.pass.trail) (map (met_report board es known) reports)
  own_steps =
      All-map (λ (report : ReportView). told_of known report.session ≡ trail_steps report.session report.pass.trail) (met_report board es known) reports
      (All-weaker (λ (report : ReportView). (told_of known report.pass.session ≡ trail_steps report.pass.session report.pass.trail) × (report.pass.session ≡ report.session))
      (λ (report : ReportView). told_of known report.session ≡ trail_steps report.session (report.pass.trail ++ Met (length es) ∷ [])) report_part reports
      (all_both (λ (report : ReportView). told_of known report.pass.session ≡ trail_steps report.pass.session report.pass.trail) (λ (report : ReportView). report.pass.session ≡ report.session) reports
      (all_unmap (λ (pass : PassValue Entry Head). told_of known pass.session ≡ trail_steps pass.session pass.trail) pass_of reports
      (all_left (λ (pass : PassValue Entry Head). told_of known pass.session ≡ trail_steps pass.session pass.trail) (map pass_of reports) unused parts))
      (all_same history board board.origin.first most hired workers are_done)))

  -- the steps of sessions are of sessions that were reported
  abbrev not_owners : AtomicStep → Bool
  not_owners step = not (step.session == 0)

  in_range : All (λ (step : AtomicStep). (board.origin.first ≤ step.session) × (step.session < board.origin.first + length workers * most)) (filter not_owners known)
  in_range = all_filter not_owners (λ (step : AtomicStep). (board.origin.first ≤ step.session) × (step.session < board.origin.first + length workers * most)) known
      (All-weaker (λ (step : AtomicStep). (step.session ≡ 0) ⊎ ((board.origin.first ≤ step.session) × (step.session < book.next)))
      (λ (step : AtomicStep). not_owners step ≡ true → (board.origin.first ≤ step.session) × (step.session < board.origin.first + length workers * most)) ranged known reported.order.order.within)
    where
      ranged : (step : AtomicStep) → (step.session ≡ 0) ⊎ ((board.origin.first ≤ step.session) × (step.session < book.next)) → not_owners step ≡ true
          → (board.origin.first ≤ step.session) × (step.session < board.origin.first + length workers * most)
      ranged step (inl zero) other = absurd (let is : not_owners step ≡ false = ap not (eq-eqb step.session 0 zero) in cc (sym other ∙ is))
      ranged step (inr range) other = (range.0, subst (λ n. step.session < n) all_numbers range.1)

  within : All (λ (step : AtomicStep). (step.session ≡ 0) ⊎ Contains (sessions_of (map (met_report board es known) reports)) step.session) known
  within = All-weaker (λ (step : AtomicStep). not_owners step ≡ true → Contains (sessions_of reports) step.session) (λ (step : AtomicStep). (step.session ≡ 0) ⊎ Contains (sessions_of (map (met_report board es known) reports)) step.session) of_step known
      (all_unfilter not_owners (λ (step : AtomicStep). Contains (sessions_of reports) step.session) known
      (of_reports history (λ (step : AtomicStep). step.session) (filter not_owners known) known board most board.origin.first hired workers are_done unused_parts (λ step here. contains_unfilter not_owners known step here) in_range))
    where
      of_step : (step : AtomicStep) → (not_owners step ≡ true → Contains (sessions_of reports) step.session) → (step.session ≡ 0) ⊎ Contains (sessions_of (map (met_report board es known) reports)) step.session
      of_step step there = dite (ℕ_discrete step.session 0) (λ zero. inl zero) (λ ne. inr (rw (same_sessions board es known reports) (there (ap not (ne_eqb step.session 0 ne)))))

  order : HaveOneOrder board.origin.opening es (map (met_report board es known) reports)
  order = record {
    order = known;
    words = reported.order.words;
    replays = reported.order.order.replays;
    done = reported.order.order.done;
    whole = (reported.order.behind.0, reported.order.behind.3);
    known = All-map (λ (report : ReportView). report.pass.known ≡ known) (met_report board es known) reports (λ k d lt. refl);
    own_steps = own_steps;
    within = within;
  }

  abbrev told : ServeEnd
  told = end_of (gathered_all (nothing places) workers).has_failed (gathered_all (nothing places) workers).lacks_room

  abbrev Ends : Type 0
  Ends = (served.end ≡ Done) ⊎ ((served.end ≡ DoorFault) × SomeFailed (doors_of hired) (doors_of workers)) ⊎ ((served.end ≡ NoRoom) × SomeCutShort most (doors_of hired) (doors_of workers))

  -- it was not so before the workers began
  of_workers : {A : Type 0} → (false ≡ true) ⊎ A → A
  of_workers (inl never) = absurd (cc never)
  of_workers (inr is) = is

  ends : Ends
  ends = by_ends (gathered_all (nothing places) workers).has_failed (gathered_all (nothing places) workers).lacks_room refl refl
    where
      by_ends : (has_failed lacks_room : Bool) → (gathered_all (nothing places) workers).has_failed ≡ has_failed → (gathered_all (nothing places) workers).lacks_room ≡ lacks_room → Ends
      by_ends true lacks_room failed short = inr (inl (reported.end ∙ (λ i. end_of (failed i) (short i)), of_workers (some_failed history board board.origin.first most (nothing places) hired workers are_done failed)))
      by_ends false true failed short = inr (inr (reported.end ∙ (λ i. end_of (failed i) (short i)), of_workers (some_short history board board.origin.first most (nothing places) hired workers are_done short)))
      by_ends false false failed short = inl (reported.end ∙ (λ i. end_of (failed i) (short i)))

  doors : served.doors ≡ doors_of workers
  doors = reported.doors ∙ doors_gathered (nothing places) workers

  means : served.means ≡ means_of workers
  means = reported.means ∙ means_gathered (nothing places) workers

  -- the text has failed
  abbrev Failed : Type 0
  Failed = Rose book.start_faults reported.sink_now.faults

  counted : All (λ (worker : WorkerValue M). 0 < worker.unrecorded → Failed) workers
  counted = All-weaker (λ (worker : WorkerValue M). worker.unrecorded ≤ total) (λ (worker : WorkerValue M). 0 < worker.unrecorded → Failed)
      (λ worker most some. reported.failed (is_failed (omega (arith, most, some)))) workers is_counted

  worked : HaveWorked board.origin.setting (length board.origin.opening) 1 Failed served.end (greatest_of (entry_trees board.origin.opening) + 1) most (doors_of hired) (doors_of workers) (map history (means_of hired)) (map history (means_of workers)) (map (met_report board es known) reports)
  worked =
      subst (λ n. HaveWorked board.origin.setting (length board.origin.opening) 1 Failed served.end n most (doors_of hired) (doors_of workers) (map history (means_of hired)) (map history (means_of workers)) (map (met_report board es known) reports)) first_is
      (subst (λ b. HaveWorked board.origin.setting (length board.origin.opening) 1 Failed b board.origin.first most (doors_of hired) (doors_of workers) (map history (means_of hired)) (map history (means_of workers)) (map (met_report board es known) reports)) (sym reported.end)
      (have_worked history stays board es known Failed told most board.origin.first hired workers are_done (tells_all (nothing places) workers) counted met_by))

  is_served : IsServed board.origin.setting board.origin.opening es Failed most (doors_of hired) (doors_of workers) (map history (means_of hired)) (map history (means_of workers)) (map (met_report board es known) reports) served.end
  is_served = record {
    legal = reported.legal;
    begins = reported.numbered.begins;
    worked = worked;
    ends = ends;
    seen = seen;
    made = made;
    order = order;
  }

  all_served : IsServed board.origin.setting board.origin.opening es Failed most (doors_of hired) served.doors (map history (means_of hired)) (map history served.means) served.reports served.end
  all_served =
      subst (λ ds. IsServed board.origin.setting board.origin.opening es Failed most (doors_of hired) ds (map history (means_of hired)) (map history served.means) served.reports served.end) (sym doors)
      (subst (λ ps. IsServed board.origin.setting board.origin.opening es Failed most (doors_of hired) (doors_of workers) (map history (means_of hired)) (map history ps) served.reports served.end) (sym means)
      (subst (λ rs. IsServed board.origin.setting board.origin.opening es Failed most (doors_of hired) (doors_of workers) (map history (means_of hired)) (map history (means_of workers)) rs served.end) (sym handed) is_served))

  -- what was reported is what a service hands back
  pub finished : Serves history most board.origin.setting board.origin.opening (record { sent = book.start; synced = synced; faults = book.start_faults }) (doors_of hired) (means_of hired) served
  finished = done es reported.sink_now reported.journal reported.sink all_served reported.text reported.lasts
