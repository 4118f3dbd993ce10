-- What workers leave, by their parts.
use Rattle.std.proofs.Common.{◌≡◌, ◌≢◌, ◌⊎◌, inl, inr, ℕ, Bool, true, false, List, [], ◌∷◌, ◌++◌, length, refl, sym, ap, ◌∙◌, subst, append_assoc, append-nil, ◌+◌}
use Rattle.std.proofs.lemmas.List.{length-map, map-append}
use Rattle.std.proofs.lemmas.List.Elements.{All-append, All-head, All-map, All-nil, All-tail, All-weaker}
use Rattle.std.specs.Prelude.{All, map, ◌||◌}
use Rattle.std.specs.declared.vec.Vec.{Vec}
use Rattle.nx_io.specs.Views.{DoorView}
use Rattle.nexus_serve.specs.Means.{MeansHistory}
use Rattle.policy_history.specs.declared.events.Entry.{Entry}
use Rattle.policy_history.specs.declared.heads.Head.{Head}
use Rattle.verdict_words.specs.declared.views.AtomicStep.{AtomicStep}
use Rattle.verdict_words.specs.Settling.{all_met, all_of, flat, items_of, met_of}
use Rattle.verdict_words.specs.Values.{Identity, PassValue}
use Rattle.nexus_serve.specs.declared.closing.ServeEnd.{ServeEnd}
use Rattle.nexus_serve.specs.declared.closing.ServeEnd.TheVariants.{Done, DoorFault}
use Rattle.nexus_serve.specs.Views.{ReportView, SessionView, joined, with_pass}
use Rattle.nexus_serve.specs.Workers.{IsCutShort, SomeCutShort, SomeFailed}
use Rattle.nexus_serve.specs.Inner.Gathering.{GatheredValue, gathered_all, gathered_from, joined_each, nothing, pass_of, session_of}
use Rattle.nexus_serve.specs.Inner.Joining.{met_report, reports_of, unused_of}
use Rattle.nexus_serve.specs.Inner.Serving.{AreDone, AreOfBoard, doors_of, means_of}
use Rattle.nexus_serve.specs.Inner.Working.{IsUnused, WorkerValue, end_of}

-- ---- Reports, by their parts

-- reports that were put together give their parts
pub sessions_back : (sessions : List SessionView) (passes : List (PassValue Entry Head)) → length sessions ≡ length passes → map session_of (joined sessions passes) ≡ sessions
sessions_back [] passes same = refl
sessions_back (s ∷ ss) [] same = absurd (cc same)
sessions_back (s ∷ ss) (p ∷ ps) same = ap (λ l. s ∷ l) (sessions_back ss ps (cc same))

pub passes_back : (sessions : List SessionView) (passes : List (PassValue Entry Head)) → length sessions ≡ length passes → map pass_of (joined sessions passes) ≡ passes
passes_back [] [] same = refl
passes_back [] (p ∷ ps) same = absurd (cc same)
passes_back (s ∷ ss) [] same = absurd (cc same)
passes_back (s ∷ ss) (p ∷ ps) same = ap (λ l. p ∷ l) (passes_back ss ps (cc same))

-- what is told of each session is told by its report
pub joined_map : {A : Type 0} (of_report : ReportView → A) (of_session : SessionView → A) → ((session : SessionView) (pass : PassValue Entry Head) → of_report (with_pass session pass) ≡ of_session session)
    → (sessions : List SessionView) (passes : List (PassValue Entry Head)) → length sessions ≡ length passes → map of_report (joined sessions passes) ≡ map of_session sessions
joined_map of_report of_session same [] passes count = refl
joined_map of_report of_session same (s ∷ ss) [] count = absurd (cc count)
joined_map of_report of_session same (s ∷ ss) (p ∷ ps) count = (λ i. same s p i ∷ joined_map of_report of_session same ss ps (cc count) i)

-- one report more
pub joined_last : (sessions : List SessionView) (passes : List (PassValue Entry Head)) (session : SessionView) (pass : PassValue Entry Head) → length sessions ≡ length passes
    → joined (sessions ++ session ∷ []) (passes ++ pass ∷ []) ≡ joined sessions passes ++ with_pass session pass ∷ []
joined_last [] [] session pass same = refl
joined_last [] (p ∷ ps) session pass same = absurd (cc same)
joined_last (s ∷ ss) [] session pass same = absurd (cc same)
joined_last (s ∷ ss) (p ∷ ps) session pass same = ap (λ l. with_pass s p ∷ l) (joined_last ss ps session pass (cc same))

-- ---- What all workers leave

pub doors_gathered : {M : Type 0} (g : GatheredValue M) (workers : List (WorkerValue M)) → (gathered_all g workers).doors ≡ g.doors ++ doors_of workers
doors_gathered g [] = sym (append-nil g.doors)
doors_gathered g (w ∷ ws) = doors_gathered (gathered_from g w) ws ∙ append_assoc g.doors (w.door ∷ []) (doors_of ws)

pub means_gathered : {M : Type 0} (g : GatheredValue M) (workers : List (WorkerValue M)) → (gathered_all g workers).means ≡ g.means ++ means_of workers
means_gathered g [] = sym (append-nil g.means)
means_gathered g (w ∷ ws) = means_gathered (gathered_from g w) ws ∙ append_assoc g.means (w.means ∷ []) (means_of ws)

pub sessions_gathered : {M : Type 0} (g : GatheredValue M) (workers : List (WorkerValue M)) → (gathered_all g workers).sessions ≡ g.sessions ++ map (λ (worker : WorkerValue M). map session_of worker.reports) workers
sessions_gathered g [] = sym (append-nil g.sessions)
sessions_gathered g (w ∷ ws) = sessions_gathered (gathered_from g w) ws ∙ append_assoc g.sessions (map session_of w.reports ∷ []) (map (λ worker. map session_of worker.reports) ws)

pub used_gathered : {M : Type 0} (g : GatheredValue M) (workers : List (WorkerValue M)) → (gathered_all g workers).used ≡ g.used ++ map (λ (worker : WorkerValue M). map pass_of worker.reports) workers
used_gathered g [] = sym (append-nil g.used)
used_gathered g (w ∷ ws) = used_gathered (gathered_from g w) ws ∙ append_assoc g.used (map pass_of w.reports ∷ []) (map (λ worker. map pass_of worker.reports) ws)

pub unused_gathered : {M : Type 0} (g : GatheredValue M) (workers : List (WorkerValue M)) → (gathered_all g workers).unused ≡ g.unused ++ map (λ (worker : WorkerValue M). worker.passes) workers
unused_gathered g [] = sym (append-nil g.unused)
unused_gathered g (w ∷ ws) = unused_gathered (gathered_from g w) ws ∙ append_assoc g.unused (w.passes ∷ []) (map (λ worker. worker.passes) ws)

flat_used : {M : Type 0} (workers : List (WorkerValue M)) → flat (map (λ (worker : WorkerValue M). map pass_of worker.reports) workers) ≡ map pass_of (reports_of workers)
flat_used [] = refl
flat_used (w ∷ ws) = ap (λ l. map pass_of w.reports ++ l) (flat_used ws) ∙ sym (map-append pass_of w.reports (reports_of ws))

flat_unused : {M : Type 0} (workers : List (WorkerValue M)) → flat (map (λ (worker : WorkerValue M). worker.passes) workers) ≡ unused_of workers
flat_unused [] = refl
flat_unused (w ∷ ws) = ap (λ l. w.passes ++ l) (flat_unused ws)

-- the passes of all workers: those of the reports, and those that were not used
pub all_gathered : {M : Type 0} (places : ℕ) (workers : List (WorkerValue M))
    → all_of (gathered_all (nothing places) workers).used (gathered_all (nothing places) workers).unused ≡ map pass_of (reports_of workers) ++ unused_of workers
all_gathered places workers =
    ap (λ used. all_of used (gathered_all (nothing places) workers).unused) (used_gathered (nothing places) workers)
    ∙ ap (λ unused. all_of (map (λ worker. map pass_of worker.reports) workers) unused) (unused_gathered (nothing places) workers)
    ∙ ap (λ l. l ++ flat (map (λ worker. worker.passes) workers)) (flat_used workers)
    ∙ ap (λ l. map pass_of (reports_of workers) ++ l) (flat_unused workers)

-- the reports, each with its pass as it was met once more
joined_met : (board : Identity Entry Head) (es : List Entry) (known : List AtomicStep) (reports : List ReportView)
    → joined (map session_of reports) (all_met board es known (map pass_of reports)) ≡ map (met_report board es known) reports
joined_met board es known [] = refl
joined_met board es known (r ∷ rs) = ap (λ xs. met_report board es known r ∷ xs) (joined_met board es known rs)

each_met : {M : Type 0} (board : Identity Entry Head) (es : List Entry) (known : List AtomicStep) (workers : List (WorkerValue M))
    → flat (joined_each (map (λ (worker : WorkerValue M). map session_of worker.reports) workers) (map (all_met board es known) (map (λ (worker : WorkerValue M). map pass_of worker.reports) workers)))
    ≡ map (met_report board es known) (reports_of workers)
each_met board es known [] = refl
each_met board es known (w ∷ ws) = (λ i. joined_met board es known w.reports i ++ each_met board es known ws i) ∙ sym (map-append (met_report board es known) w.reports (reports_of ws))

pub reports_gathered : {M : Type 0} (board : Identity Entry Head) (es : List Entry) (known : List AtomicStep) (places : ℕ) (workers : List (WorkerValue M))
    → flat (joined_each (gathered_all (nothing places) workers).sessions (map (all_met board es known) (gathered_all (nothing places) workers).used)) ≡ map (met_report board es known) (reports_of workers)
reports_gathered board es known places workers =
    ap (λ sessions. flat (joined_each sessions (map (all_met board es known) (gathered_all (nothing places) workers).used))) (sessions_gathered (nothing places) workers)
    ∙ ap (λ used. flat (joined_each (map (λ worker. map session_of worker.reports) workers) (map (all_met board es known) used))) (used_gathered (nothing places) workers)
    ∙ each_met board es known workers

-- each pass has its place where all were met once more
pub lengths_met : {Z : Type 0} (board : Identity Entry Head) (es : List Entry) (known : List AtomicStep) (lists met : List (Vec (PassValue Entry Head) Z)) → items_of met ≡ map (all_met board es known) (items_of lists)
    → map (λ mine. length mine.items) met ≡ map (λ mine. length mine.items) lists
lengths_met board es known [] [] is = refl
lengths_met board es known [] (m ∷ ms) is = absurd (cc is)
lengths_met board es known (l ∷ ls) [] is = absurd (cc is)
lengths_met board es known (l ∷ ls) (m ∷ ms) is =
    let here : m.items ≡ all_met board es known l.items = cc is in
    let others : items_of ms ≡ map (all_met board es known) (items_of ls) = cc is in
    let count : length m.items ≡ length l.items = ap length here ∙ length-map l.items (λ (pass : PassValue Entry Head). met_of board es known pass.session pass.trail) in
    (λ i. count i ∷ lengths_met board es known ls ms others i)

-- ---- How the service ends

-- that a door has failed is not forgotten, nor that there was no memory
or_true : (b c : Bool) → b ≡ true → (b || c) ≡ true
or_true true c is = refl
or_true false c is = absurd (cc is)

or_last : (b c : Bool) → c ≡ true → (b || c) ≡ true
or_last true c is = refl
or_last false c is = is

or_either : (b c : Bool) → (b || c) ≡ true → (b ≡ true) ⊎ (c ≡ true)
or_either true c is = inl refl
or_either false c is = inr is

failed_stays : {M : Type 0} (g : GatheredValue M) (workers : List (WorkerValue M)) → g.has_failed ≡ true → (gathered_all g workers).has_failed ≡ true
failed_stays g [] is = is
failed_stays g (w ∷ ws) is = failed_stays (gathered_from g w) ws (or_true g.has_failed w.has_failed is)

short_stays : {M : Type 0} (g : GatheredValue M) (workers : List (WorkerValue M)) → g.lacks_room ≡ true → (gathered_all g workers).lacks_room ≡ true
short_stays g [] is = is
short_stays g (w ∷ ws) is = short_stays (gathered_from g w) ws (or_true g.lacks_room w.lacks_room is)

-- how a service ends that ends with a fault, and with no want
is_fault : (has_failed lacks_room : Bool) → end_of has_failed lacks_room ≡ DoorFault → has_failed ≡ true
is_fault true lacks_room is = refl
is_fault false true is = absurd (cc is)
is_fault false false is = absurd (cc is)

fault_told : (has_failed lacks_room : Bool) → has_failed ≡ true → end_of has_failed lacks_room ≡ DoorFault
fault_told true lacks_room is = refl
fault_told false lacks_room is = absurd (cc is)

want_told : (has_failed lacks_room failed_too short_too : Bool) → (has_failed ≡ true → failed_too ≡ true) → (lacks_room ≡ true → short_too ≡ true) → end_of has_failed lacks_room ≢ Done → end_of failed_too short_too ≢ Done
want_told true lacks_room true short_too failed short other = λ is. absurd (cc is)
want_told true lacks_room false short_too failed short other = absurd (cc (failed refl))
want_told false true true short_too failed short other = λ is. absurd (cc is)
want_told false true false true failed short other = λ is. absurd (cc is)
want_told false true false false failed short other = absurd (cc (short refl))
want_told false false failed_too short_too failed short other = absurd (other refl)

-- it is told of all where it is of one
abbrev pub TellsAll : {M : Type 0} → ServeEnd → List (WorkerValue M) → Type 0
TellsAll end [] = Unit {0}
TellsAll end (w ∷ ws) = (end_of w.has_failed w.lacks_room ≡ DoorFault → end ≡ DoorFault) × (end_of w.has_failed w.lacks_room ≢ Done → end ≢ Done) × TellsAll end ws

pub tells_all : {M : Type 0} (g : GatheredValue M) (workers : List (WorkerValue M)) → TellsAll (end_of (gathered_all g workers).has_failed (gathered_all g workers).lacks_room) workers
tells_all g [] = tt
tells_all g (w ∷ ws) =
    let failed : w.has_failed ≡ true → (gathered_all (gathered_from g w) ws).has_failed ≡ true = λ is. failed_stays (gathered_from g w) ws (or_last g.has_failed w.has_failed is) in
    let short : w.lacks_room ≡ true → (gathered_all (gathered_from g w) ws).lacks_room ≡ true = λ is. short_stays (gathered_from g w) ws (or_last g.lacks_room w.lacks_room is) in (
      λ is. fault_told (gathered_all (gathered_from g w) ws).has_failed (gathered_all (gathered_from g w) ws).lacks_room (failed (is_fault w.has_failed w.lacks_room is)),
      want_told w.has_failed w.lacks_room (gathered_all (gathered_from g w) ws).has_failed (gathered_all (gathered_from g w) ws).lacks_room failed short,
      tells_all (gathered_from g w) ws,
    )

-- where it is told, a door has failed
pub some_failed : {M : Type 0} (history : M → MeansHistory) (board : Identity Entry Head) (first most : ℕ) (g : GatheredValue M) (hired workers : List (WorkerValue M)) → AreDone history board first most hired workers
    → (gathered_all g workers).has_failed ≡ true → (g.has_failed ≡ true) ⊎ SomeFailed (doors_of hired) (doors_of workers)
some_failed history board first most g [] [] done is = inl is
some_failed history board first most g (j ∷ js) (w ∷ ws) done is = of_rest (some_failed history board (first + most) most (gathered_from g w) js ws done.2 is)
  where
    of_rest : ((g.has_failed || w.has_failed) ≡ true) ⊎ SomeFailed (doors_of js) (doors_of ws) → (g.has_failed ≡ true) ⊎ SomeFailed (doors_of (j ∷ js)) (doors_of (w ∷ ws))
    of_rest (inr later) = inr (inr later)
    of_rest (inl here) = of_here (or_either g.has_failed w.has_failed here)
      where
        of_here : (g.has_failed ≡ true) ⊎ (w.has_failed ≡ true) → (g.has_failed ≡ true) ⊎ SomeFailed (doors_of (j ∷ js)) (doors_of (w ∷ ws))
        of_here (inl before) = inl before
        of_here (inr now) = inr (inl (done.1.fault now))
some_failed history board first most g [] (w ∷ ws) done is = absurd done
some_failed history board first most g (j ∷ js) [] done is = absurd done

-- where it is told that there was no memory, a worker has stopped for that
pub some_short : {M : Type 0} (history : M → MeansHistory) (board : Identity Entry Head) (first most : ℕ) (g : GatheredValue M) (hired workers : List (WorkerValue M)) → AreDone history board first most hired workers
    → (gathered_all g workers).lacks_room ≡ true → (g.lacks_room ≡ true) ⊎ SomeCutShort most (doors_of hired) (doors_of workers)
some_short history board first most g [] [] done is = inl is
some_short history board first most g (j ∷ js) (w ∷ ws) done is = of_rest (some_short history board (first + most) most (gathered_from g w) js ws done.2 is)
  where
    of_rest : ((g.lacks_room || w.lacks_room) ≡ true) ⊎ SomeCutShort most (doors_of js) (doors_of ws) → (g.lacks_room ≡ true) ⊎ SomeCutShort most (doors_of (j ∷ js)) (doors_of (w ∷ ws))
    of_rest (inr later) = inr (inr later)
    of_rest (inl here) = of_here (or_either g.lacks_room w.lacks_room here)
      where
        of_here : (g.lacks_room ≡ true) ⊎ (w.lacks_room ≡ true) → (g.lacks_room ≡ true) ⊎ SomeCutShort most (doors_of (j ∷ js)) (doors_of (w ∷ ws))
        of_here (inl before) = inl before
        of_here (inr now) = inr (inl (subst (λ n. IsCutShort n j.door w.door) done.0.count (done.1.short now)))
some_short history board first most g [] (w ∷ ws) done is = absurd done
some_short history board first most g (j ∷ js) [] done is = absurd done

-- ---- The parts

-- what was gathered is told by its parts
pub gathered_same : {M : Type 0} {doors doors_too : List DoorView} {means means_too : List M} {sessions sessions_too : List (List SessionView)} {used used_too unused unused_too : List (List (PassValue Entry Head))}
    {b b_too c c_too : Bool} {places places_too : ℕ} → doors ≡ doors_too → means ≡ means_too → sessions ≡ sessions_too → used ≡ used_too → unused ≡ unused_too → b ≡ b_too → c ≡ c_too → places ≡ places_too
    → ◌≡◌ {A = GatheredValue M} (record { doors = doors; means = means; sessions = sessions; used = used; unused = unused; has_failed = b; lacks_room = c; places = places })
    (record { doors = doors_too; means = means_too; sessions = sessions_too; used = used_too; unused = unused_too; has_failed = b_too; lacks_room = c_too; places = places_too })
gathered_same d p s u n f l m = rw (d, p, s, u, n, f, l, m) refl

-- a pass of this board
abbrev pub IsOfBoard : Identity Entry Head → PassValue Entry Head → Type 0
IsOfBoard board pass = pass.board ≡ board

-- all passes that were gathered are of the board
module _ {M : Type 0} (board : Identity Entry Head) where
  used_of_board : (workers : List (WorkerValue M)) → All (AreOfBoard board) workers → All (λ (report : ReportView). report.pass.board ≡ board) (reports_of workers)
  used_of_board [] all = All-nil (λ (report : ReportView). report.pass.board ≡ board)
  used_of_board (w ∷ ws) all =
      let here = All-head (AreOfBoard board) w ws all in
      All-append (λ (report : ReportView). report.pass.board ≡ board) w.reports (reports_of ws) here.used (used_of_board ws (All-tail (AreOfBoard board) w ws all))

  unused_of_board : (workers : List (WorkerValue M)) → All (AreOfBoard board) workers → All (IsOfBoard board) (unused_of workers)
  unused_of_board [] all = All-nil (IsOfBoard board)
  unused_of_board (w ∷ ws) all =
      let here = All-head (AreOfBoard board) w ws all in
      All-append (IsOfBoard board) w.passes (unused_of ws) (All-weaker (IsUnused board) (IsOfBoard board) (λ pass un. un.board_is) w.passes here.unused) (unused_of_board ws (All-tail (AreOfBoard board) w ws all))

  pub all_of_board : (places : ℕ) (workers : List (WorkerValue M)) → All (AreOfBoard board) workers → All (IsOfBoard board) (all_of (gathered_all (nothing places) workers).used (gathered_all (nothing places) workers).unused)
  all_of_board places workers all =
      subst (All (IsOfBoard board)) (sym (all_gathered places workers))
      (All-append (IsOfBoard board) (map pass_of (reports_of workers)) (unused_of workers) (All-map (IsOfBoard board) pass_of (reports_of workers) (used_of_board workers all)) (unused_of_board workers all))
