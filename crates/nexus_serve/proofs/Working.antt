-- A worker on its way: one session more, and how it stops.
use Rattle.std.proofs.Common.{◌≡◌, ◌≢◌, ◌<◌, ◌≤◌, ◌+◌, ℕ, Bool, true, false, List, [], ◌∷◌, ◌++◌, length, replicate, refl, sym, ap, ◌∙◌, subst, arith, append-nil, append_assoc, length-append}
use Rattle.std.proofs.lemmas.List.{replicate-append-replicate}
use Rattle.std.proofs.lemmas.List.Elements.{All-append, All-cons, All-head, All-tail, All-nil}
use Rattle.std.specs.Prelude.{All}
use Rattle.nx_io.specs.Views.{DoorView, LinkView}
use Rattle.nexus_serve.specs.Means.{MeansHistory}
use Rattle.nx_io.specs.Streams.{Rose, one_more}
use Rattle.nx_io.specs.DoorCalls.{faults_in, gave, not_given}
use Rattle.nx_io.proofs.DoorCalls.{faults_more}
use Rattle.nx_io.specs.declared.doors.Next.TheVariants.{Link as NextLink, NoMore as NextNoMore, Failed as NextFailed}
use Rattle.policy_history.specs.declared.events.Entry.{Entry}
use Rattle.policy_history.specs.declared.heads.Head.{Head}
use Rattle.session_core.specs.Served.{UnrecordedOnlyWhere}
use Rattle.session_wire.specs.declared.requests.Request.{Request}
use Rattle.session_wire.specs.declared.replies.Reply.{Reply}
use Rattle.verdict_words.specs.Values.{Identity, PassValue}
use Rattle.nexus_serve.specs.declared.closing.ServeEnd.TheVariants.{Done}
use Rattle.nexus_serve.specs.Views.{ReportView}
use Rattle.nexus_serve.specs.Workers.{HasAnswered, HasComeFrom, IsCutShort, IsHeard, Stops, Works, next, nobody, all, no_more, failed, no_room}
use Rattle.nexus_serve.specs.Inner.Working.{AreNumbered, IsDone, IsHired, IsStopped, IsUnused, IsWorking, WorkerValue, end_of}

-- what is told only where there is a fault is told only where there is what follows from it
only_where : {Failed Other : Type 0} → (Failed → Other) → (requests : List Request) (replies : List Reply) → UnrecordedOnlyWhere Failed requests replies → UnrecordedOnlyWhere Other requests replies
only_where follows [] [] only = tt
only_where follows (q ∷ qs) (r ∷ rs) only = ((λ told. follows (only.0 told)), only_where follows qs rs only.1)
only_where follows [] (r ∷ rs) only = absurd only
only_where follows (q ∷ qs) [] only = absurd only

-- what follows from a fault of a text, a session that was told not to be recorded tells too
pub heard_weaker : {h : Head} {low later : ℕ} {Failed Other : Type 0} {report : ReportView} {means means_now : MeansHistory} → (Failed → Other) → IsHeard h low later Failed report means means_now → IsHeard h low later Other report means means_now
heard_weaker {Failed = Failed} {Other = Other} follows heard = record {
  asked = heard.asked;
  served = heard.served;
  recorded = only_where follows heard.served.requests heard.served.replies heard.recorded;
}

-- and so do all sessions of a worker
pub works_weaker : {h : Head} {low later first : ℕ} {Failed Other : Type 0} {door : DoorView} {means : MeansHistory} {reports : List ReportView} {door_now : DoorView} {means_now : MeansHistory}
    → (Failed → Other) → Works h low later Failed first door means reports door_now means_now → Works h low later Other first door means reports door_now means_now
works_weaker follows nobody = nobody
works_weaker follows (next report link door_now means_now works answered from numbered heard) =
    next report link door_now means_now (works_weaker follows works) answered from numbered (heard_weaker follows heard)

-- a door that gives links does not fail
works_faults : {h : Head} {low later first : ℕ} {Failed : Type 0} {door : DoorView} {means : MeansHistory} {reports : List ReportView} {door_now : DoorView} {means_now : MeansHistory}
    → Works h low later Failed first door means reports door_now means_now → faults_in door_now.calls ≡ faults_in door.calls
works_faults nobody = refl
works_faults (next {door_then = door_then} report link door_now means_now works answered from numbered heard) = ap faults_in answered.calls ∙ faults_more door_then.calls gave ∙ works_faults works

-- a worker asks its door for its links alone
works_gave : {h : Head} {low later first : ℕ} {Failed : Type 0} {door : DoorView} {means : MeansHistory} {reports : List ReportView} {door_now : DoorView} {means_now : MeansHistory}
    → Works h low later Failed first door means reports door_now means_now → door_now.calls ≡ door.calls ++ replicate (length reports) gave
works_gave {door = door} nobody = sym (append-nil door.calls)
works_gave {door = door} (next {reports} report link door_now means_now works answered from numbered heard) =
    answered.calls ∙ ap (λ calls. calls ++ gave ∷ []) (works_gave works) ∙ append_assoc door.calls (replicate (length reports) gave) (gave ∷ [])
    ∙ ap (λ calls. door.calls ++ calls) (replicate-append-replicate (length reports) 1 gave)
    ∙ ap (λ n. door.calls ++ replicate n gave) (sym (length-append reports (report ∷ [])))

-- want of memory is told
never_done : (has_failed : Bool) → end_of has_failed true ≢ Done
never_done true is = absurd (cc is)
never_done false is = absurd (cc is)

-- the first of some passes that are not used
pub first_unused : (board : Identity Entry Head) (pass : PassValue Entry Head) (rest passes : List (PassValue Entry Head)) → passes ≡ pass ∷ rest → All (IsUnused board) passes → IsUnused board pass
first_unused board pass rest passes is unused = All-head (IsUnused board) pass rest (subst (All (IsUnused board)) is unused)

-- A worker has served this link with its next pass. So many changes were told not to be recorded before, and so many now
pub record HasServedOne {M : Type 0} (history : M → MeansHistory) (board : Identity Entry Head) (told told_now : ℕ) (link : LinkView) (before now : WorkerValue M) : Type 0 where
  pub pass : PassValue Entry Head
  pub report : ReportView
  pub used : before.passes ≡ pass ∷ now.passes
  pub reports : now.reports ≡ before.reports ++ report ∷ []
  pub first : now.first ≡ before.first
  pub door : now.door ≡ before.door
  pub failed : now.has_failed ≡ before.has_failed
  pub short : now.lacks_room ≡ before.lacks_room
  pub from : HasComeFrom link report
  pub session : report.session ≡ pass.session
  pub pass_session : report.pass.session ≡ report.session
  pub board_is : report.pass.board ≡ board
  pub later : told ≤ told_now
  pub heard : IsHeard board.origin.setting (length board.origin.opening) 0 (0 < told_now) report (history before.means) (history now.means)
  pub parts : now.parts ≡ before.parts
  pub unrecorded : now.unrecorded ≡ before.unrecorded

module _ {M : Type 0} (history : M → MeansHistory) (board : Identity Entry Head) (start : WorkerValue M) where
  -- a worker that has not begun, whatever it holds of the ledger
  pub working_first : (count parts unrecorded : ℕ) → IsHired board start.first (length start.passes) start
      → IsWorking history board count (record start { parts = parts; unrecorded = unrecorded }) (record start { parts = parts; unrecorded = unrecorded })
  working_first count parts unrecorded hired = record {
    works = rw (hired.reports) nobody;
    first_is = refl;
    numbered = subst (λ n. AreNumbered n start.passes) (let none = ap length hired.reports in let same : start.first ≡ start.first + length start.reports = omega (arith, none) in same) hired.numbered;
    count = (let none = ap length hired.reports in omega (arith, none));
    unused = hired.unused;
    used = rw (hired.reports) (All-nil _);
    failed = hired.failed;
    short = hired.short;
    parts = refl;
    unrecorded = refl;
  }

  -- a worker that has stopped, and worked with a part of its share cut off, once its share counts what its sessions were told
  pub done_counted : (count : ℕ) (cut stopped now : WorkerValue M) → IsStopped history board count cut stopped → cut ≡ record start { parts = cut.parts; unrecorded = cut.unrecorded } → cut.unrecorded ≡ 0
      → now ≡ record stopped { parts = now.parts; unrecorded = now.unrecorded } → now.unrecorded ≡ stopped.unrecorded + count → IsDone history board now.unrecorded start now
  done_counted count cut stopped now is cut_is none now_is whole =
      let kept = is.unrecorded in
      let same : count ≡ now.unrecorded = omega (arith, kept, none, whole) in
      let done = subst (λ (w : WorkerValue M). IsDone history board count w stopped) cut_is is.done in
      let here : IsDone history board count start (record stopped { parts = now.parts; unrecorded = now.unrecorded }) =
      record { fault = done.fault; short = done.short; worked = done.worked; numbered = done.numbered; count = done.count; unused = done.unused; used = done.used } in
      subst (λ (n : ℕ). IsDone history board n start now) same (subst (IsDone history board count start) (sym now_is) here)

  module _ (told : ℕ) (before : WorkerValue M) (w : IsWorking history board told start before) where
    -- one session more
    pub working_on : (told_now : ℕ) (door : DoorView) (link : LinkView) (now : WorkerValue M) → HasAnswered (NextLink link) before.door door
        → HasServedOne history board told told_now link (record before { door = door }) now → IsWorking history board told_now start now
    working_on told_now door link now answered one =
        let numbered : AreNumbered (start.first + length before.reports) (one.pass ∷ now.passes) = subst (AreNumbered (start.first + length before.reports)) one.used w.numbered in
        let more : length now.reports ≡ length before.reports + 1 = ap length one.reports ∙ length-append before.reports (one.report ∷ []) in
        let shorter = ap length one.used in
        let less : length before.passes ≡ length now.passes + 1 = omega (arith, shorter) in
        let count = w.count in
        let unused : All (IsUnused board) (one.pass ∷ now.passes) = subst (All (IsUnused board)) one.used w.unused in
        let still : 0 < told → 0 < told_now = (let later = one.later in λ some. omega (arith, some, later)) in
        let place : start.first + length before.reports + 1 ≡ start.first + length now.reports = omega (arith, more) in
        record {
          works = rw (one.reports, one.door) (next one.report link door (history now.means) (works_weaker still w.works) answered one.from (one.session ∙ numbered.0, one.pass_session) one.heard);
          first_is = one.first ∙ w.first_is;
          numbered = subst (λ n. AreNumbered n now.passes) place numbered.1;
          count = omega (arith, count, more, less);
          unused = All-tail (IsUnused board) one.pass now.passes unused;
          used = rw (one.reports) (All-append (λ (report : ReportView). report.pass.board ≡ board) before.reports (one.report ∷ []) w.used (All-cons (λ (report : ReportView). report.pass.board ≡ board) one.report [] one.board_is (All-nil (λ (report : ReportView). report.pass.board ≡ board))));
          failed = one.failed ∙ w.failed;
          short = one.short ∙ w.short;
          parts = one.parts ∙ w.parts;
          unrecorded = one.unrecorded ∙ w.unrecorded;
        }

    done_so : (door : DoorView) (has_failed lacks_room : Bool) → Stops (end_of has_failed lacks_room) (length start.passes) (length before.reports) before.door door
        → (has_failed ≡ true → Rose (faults_in start.door.calls) (faults_in door.calls)) → (lacks_room ≡ true → IsCutShort (length start.passes) start.door door)
        → IsStopped history board told start (record before { door = door; has_failed = has_failed; lacks_room = lacks_room })
    done_so door has_failed lacks_room stops fault short = record {
      done = record {
        fault = fault;
        short = short;
        worked = record { door_then = before.door; works = w.works; stops = stops };
        numbered = w.numbered;
        count = w.count;
        unused = w.unused;
        used = w.used;
      };
      parts = w.parts;
      unrecorded = w.unrecorded;
    }

    -- its door has not failed so far, and there was memory for each session
    unfailed : {A : Type 0} → before.has_failed ≡ true → A
    unfailed is = absurd (cc (is, w.failed))

    unshort : {A : Type 0} → before.lacks_room ≡ true → A
    unshort is = absurd (cc (is, w.short))

    fewer : 0 < length before.passes → length before.reports < length start.passes
    fewer some = let count = w.count in omega (arith, some, count)

    -- the door gives no more
    pub done_no_more : (door : DoorView) → 0 < length before.passes → HasAnswered NextNoMore before.door door → IsStopped history board told start (record before { door = door })
    done_no_more door some answered = done_so door before.has_failed before.lacks_room (no_more (fewer some) answered) unfailed unshort

    -- the door has failed
    pub done_failed : (door : DoorView) → 0 < length before.passes → HasAnswered NextFailed before.door door → IsStopped history board told start (record before { door = door; has_failed = true })
    done_failed door some answered =
        let risen = ap faults_in answered.calls ∙ faults_more before.door.calls not_given in
        done_so door true before.lacks_room (failed (fewer some) answered refl)
        (λ _. subst (λ n. Rose n (faults_in door.calls)) (works_faults w.works) (subst (λ n. one_more (faults_in before.door.calls) ≤ n) (sym risen) (omega arith))) unshort

    -- there is no memory for one more session
    pub done_no_room : 0 < length before.passes → IsStopped history board told start (record before { lacks_room = true })
    done_no_room some =
        done_so before.door before.has_failed true (no_room (fewer some) refl (never_done before.has_failed)) unfailed (λ _. (length before.reports, fewer some, works_gave w.works))

    -- all passes are used
    pub done_all : before.passes ≡ [] → IsStopped history board told start before
    done_all none =
        let count = w.count in
        let gone : length before.passes ≡ 0 = ap length none in
        done_so before.door before.has_failed before.lacks_room (all (omega (arith, count, gone)) refl) unfailed unshort
