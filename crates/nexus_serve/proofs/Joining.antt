-- What holds of a service behind its workers.
use Rattle.std.proofs.Common.{◌≡◌, ◌≢◌, ◌⊎◌, inl, inr, ◌<◌, ◌≤◌, ◌+◌, ◌*◌, ◌-◌, ℕ, suc, List, [], ◌∷◌, ◌++◌, length, cond, refl, sym, ap, ◌∙◌, subst, arith, length-append}
use Rattle.std.proofs.Math.Nat.{suc-mul}
use Rattle.std.proofs.lemmas.List.{map-append}
use Rattle.std.proofs.lemmas.List.Elements.{All-cons, All-contains, All-head, All-nil, All-push, All-tail, All-weaker, All-contains_itself, Contains-append_left, Contains-append_right}
use mathlib.Core.Logic.{dite}
use native.Mathlib.Decide.{ℕ_discrete}
use Rattle.std.proofs.lemmas.Bool.{cases_lt, ne_eqb, eq-eqb}
use Rattle.std.specs.Prelude.{All, Contains, map}
use Rattle.nx_io.specs.Views.{DoorView}
use Rattle.verdict_words.specs.declared.views.AtomicStep.{AtomicStep}
use Rattle.verdict_words.specs.Histories.{own}
use Rattle.nexus_serve.specs.Means.{MeansHistory}
use Rattle.policy_history.specs.declared.events.Entry.{Entry}
use Rattle.policy_history.specs.declared.heads.Head.{Head}
use Rattle.verdict_words.specs.Values.{Identity, PassValue}
use Rattle.nexus_serve.specs.declared.closing.ServeEnd.{ServeEnd}
use Rattle.nexus_serve.specs.Views.{ReportView}
use Rattle.nexus_serve.specs.Workers.{HasWorked, HaveWorked, Works, next, nobody}
use Rattle.nexus_serve.specs.Services.{sessions_of}
use Rattle.nexus_serve.specs.Inner.Joining.{IsMetBy, met_report, reports_of, unused_of}
use Rattle.nexus_serve.specs.Inner.Serving.{AreDone, doors_of, means_of}
use Rattle.nexus_serve.specs.Inner.Working.{AreNumbered, WorkerValue, end_of}
use Rattle.session_core.specs.ToldLaws.{NotedStaysNoted}
use Rattle.nexus_serve.proofs.Gathering.{TellsAll}
use Rattle.nexus_serve.proofs.Growing.{worked_met}
use Rattle.nexus_serve.proofs.Lists.{all_left, all_right}
use Rattle.nexus_serve.proofs.Working.{works_weaker}

-- what follows from a fault of the text, a worker's sessions tell too
worked_weaker : {h : Head} {low later first most : ℕ} {Failed Other : Type 0} {end : ServeEnd} {door door_now : DoorView} {means means_now : MeansHistory} {reports : List ReportView}
    → (Failed → Other) → HasWorked h low later Failed end first most door door_now means means_now reports → HasWorked h low later Other end first most door door_now means means_now reports
worked_weaker follows worked = record { door_then = worked.door_then; works = works_weaker follows worked.works; stops = worked.stops }

module _ {M : Type 0} (history : M → MeansHistory) (stays : NotedStaysNoted) (board : Identity Entry Head) (es : List Entry) (known : List AtomicStep) (Failed : Type 0) (end : ServeEnd) (most : ℕ) where
  -- all workers have worked, once the passes were met again
  pub have_worked : (first : ℕ) (hired workers : List (WorkerValue M)) → AreDone history board first most hired workers → TellsAll end workers
      → All (λ (worker : WorkerValue M). 0 < worker.unrecorded → Failed) workers → All (λ (report : ReportView). IsMetBy es report.pass) (reports_of workers)
      → HaveWorked board.origin.setting (length board.origin.opening) 1 Failed end first most (doors_of hired) (doors_of workers) (map history (means_of hired)) (map history (means_of workers)) (map (met_report board es known) (reports_of workers))
  have_worked first [] [] done tells counted met = refl
  have_worked first (j ∷ js) (w ∷ ws) (hired, done, others) (fault, want, rest) counted met =
      let mine = all_left (λ (report : ReportView). IsMetBy es report.pass) w.reports (reports_of ws) met in
      let later = all_right (λ (report : ReportView). IsMetBy es report.pass) w.reports (reports_of ws) met in
      let here = All-head (λ (worker : WorkerValue M). 0 < worker.unrecorded → Failed) w ws counted in
      let worked : HasWorked board.origin.setting (length board.origin.opening) 0 Failed (end_of w.has_failed w.lacks_room) first most j.door w.door (history j.means) (history w.means) w.reports =
      worked_weaker here (rw (← hired.first_is, ← hired.count) done.worked) in (
        map (met_report board es known) w.reports,
        map (met_report board es known) (reports_of ws),
        map-append (met_report board es known) w.reports (reports_of ws),
        worked_met stays board es known board.origin.setting (length board.origin.opening) Failed (end_of w.has_failed w.lacks_room) end first most j.door w.door (history j.means) (history w.means) w.reports fault want worked mine,
        have_worked (first + most) js ws others rest (All-tail (λ (worker : WorkerValue M). 0 < worker.unrecorded → Failed) w ws counted) later,
      )
  have_worked first [] (w ∷ ws) done tells counted met = absurd done
  have_worked first (j ∷ js) [] done tells counted met = absurd done

-- the sessions of a worker's reports are numbered from its first one on
works_numbered : {h : Head} {low later first : ℕ} {Failed : Type 0} {door : DoorView} {means : MeansHistory} {reports : List ReportView} {door_now : DoorView} {means_now : MeansHistory}
    → Works h low later Failed first door means reports door_now means_now → (k : ℕ) → k < length reports → Contains (sessions_of reports) (first + k)
works_numbered nobody k lt = absurd (omega (arith, lt))
works_numbered {first = first} (next {reports} report link door_now means_now works answered from numbered heard) k lt = by_place (works_numbered works k) (cases_lt k (length reports))
  where
    sessions : sessions_of (reports ++ report ∷ []) ≡ sessions_of reports ++ report.session ∷ []
    sessions = map-append (λ (r : ReportView). r.session) reports (report ∷ [])

    long : length (reports ++ report ∷ []) ≡ length reports + 1
    long = length-append reports (report ∷ [])

    by_place : (k < length reports → Contains (sessions_of reports) (first + k)) → (k < length reports) ⊎ (length reports ≤ k) → Contains (sessions_of (reports ++ report ∷ [])) (first + k)
    by_place found (inl before) = rw (sessions) (Contains-append_left (sessions_of reports) (report.session ∷ []) (first + k) (found before))
    by_place found (inr behind) =
        let place : k ≡ length reports = (let whole = long in omega (arith, lt, behind, whole)) in
        rw (sessions) (Contains-append_right (sessions_of reports) (report.session ∷ []) (first + k) (0, omega arith, numbered.0 ∙ ap (λ n. first + n) (sym place)))

-- a report's session is that of its pass
pub works_same : {h : Head} {low later first : ℕ} {Failed : Type 0} {door : DoorView} {means : MeansHistory} {reports : List ReportView} {door_now : DoorView} {means_now : MeansHistory}
    → Works h low later Failed first door means reports door_now means_now → All (λ (report : ReportView). report.pass.session ≡ report.session) reports
works_same nobody = All-nil (λ (report : ReportView). report.pass.session ≡ report.session)
works_same (next {reports} report link door_now means_now works answered from numbered heard) = All-push (λ (r : ReportView). r.pass.session ≡ r.session) reports report (works_same works) numbered.1

-- a pass with a session, among those that are numbered so
numbered_at : (Q : PassValue Entry Head → Type 0) (start : ℕ) (passes : List (PassValue Entry Head)) → AreNumbered start passes → All Q passes
    → (s : ℕ) → start ≤ s → s < start + length passes → (pass : PassValue Entry Head) × (pass.session ≡ s) × Q pass
numbered_at Q start [] numbered each s low high = absurd (omega (arith, low, high))
numbered_at Q start (p ∷ ps) numbered each s low high = by_place (λ above. numbered_at Q (start + 1) ps numbered.1 (All-tail Q p ps each) s (omega (arith, above)) (omega (arith, high))) (cases_lt start s)
  where
    by_place : (start < s → (pass : PassValue Entry Head) × (pass.session ≡ s) × Q pass) → (start < s) ⊎ (s ≤ start) → (pass : PassValue Entry Head) × (pass.session ≡ s) × Q pass
    by_place later (inl above) = later above
    by_place later (inr here) = (let same : start ≡ s = omega (arith, low, here) in (p, numbered.0 ∙ same, All-head Q p ps each))

-- so many numbers, and as many more
mul_one : (n m : ℕ) → suc n * m ≡ m + n * m
mul_one n m = let e = suc-mul n m in omega (arith, e)

-- each number of the workers' sessions is that of a report, or of a pass that was not used
covers : {M : Type 0} (history : M → MeansHistory) (board : Identity Entry Head) (most : ℕ) (Q : PassValue Entry Head → Type 0) (first : ℕ) (hired workers : List (WorkerValue M)) → AreDone history board first most hired workers → All Q (unused_of workers)
    → (s : ℕ) → first ≤ s → s < first + length workers * most → Contains (sessions_of (reports_of workers)) s ⊎ ((pass : PassValue Entry Head) × (pass.session ≡ s) × Q pass)
covers history board most Q first [] [] done each s low high = absurd (omega (arith, low, high))
covers history board most Q first (j ∷ js) (w ∷ ws) (hired, done, others) each s low high =
    let more : length (w ∷ ws) * most ≡ most + length ws * most = mul_one (length ws) most in
    by_worker (λ above. covers history board most Q (first + most) js ws others (all_right Q w.passes (unused_of ws) each) s above (omega (arith, high, more))) (cases_lt s (first + most))
  where
    sessions : sessions_of (w.reports ++ reports_of ws) ≡ sessions_of w.reports ++ sessions_of (reports_of ws)
    sessions = map-append (λ (r : ReportView). r.session) w.reports (reports_of ws)

    own_passes : All Q w.passes
    own_passes = all_left Q w.passes (unused_of ws) each

    of_others : Contains (sessions_of (reports_of ws)) s ⊎ ((pass : PassValue Entry Head) × (pass.session ≡ s) × Q pass) → Contains (sessions_of (w.reports ++ reports_of ws)) s ⊎ ((pass : PassValue Entry Head) × (pass.session ≡ s) × Q pass)
    of_others (inl has) = inl (rw (sessions) (Contains-append_right (sessions_of w.reports) (sessions_of (reports_of ws)) s has))
    of_others (inr pass) = inr pass

    works : Works board.origin.setting (length board.origin.opening) 0 (0 < w.unrecorded) first j.door (history j.means) w.reports done.worked.door_then (history w.means)
    works = rw (← hired.first_is) done.worked.works

    of_mine : (s < first + length w.reports) ⊎ (first + length w.reports ≤ s) → s < first + most → Contains (sessions_of (w.reports ++ reports_of ws)) s ⊎ ((pass : PassValue Entry Head) × (pass.session ≡ s) × Q pass)
    of_mine (inl used) below =
        let place : first + (s - first) ≡ s = omega (arith, low) in
        let has = works_numbered works (s - first) (omega (arith, low, used)) in
        inl (rw (sessions) (Contains-append_left (sessions_of w.reports) (sessions_of (reports_of ws)) s (subst (Contains (sessions_of w.reports)) place has)))
    of_mine (inr unused) below =
        let count = done.count in
        let whole = hired.count in
        let start = hired.first_is in
        inr (numbered_at Q (j.first + length w.reports) w.passes done.numbered own_passes s (omega (arith, unused, start)) (omega (arith, below, count, whole, start)))

    by_worker : (first + most ≤ s → Contains (sessions_of (reports_of ws)) s ⊎ ((pass : PassValue Entry Head) × (pass.session ≡ s) × Q pass)) → (s < first + most) ⊎ (first + most ≤ s) → Contains (sessions_of (w.reports ++ reports_of ws)) s ⊎ ((pass : PassValue Entry Head) × (pass.session ≡ s) × Q pass)
    by_worker later (inl below) = of_mine (cases_lt s (first + length w.reports)) below
    by_worker later (inr above) = of_others (later above)
covers history board most Q first [] (w ∷ ws) done each s low high = absurd done
covers history board most Q first (j ∷ js) [] done each s low high = absurd done

-- a list with nothing of a session
own_absent : {E : Type 0} (session : E → ℕ) (xs : List E) (s : ℕ) → own session xs s ≡ [] → All (λ x. session x ≢ s) xs
own_absent session [] s none = All-nil (λ x. session x ≢ s)
own_absent session (x ∷ xs) s none = dite (ℕ_discrete (session x) s)
    (λ e. let there : x ∷ own session xs s ≡ [] = subst (λ b. cond b (x ∷ own session xs s) (own session xs s) ≡ []) (eq-eqb (session x) s e) none in absurd (cc there))
    (λ ne. All-cons (λ x. session x ≢ s) x xs ne (own_absent session xs s (subst (λ b. cond b (x ∷ own session xs s) (own session xs s) ≡ []) (ne_eqb (session x) s ne) none)))

-- what each element of a list is, by its membership
each_in : {X : Type 0} (P : X → Type 0) (xs : List X) → ((x : X) → Contains xs x → P x) → All P xs
each_in P xs each = All-weaker (Contains xs) P each xs (All-contains_itself xs)

-- sessions of which nothing stands in a list are none of its own
pub of_reports : {M E : Type 0} (history : M → MeansHistory) (session : E → ℕ) (xs all : List E) (board : Identity Entry Head) (most first : ℕ) (hired workers : List (WorkerValue M)) → AreDone history board first most hired workers
    → All (λ (pass : PassValue Entry Head). own session all pass.session ≡ []) (unused_of workers) → ((x : E) → Contains xs x → Contains all x)
    → All (λ x. (first ≤ session x) × (session x < first + length workers * most)) xs → All (λ x. Contains (sessions_of (reports_of workers)) (session x)) xs
of_reports history session xs all board most first hired workers done unused within bounds = each_in (λ x. Contains (sessions_of (reports_of workers)) (session x)) xs (λ x here. by_cover x here
    (covers history board most (λ (pass : PassValue Entry Head). own session all pass.session ≡ []) first hired workers done unused (session x)
    (All-contains (λ y. (first ≤ session y) × (session y < first + length workers * most)) xs x bounds here).0 (All-contains (λ y. (first ≤ session y) × (session y < first + length workers * most)) xs x bounds here).1))
  where
    by_cover : (x : _) → Contains xs x → Contains (sessions_of (reports_of workers)) (session x) ⊎ ((pass : PassValue Entry Head) × (pass.session ≡ session x) × (own session all pass.session ≡ [])) → Contains (sessions_of (reports_of workers)) (session x)
    by_cover x here (inl has) = has
    by_cover x here (inr (pass, same, none)) = absurd (All-contains (λ y. session y ≢ pass.session) all x (own_absent session all pass.session none) (within x here) (sym same))
