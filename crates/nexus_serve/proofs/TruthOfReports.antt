-- The reports of a service are true.
use Rattle.std.proofs.Common.{◌≡◌, ◌+◌, ◌++◌, ℕ, suc, List, [], ◌∷◌, length, map, Option, Some, None, refl, sym, ap, subst, ◌∙◌, append_assoc}
use Rattle.std.proofs.lemmas.List.{append-nil}
use Rattle.std.proofs.lemmas.List.Elements.{All-cons, All-nil, All-tail, All-head}
use Rattle.std.specs.Prelude.{All}
use Rattle.nx_io.specs.Views.{DoorView, RecorderView, SinkView}
use Rattle.policy_history.specs.declared.heads.Head.{Head}
use Rattle.policy_history.specs.declared.events.Entry.{Entry}
use Rattle.policy_history.specs.Events.{EntryTree}
use Rattle.policy_history.specs.Values.{History, entry_trees}
use Rattle.nx_io.specs.Streams.{gained}
use Rattle.authority_ask.specs.PanelCalls.{HasOnlyAsked, PanelCall, PanelHistory, asked_since, said_in}
use Rattle.authority_ask.proofs.ForCallers.{only_nothing, only_through, since_nothing, since_through}
use Rattle.nexus_serve.specs.declared.means.Means.{Means}
use Rattle.nexus_serve.specs.Means.{MeansHistory, means_history}
use Rattle.authority_ask.specs.Panels.{Told}
use Rattle.session_core.specs.Earned.{IsTrueReport}
use Rattle.session_core.specs.Records.{Kept}
use Rattle.session_core.specs.Served.{IsServedSo}
use Rattle.session_core.proofs.ForCallers.{report_is_true}
use Rattle.nexus_serve.specs.declared.closing.ServeEnd.{ServeEnd}
use Rattle.nexus_serve.specs.TrueReports.{AreTrue, asked_between, asked_by, asked_of}
use Rattle.nexus_serve.specs.Views.{ReportView, reported}
use Rattle.nexus_serve.specs.Workers.{HaveWorked, Works, nobody, next}
use Rattle.nexus_serve.specs.Services.{HasSeenAll, IsJournal, ServedView, Serves}
use Rattle.nexus_serve.specs.Services as service
use Rattle.nexus_serve.specs.Hosting.{HostedView, Hosts, IsPanelShare, Plan}
use Rattle.nexus_serve.specs.Hosting as host

-- a session was told what its report says, with these asks
abbrev pub IsServedReport : Head → ℕ → ℕ → List Told → ReportView → Type 0
IsServedReport h low later asks report = (kept : Kept) × (kept_now : Kept) × IsServedSo h low (reported report) asks later kept kept_now

-- so it is with these sessions, whose asks are these, session by session
abbrev AreServed : Head → ℕ → ℕ → List Told → List ReportView → Type 0
AreServed h low later asks [] = asks ≡ []
AreServed h low later asks (report ∷ reports) = (mine : List Told) × (others : List Told) × (asks ≡ mine ++ others) × IsServedReport h low later mine report × AreServed h low later others reports

module _ (h : Head) (low later : ℕ) where
  served_append : (first second : List ReportView) (asks more : List Told) → AreServed h low later asks first → AreServed h low later more second
      → AreServed h low later (asks ++ more) (first ++ second)
  served_append [] second asks more none there = subst (λ (told : List Told). AreServed h low later (told ++ more) second) (sym none) there
  served_append (report ∷ reports) second asks more (mine, others, is, served, behind) there =
      (mine, others ++ more, ap (λ (told : List Told). told ++ more) is ∙ append_assoc mine others more, served, served_append reports second others more behind there)

  works_served : {Failed : Type 0} {first : ℕ} {door : DoorView} {means : MeansHistory} {reports : List ReportView} {door_now : DoorView} {means_now : MeansHistory} → Works h low later Failed first door means reports door_now means_now
      → HasOnlyAsked means.panel means_now.panel × AreServed h low later (asked_since means.panel means_now.panel) reports
  works_served {means = means} nobody = (only_nothing means.panel, since_nothing means.panel)
  works_served {means = means} (next {reports = before} {means_then = means_then} report link door_now means_now works answered came numbered heard) =
      let earlier = works_served works in
      let mine : IsServedReport h low later (asked_since means_then.panel means_now.panel) report = (_, _, heard.served) in
      let alone : AreServed h low later (asked_since means_then.panel means_now.panel) (report ∷ []) = (_, [], sym (append-nil (asked_since means_then.panel means_now.panel)), mine, refl) in (
        only_through means.panel means_then.panel means_now.panel earlier.0 heard.asked,
        subst (λ (told : List Told). AreServed h low later told (before ++ report ∷ [])) (sym (since_through means.panel means_then.panel means_now.panel earlier.0 heard.asked))
            (served_append before (report ∷ []) _ _ earlier.1 alone),
      )

  have_served : (Failed : Type 0) (end : ServeEnd) (first most : ℕ) (doors doors_now : List DoorView) (means means_now : List MeansHistory) (reports : List ReportView)
      → HaveWorked h low later Failed end first most doors doors_now means means_now reports → AreServed h low later (asked_between means means_now) reports
  have_served Failed end first most [] [] [] [] reports none = subst (AreServed h low later []) (sym none) refl
  have_served Failed end first most (d ∷ ds) (e ∷ es) (p ∷ ps) (q ∷ qs) reports w =
      subst (AreServed h low later (asked_between (p ∷ ps) (q ∷ qs))) (sym w.2)
      (served_append w.0 w.1 _ _ (works_served w.3.works).1 (have_served Failed end (first + most) most ds es ps qs w.1 w.4))
  have_served Failed end first most _ _ _ _ reports w = absurd w

  -- as many have worked as there are means
  have_means : (Failed : Type 0) (end : ServeEnd) (first most : ℕ) (doors doors_now : List DoorView) (means means_now : List MeansHistory) (reports : List ReportView)
      → HaveWorked h low later Failed end first most doors doors_now means means_now reports → length means ≡ length means_now
  have_means Failed end first most [] [] [] [] reports none = refl
  have_means Failed end first most (d ∷ ds) (e ∷ es) (p ∷ ps) (q ∷ qs) reports w = ap suc (have_means Failed end (first + most) most ds es ps qs w.1 w.4)
  have_means Failed end first most _ _ _ _ reports w = absurd w

-- a session was told what its report says, with some asks
abbrev pub IsServedSome : Head → ℕ → ℕ → ReportView → Type 0
IsServedSome h low later report = (asks : List Told) × IsServedReport h low later asks report

some_served : (h : Head) (low later : ℕ) (asks : List Told) (reports : List ReportView) → AreServed h low later asks reports → All (IsServedSome h low later) reports
some_served h low later asks [] none = All-nil (IsServedSome h low later)
some_served h low later asks (report ∷ reports) (mine, others, is, served, behind) =
    All-cons (IsServedSome h low later) report reports (mine, served) (some_served h low later others reports behind)

-- each session that was served by workers
pub each_served : (h : Head) (low later : ℕ) (Failed : Type 0) (end : ServeEnd) (first most : ℕ) (doors doors_now : List DoorView) (means means_now : List MeansHistory) (reports : List ReportView)
    → HaveWorked h low later Failed end first most doors doors_now means means_now reports → All (IsServedSome h low later) reports
each_served h low later Failed end first most doors doors_now means means_now reports w =
    some_served h low later (asked_between means means_now) reports (have_served h low later Failed end first most doors doors_now means means_now reports w)

-- each report whose pass has seen the whole journal is true of it
all_true : (h : Head) (es : List Entry) (low later : ℕ) (asks : List Told) (reports : List ReportView) → AreServed h low later asks reports → All (HasSeenAll es) reports
    → AreTrue h (entry_trees es) low asks reports
all_true h es low later asks [] none seen = none
all_true h es low later asks (report ∷ reports) (mine, others, is, served, behind) seen =
    let whole = All-head (HasSeenAll es) report reports seen in
    let here : IsTrueReport h (entry_trees es) low (reported report) mine =
    subst (λ (xs : List EntryTree). IsTrueReport h xs low (reported report) mine) (ap entry_trees whole.seen) (report_is_true served.2) in
    (mine, others, is, here, all_true h es low later others reports behind (All-tail (HasSeenAll es) report reports seen))

-- a journal has one list of entries
same_entries : (journal : Option History) (h : Head) (es es2 : List Entry) → IsJournal journal h es → IsJournal journal h es2 → es2 ≡ es
same_entries None h es es2 is is2 = absurd is
same_entries (Some journal) h es es2 is is2 = sym is2.1 ∙ is.1

-- no report is false where there is none, and nobody was asked
pub none_true : (h : Head) (es : List EntryTree) (low : ℕ) (asks : List Told) (reports : List ReportView) → reports ≡ [] → asks ≡ [] → AreTrue h es low asks reports
none_true h es low asks reports none unasked = subst (AreTrue h es low asks) (sym none) unasked

-- nothing is asked between a moment and itself
none_between : (means : List MeansHistory) → asked_between means means ≡ []
none_between [] = refl
none_between (own ∷ means) = ap (λ (told : List Told). told ++ asked_between means means) (since_nothing own.panel) ∙ none_between means

pub same_between : {M : Type 0} (history : M → MeansHistory) (means means_now : List M) → means_now ≡ means → asked_between (map history means) (map history means_now) ≡ []
same_between history means means_now same = subst (λ (now : List _). asked_between (map history means) (map history now) ≡ []) (sym same) (none_between (map history means))

-- what is handed back of a service, over the journal that is handed back
pub serves_true : {M : Type 0} {history : M → MeansHistory} {sessions : ℕ} {h : Head} {opening : List Entry} {sink : SinkView} {doors : List DoorView} {means : List M} {served : ServedView M} (es : List Entry)
    → Serves history sessions h opening sink doors means served → IsJournal served.journal h es
    → AreTrue h (entry_trees es) (length opening) (asked_between (map history means) (map history served.means)) served.reports
serves_true {history = history} {h = h} {opening = opening} {means = means} {served = served} es (service.done es2 sink_now journal sink_is is_served text lasts) is =
    let same = same_entries served.journal h es es2 is journal in
    let all = have_served h (length opening) 1 _ _ _ _ _ _ _ _ served.reports is_served.worked in
    subst (λ (xs : List Entry). AreTrue h (entry_trees xs) (length opening) (asked_between (map history means) (map history served.means)) served.reports) same
    (all_true h es2 (length opening) 1 _ served.reports all is_served.seen)
serves_true {history = history} {h = h} {opening = opening} {means = means} {served = served} es (service.unopened sink_now journal sink_is sends rose none doors_are means_are written ends) is =
    none_true h (entry_trees es) (length opening) _ _ none (same_between history means served.means means_are)
serves_true {history = history} {h = h} {opening = opening} {means = means} {served = served} es (service.no_memory journal sink_is none doors_are means_are written ends) is =
    none_true h (entry_trees es) (length opening) _ _ none (same_between history means served.means means_are)

-- a service hands back as many means as it was handed
same_count : {M : Type 0} {history : M → MeansHistory} {sessions : ℕ} {h : Head} {opening : List Entry} {sink : SinkView} {doors : List DoorView} {means : List M} {served : ServedView M}
    → Serves history sessions h opening sink doors means served → length (map history means) ≡ length (map history served.means)
same_count {h = h} {opening = opening} {served = served} (service.done es sink_now journal sink_is is_served text lasts) = have_means h (length opening) 1 _ _ _ _ _ _ _ _ served.reports is_served.worked
same_count {history = history} (service.unopened sink_now journal sink_is sends rose none doors_are means_are written ends) = ap (λ (ms : List _). length (map history ms)) (sym means_are)
same_count {history = history} (service.no_memory journal sink_is none doors_are means_are written ends) = ap (λ (ms : List _). length (map history ms)) (sym means_are)

-- a journal has one head
same_head : (journal : Option History) (h h2 : Head) (es es2 : List Entry) → IsJournal journal h es → IsJournal journal h2 es2 → h2 ≡ h
same_head None h h2 es es2 is is2 = absurd is
same_head (Some journal) h h2 es es2 is is2 = sym is2.0 ∙ is.0

-- the head of the journal that a service hands back is its own
served_head : {M : Type 0} {history : M → MeansHistory} {sessions : ℕ} {h : Head} {opening : List Entry} {sink : SinkView} {doors : List DoorView} {means : List M} {served : ServedView M} (h2 : Head) (es : List Entry)
    → Serves history sessions h opening sink doors means served → IsJournal served.journal h2 es → h2 ≡ h
served_head {h = h} {served = served} h2 es (service.done es2 sink_now journal sink_is is_served text lasts) is = same_head served.journal h h2 es2 es journal is
served_head {h = h} {opening = opening} {served = served} h2 es (service.unopened sink_now journal sink_is sends rose none doors_are means_are written ends) is = same_head served.journal h h2 opening es journal is
served_head {h = h} {opening = opening} {served = served} h2 es (service.no_memory journal sink_is none doors_are means_are written ends) is = same_head served.journal h h2 opening es journal is

-- what shares were asked that had been asked nothing
fresh_between : (means means_now : List MeansHistory) → All (λ (own : MeansHistory). own.panel.calls ≡ []) means → length means ≡ length means_now → asked_between means means_now ≡ asked_of means_now
fresh_between [] [] fresh same = refl
fresh_between [] (own_now ∷ means_now) fresh same = absurd (cc same)
fresh_between (own ∷ means) [] fresh same = absurd (cc same)
fresh_between (own ∷ means) (own_now ∷ means_now) fresh same =
    let first : asked_since own.panel own_now.panel ≡ said_in own_now.panel.calls =
    ap (λ (calls : List PanelCall). said_in (gained calls own_now.panel.calls)) (All-head (λ (m : MeansHistory). m.panel.calls ≡ []) own means fresh) in
    ap (λ (told : List Told). told ++ asked_between means means_now) first
    ∙ ap (λ (told : List Told). said_in own_now.panel.calls ++ told) (fresh_between means means_now (All-tail (λ (m : MeansHistory). m.panel.calls ≡ []) own means fresh) (cc same))

shares_fresh : {P C : Type 0} (panel : P → PanelHistory) (maker : PanelHistory) (means : List (Means P C)) → All (λ (own : Means P C). IsPanelShare maker (panel own.panel)) means
    → All (λ (own : MeansHistory). own.panel.calls ≡ []) (map (means_history panel) means)
shares_fresh panel maker [] shares = All-nil (λ (own : MeansHistory). own.panel.calls ≡ [])
shares_fresh panel maker (own ∷ means) shares =
    All-cons (λ (m : MeansHistory). m.panel.calls ≡ []) (means_history panel own) (map (means_history panel) means)
    (ap (λ (history : PanelHistory). history.calls) (All-head (λ (m : Means _ _). IsPanelShare maker (panel m.panel)) own means shares))
    (shares_fresh panel maker means (All-tail (λ (m : Means _ _). IsPanelShare maker (panel m.panel)) own means shares))

-- where nothing was begun there is no journal
no_journal : (journal : Option History) (h : Head) (es : List Entry) → journal ≡ None → IsJournal journal h es → ⊥
no_journal None h es none is = is
no_journal (Some journal) h es none is = cc none

-- what a service at an address hands back
pub hosts_true : {P C : Type 0} {panel : P → PanelHistory} {plan : Plan} {h : Head} {opening : List Entry} {sink : SinkView} {door : DoorView} {asked : P} {recorder : Option RecorderView} {hosted : HostedView P C} (h2 : Head) (es : List Entry)
    → Hosts panel plan h opening sink door asked recorder hosted → IsJournal hosted.served.journal h2 es
    → AreTrue h2 (entry_trees es) (length opening) (asked_by panel hosted.served.means) hosted.served.reports
hosts_true {panel = panel} {h = h} {opening = opening} {hosted = hosted} h2 es (host.served doors means ready serves status) is =
    let same = served_head h2 es serves is in
    let asks = fresh_between (map (means_history panel) means) (map (means_history panel) hosted.served.means) (shares_fresh panel (panel hosted.panel) means ready.panel_shares) (same_count serves) in
    subst (λ (told : List Told). AreTrue h2 (entry_trees es) (length opening) told hosted.served.reports) asks
    (subst (λ (x : Head). AreTrue x (entry_trees es) (length opening) (asked_between (map (means_history panel) means) (map (means_history panel) hosted.served.means)) hosted.served.reports) (sym same)
    (serves_true es serves (subst (λ (x : Head). IsJournal hosted.served.journal x es) same is)))
hosts_true {hosted = hosted} h2 es (host.unreached status idle door_is none lost recorder_is) is = absurd (no_journal hosted.served.journal h2 es idle.journal is)
hosts_true {hosted = hosted} h2 es (host.unlent lent status idle door_is none all_shared reached failed) is = absurd (no_journal hosted.served.journal h2 es idle.journal is)
hosts_true {hosted = hosted} h2 es (host.unheard status idle all_shared reached lent failed) is = absurd (no_journal hosted.served.journal h2 es idle.journal is)
hosts_true {hosted = hosted} h2 es (host.unready lent status idle held) is = absurd (no_journal hosted.served.journal h2 es idle.journal is)
