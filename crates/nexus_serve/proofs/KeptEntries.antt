-- What a service leaves is written: its policy is read again as the program writes it.
use Rattle.std.proofs.Common.{◌≡◌, ◌<◌, ◌≤◌, ◌+◌, ◌*◌, ◌-◌, ◌^◌, ◌==◌, ℕ, true, List, [], ◌∷◌, ◌++◌, Contains, drop, length, length-append, take, refl, sym, ap, ◌∙◌, subst, arith}
use Rattle.std.specs.List.{All}
use Rattle.std.proofs.Math.Nat.{suc-mul}
use Rattle.std.proofs.Math.Seq.{drop-append_seam, take-append_seam}
use Rattle.std.proofs.lemmas.Bool.{eq-eqb}
use Rattle.std.proofs.lemmas.List.{map-append, take-map}
use Rattle.std.proofs.lemmas.List.Elements.{All-append, All-cons, All-contains, All-contains_itself, All-map, All-nil, All-weaker}
use Rattle.nx_io.specs.Views.{DoorView}
use Rattle.authority_ask.specs.Panels.{Told}
use Rattle.policy_history.specs.declared.events.Entry.{Entry}
use Rattle.policy_history.specs.declared.heads.Head.{Head}
use Rattle.policy_history.specs.Events.{EntryTree, entry_tree}
use Rattle.policy_history.specs.Values.{entry_trees, greatest_of}
use Rattle.session_wire.specs.declared.requests.Request.{Request}
use Rattle.session_wire.specs.declared.replies.Reply.{Reply}
use Rattle.session_wire.specs.Frames.{HasFrame}
use Rattle.journal_text.specs.CutLaws.{IsWritten}
use Rattle.journal_text.specs.PolicyLaws.{IsInSession, IsKeptEntry}
use Rattle.verdict_words.specs.declared.views.Item.{Item}
use Rattle.verdict_words.specs.declared.views.Item.TheVariants.{Met}
use Rattle.verdict_words.specs.Histories.{own}
use Rattle.verdict_words.specs.Rule.{last_met}
use Rattle.session_core.specs.declared.ends.SessionEnd.{SessionEnd}
use Rattle.session_core.specs.Ends.{HasEnded}
use Rattle.session_core.specs.Ends as ends
use Rattle.session_core.specs.Records.{Kept}
use Rattle.session_core.specs.Served.{IsServedSo}
use Rattle.session_core.proofs.ForCallers.{own_map}
use Rattle.told_records.specs.Audited.{IsKeptOf}
use Rattle.told_records.proofs.ForCallers.{added_are_kept}
use Rattle.nexus_serve.specs.declared.closing.ServeEnd.{ServeEnd}
use Rattle.nexus_serve.specs.Means.{MeansHistory}
use Rattle.nexus_serve.specs.Views.{ReportView, reported}
use Rattle.nexus_serve.specs.Services.{HasSeenAll, IsServed, sessions_of}
use Rattle.nexus_serve.specs.Workers.{HaveWorked, Stops, Works, nobody, next}
use Rattle.nexus_serve.specs.Workers as work
use Rattle.nexus_serve.proofs.Lists.{all_both, all_right, all_unfilter, all_unmap}
use Rattle.nexus_serve.proofs.TruthOfReports.{IsServedSome, each_served}

-- ---- The sessions are numbered within their workers' numbers

abbrev IsBetween : ℕ → ℕ → ReportView → Type 0
IsBetween first bound report = (first ≤ report.session) × (report.session < bound)

wider : (first low bound high : ℕ) (reports : List ReportView) → low ≤ first → bound ≤ high → All (IsBetween first bound) reports → All (IsBetween low high) reports
wider first low bound high reports less more all =
    All-weaker (IsBetween first bound) (IsBetween low high) (λ report between. let from = between.0 in let to = between.1 in (omega (arith, less, from), omega (arith, more, to))) reports all

works_between : {h : Head} {low later first : ℕ} {Failed : Type 0} {door : DoorView} {means : MeansHistory} {reports : List ReportView} {door_now : DoorView} {means_now : MeansHistory}
    → Works h low later Failed first door means reports door_now means_now → All (IsBetween first (first + length reports)) reports
works_between {first = first} nobody = All-nil (IsBetween first (first + 0))
works_between {first = first} (next {reports = before} report link door_now means_now works answered came numbered heard) =
    let long = length-append before (report ∷ []) in
    let number = numbered.0 in
    let bound : ℕ = first + length (before ++ report ∷ []) in
    let here : IsBetween first bound report = (omega (arith, number), omega (arith, number, long)) in
    All-append (IsBetween first bound) before (report ∷ []) (wider first first (first + length before) bound before (omega arith) (omega (arith, long)) (works_between works))
    (All-cons (IsBetween first bound) report [] here (All-nil (IsBetween first bound)))

few_served : {end : ServeEnd} {most count : ℕ} {door door_now : DoorView} → Stops end most count door door_now → count ≤ most
few_served (work.all same still) = omega (arith, same)
few_served (work.no_more fewer answered) = omega (arith, fewer)
few_served (work.failed fewer answered ends) = omega (arith, fewer)
few_served (work.no_room fewer still ends) = omega (arith, fewer)

workers_between : (h : Head) (low later : ℕ) (Failed : Type 0) (end : ServeEnd) (first most : ℕ) (doors doors_now : List DoorView) (means means_now : List MeansHistory) (reports : List ReportView)
    → HaveWorked h low later Failed end first most doors doors_now means means_now reports → All (IsBetween first (first + length doors * most)) reports
workers_between h low later Failed end first most [] [] [] [] reports none = subst (All (IsBetween first (first + 0 * most))) (sym none) (All-nil (IsBetween first (first + 0 * most)))
workers_between h low later Failed end first most (d ∷ ds) (e ∷ es) (p ∷ ps) (q ∷ qs) reports w =
    let few = few_served w.3.stops in
    let sum = suc-mul (length ds) most in
    let bound : ℕ = first + length (d ∷ ds) * most in
    let mine = wider first first (first + length w.0) bound w.0 (omega arith) (omega (arith, few, sum)) (works_between w.3.works) in
    let others = wider (first + most) first (first + most + length ds * most) bound w.1 (omega arith) (omega (arith, sum)) (workers_between h low later Failed end (first + most) most ds es ps qs w.1 w.4) in
    subst (All (IsBetween first bound)) (sym w.2) (All-append (IsBetween first bound) w.0 w.1 mine others)
workers_between h low later Failed end first most _ _ _ _ reports w = absurd w

-- ---- What a session added is kept

framed : {end : SessionEnd} {taken sent : List ℕ} {requests : List Request} {replies : List Reply} → HasEnded end taken sent requests replies → All HasFrame requests
framed (ends.closed is spelled few sends) = spelled.fit
framed (ends.torn rest is spelled some part few sends) = spelled.fit
framed (ends.bad_frame place is bad few sends) = bad.spelled.fit
framed (ends.read_fault rest is spelled part few sends) = spelled.fit
framed (ends.reply_unsent before last n is spelled few all less sends) = spelled.fit
framed (ends.bad_unsent place n is bad few less sends) = bad.spelled.fit
framed (ends.spent is spelled all sends) = spelled.fit
framed (ends.no_memory is none unsent unasked untold) = subst (All HasFrame) (sym unasked) (All-nil HasFrame)

-- a trail without its last item
without_last : (trail before : List Item) (last : Item) → trail ≡ before ++ last ∷ [] → take (length trail - 1) trail ≡ before
without_last trail before last is =
    let long = ap length is ∙ length-append before (last ∷ []) in
    let count : length trail - 1 ≡ length before = omega (arith, long) in
    ap (λ (n : ℕ). take n trail) count ∙ ap (take (length before)) is ∙ take-append_seam before (last ∷ [])

abbrev tree_session : EntryTree → ℕ
tree_session e = e.session

module _ (h : Head) (es : List Entry) where
  -- all entries of a session are those that it added
  own_kept : {low : ℕ} {asks : List Told} {kept kept_now : Kept} (report : ReportView) → IsServedSo h low (reported report) asks 1 kept kept_now → HasSeenAll es report
      → All (IsKeptOf report.session) (own tree_session (entry_trees es) report.session)
  own_kept report served whole =
      let s = report.session in
      let told = served.told in
      let n = last_met whole.before in
      let added = added_are_kept h _ s _ served.requests served.replies _ _ served.last (framed served.ended) told in
      let cut : own tree_session (take (last_met (take (length report.pass.trail - 1) report.pass.trail)) (entry_trees report.pass.seen)) s ≡ own tree_session (take n (entry_trees es)) s =
      ap (λ (xs : List Item). own tree_session (take (last_met xs) (entry_trees report.pass.seen)) s) (without_last report.pass.trail whole.before (Met (length es)) whole.trail)
      ∙ ap (λ (xs : List Entry). own tree_session (take n (entry_trees xs)) s) whole.seen in
      let front : own tree_session (take n (entry_trees es)) s ≡ own tree_session (entry_trees es) s =
      ap (λ (xs : List EntryTree). own tree_session xs s) (take-map entry_tree n es) ∙ own_map (take n es) s ∙ ap entry_trees (sym whole.own_is) ∙ sym (own_map es s) in
      subst (All (IsKeptOf s)) (sym told.entries ∙ cut ∙ front) added

  -- a number of a session all of whose entries are kept
  record HasKept (s : ℕ) : Type 0 where
    pub entries : All (IsKeptOf s) (own tree_session (entry_trees es) s)
    pub first : 1 ≤ s
    pub small : s < 2 ^ 64

  -- an entry of such a session is kept
  kept_in : (opening more : List Entry) (s : ℕ) → es ≡ opening ++ more → HasKept s → (e : Entry) → Contains more e → e.session ≡ s → IsKeptEntry (entry_tree e) × IsInSession (entry_tree e)
  kept_in opening more s is has e here of_session =
      let Kept : EntryTree → Type 0 = λ t. (t.session == s) ≡ true → IsKeptOf s t in
      let each : All (λ (x : Entry). Kept (entry_tree x)) es = all_unmap Kept entry_tree es (all_unfilter (λ (t : EntryTree). t.session == s) (IsKeptOf s) (entry_trees es) has.entries) in
      let mine = All-contains (λ (x : Entry). Kept (entry_tree x)) more e (all_right (λ (x : Entry). Kept (entry_tree x)) opening more (subst (All (λ (x : Entry). Kept (entry_tree x))) is each)) here (eq-eqb e.session s of_session) in
      let first = has.first in
      let small = has.small in
      (record { session = omega (arith, of_session, small); event = mine.1 }, omega (arith, of_session, first))

-- ---- The policy of the journal

-- each number of a reported session is such a one
sessions_kept : (h : Head) (opening es : List Entry) (first most : ℕ) (reports : List ReportView) → All (IsServedSome h (length opening) 1) reports → All (HasSeenAll es) reports
    → All (IsBetween first most) reports → 1 ≤ first → most ≤ 2 ^ 64 → All (HasKept h es) (sessions_of reports)
sessions_kept h opening es first most reports served seen between positive small =
    let Session : ReportView → ℕ = λ report. report.session in
    let Told : ReportView → Type 0 = IsServedSome h (length opening) 1 in
    let both = all_both Told (HasSeenAll es) reports served seen in
    let all = all_both (λ report. Told report × HasSeenAll es report) (IsBetween first most) reports both between in
    All-map (HasKept h es) Session reports
    (All-weaker (λ report. (Told report × HasSeenAll es report) × IsBetween first most report) (λ report. HasKept h es (Session report))
    (λ report it. let from = it.1.0 in let to = it.1.1 in record { entries = own_kept h es report it.0.0.1.2 it.0.1; first = omega (arith, positive, from); small = omega (arith, small, to) }) reports all)

-- so each entry of one is kept
more_kept : (h : Head) (opening es : List Entry) (reports : List ReportView) (more : List Entry) → es ≡ opening ++ more → All (HasKept h es) (sessions_of reports)
    → All (λ (e : Entry). Contains (sessions_of reports) e.session) more → All (λ (e : Entry). IsKeptEntry (entry_tree e) × IsInSession (entry_tree e)) more
more_kept h opening es reports more is sessions made =
    All-weaker (λ (e : Entry). Contains more e × Contains (sessions_of reports) e.session) (λ (e : Entry). IsKeptEntry (entry_tree e) × IsInSession (entry_tree e))
    (λ e it. kept_in h es opening more e.session is (All-contains (HasKept h es) (sessions_of reports) e.session sessions it.1) e it.0 refl) more
    (all_both (Contains more) (λ (e : Entry). Contains (sessions_of reports) e.session) more (All-contains_itself more) made)

-- what a service leaves that began with a policy that is read again
pub served_written : {h : Head} {opening es : List Entry} {Failed : Type 0} {sessions : ℕ} {doors doors_now : List DoorView} {means means_now : List MeansHistory} {reports : List ReportView} {end : ServeEnd}
    → IsServed h opening es Failed sessions doors doors_now means means_now reports end → greatest_of (entry_trees opening) + length doors * sessions ≤ 2 ^ 64 - 2
    → IsWritten h (entry_trees opening) → IsWritten h (entry_trees es)
served_written {h} {opening} {es} {Failed} {sessions} {doors} {doors_now} {means} {means_now} {reports} {end} served room written =
    let (more, is) = served.begins in
    let first = greatest_of (entry_trees opening) + 1 in
    let between = workers_between h (length opening) 1 Failed end first sessions doors doors_now means means_now reports served.worked in
    let all = sessions_kept h opening es first (first + length doors * sessions) reports (each_served h (length opening) 1 Failed end first sessions doors doors_now means means_now reports served.worked) served.seen between (omega arith) (omega (arith, room)) in
    let behind : drop (length opening) es ≡ more = ap (drop (length opening)) is ∙ drop-append_seam opening more in
    let kept = more_kept h opening es reports more is all (subst (All (λ (e : Entry). Contains (sessions_of reports) e.session)) behind served.made) in
    let trees : entry_trees es ≡ entry_trees opening ++ entry_trees more = ap entry_trees is ∙ map-append entry_tree opening more in
    let Both : Entry → Type 0 = λ e. IsKeptEntry (entry_tree e) × IsInSession (entry_tree e) in
    record {
      head = written.head;
      entries = subst (All IsKeptEntry) (sym trees) (All-append IsKeptEntry (entry_trees opening) (entry_trees more) written.entries
          (All-map IsKeptEntry entry_tree more (All-weaker Both (λ (e : Entry). IsKeptEntry (entry_tree e)) (λ e it. it.0) more kept)));
      sessions = subst (All IsInSession) (sym trees) (All-append IsInSession (entry_trees opening) (entry_trees more) written.sessions
          (All-map IsInSession entry_tree more (All-weaker Both (λ (e : Entry). IsInSession (entry_tree e)) (λ e it. it.1) more kept)));
      legal = served.legal;
    }
