-- What a service recorded is audited.
use Rattle.std.proofs.Common.{◌≡◌, ◌≤◌, ◌+◌, ◌*◌, ◌-◌, ◌^◌, ℕ, List, [], ◌∷◌, ◌++◌, codes, Bool, drop, length, map, take, Option, Some, None, refl, sym, ap, subst, ◌∙◌, append_assoc}
use Rattle.std.specs.Prelude.{replicate}
use Rattle.std.specs.List.{All}
use Rattle.std.proofs.lemmas.List.{append-nil, take-append-drop}
use Rattle.std.proofs.lemmas.List.Elements.{All-append, All-replicate}
use Rattle.nx_io.specs.Streams.{Rose, gained}
use Rattle.nx_io.proofs.ForCallers.{gained-by}
use Rattle.nx_io.specs.Views.{DoorView, RecorderView, SinkView}
use Rattle.authority_ask.specs.PanelCalls.{PanelHistory}
use Rattle.policy_history.specs.declared.events.Entry.{Entry}
use Rattle.policy_history.specs.declared.heads.Head.{Head}
use Rattle.policy_history.specs.Events.{EntryTree}
use Rattle.policy_history.specs.PolicyTexts.{ended, front, line_of, policy_text}
use Rattle.policy_history.specs.Values.{entry_trees, greatest_of}
use Rattle.journal_text.specs.CutLaws.{IsWritten}
use Rattle.journal_text.specs.CutPolicies.{ReadsCut}
use Rattle.journal_text.proofs.LawsForCallers.{printed_is_read, whole_is_recovered}
use Rattle.kept_policies.proofs.ForCallers.{recovered_end, recovered_entry}
use Rattle.session_core.specs.Records.{Kept, unwanted}
use Rattle.told_records.specs.Audited.{AreAudited, HaveRightLines, IsFresh, RecoversTo}
use Rattle.told_records.specs.Recordings.{AreRightLines}
use Rattle.told_records.proofs.ForCallers.{fresh_keepers_are_audited, nothing, one_behind_the_other, recorded_is_right, right_keepers_are_audited}
use Rattle.nexus_serve.specs.declared.closing.ServeEnd.{ServeEnd}
use Rattle.nexus_serve.specs.declared.means.Means.{Means}
use Rattle.nexus_serve.specs.Hosting.{HaveShares, HostedView, Hosts, IsIdle, Plan, kept_first, kept_of}
use Rattle.nexus_serve.specs.Hosting as host
use Rattle.nexus_serve.specs.Means.{MeansHistory, means_history}
use Rattle.nexus_serve.specs.Views.{ReportView}
use Rattle.nexus_serve.specs.Services.{HasSeenAll, IsTextSent, ServedView, Serves}
use Rattle.nexus_serve.specs.Services as service
use Rattle.nexus_serve.specs.Workers.{HaveWorked, Works, nobody, next}
use Rattle.nexus_serve.proofs.KeptEntries.{served_written}
use Rattle.nexus_serve.proofs.Lists.{all_last, all_left, all_right}

-- ---- The lines of a worker, and of all

module _ {h : Head} {es : List Entry} (written : IsWritten h (entry_trees es)) where
  works_right : {low later first : ℕ} {Failed : Type 0} {door : DoorView} {means : MeansHistory} {reports : List ReportView} {door_now : DoorView} {means_now : MeansHistory}
      → Works h low later Failed first door means reports door_now means_now → All (HasSeenAll es) reports → AreRightLines h (entry_trees es) means.kept means_now.kept
  works_right nobody seen = nothing h (entry_trees es) refl
  works_right {means = means} (next {reports = before} {means_then = means_then} report link door_now means_now works answered came numbered heard) seen =
      let whole = all_last (HasSeenAll es) before report seen in
      let IsRight : List Entry → Type 0 = λ xs. IsWritten h (entry_trees xs) → AreRightLines h (entry_trees xs) means_then.kept means_now.kept in
      let here : IsRight report.pass.seen =
      λ w. recorded_is_right h (entry_trees report.pass.seen) report.session _ heard.served.requests heard.served.replies _ _ heard.served.last means_then.kept means_now.kept w (heard.served.told, heard.served.noted) in
      one_behind_the_other h (entry_trees es) means.kept means_then.kept means_now.kept (works_right works (all_left (HasSeenAll es) before (report ∷ []) seen)) (subst IsRight whole.seen here written)

  have_right : (low later : ℕ) (Failed : Type 0) (end : ServeEnd) (first most : ℕ) (doors doors_now : List DoorView) (means means_now : List MeansHistory) (reports : List ReportView)
      → HaveWorked h low later Failed end first most doors doors_now means means_now reports → All (HasSeenAll es) reports
      → HaveRightLines h (entry_trees es) (map (λ (own : MeansHistory). own.kept) means) (map (λ (own : MeansHistory). own.kept) means_now)
  have_right low later Failed end first most [] [] [] [] reports none seen = tt
  have_right low later Failed end first most (d ∷ ds) (e ∷ es2) (p ∷ ps) (q ∷ qs) reports w seen =
      let split = subst (All (HasSeenAll es)) w.2 seen in
      (works_right w.3.works (all_left (HasSeenAll es) w.0 w.1 split), have_right low later Failed end (first + most) most ds es2 ps qs w.1 w.4 (all_right (HasSeenAll es) w.0 w.1 split))
  have_right low later Failed end first most _ _ _ _ reports w seen = absurd w

-- ---- The text

-- what is recovered from the text of a service begins with its policy
text_recovers : {h : Head} (es : List Entry) {written : Bool} {start : List ℕ} {faults : ℕ} {sink_now : SinkView} → IsWritten h (entry_trees es) → IsTextSent h (entry_trees es) written start faults sink_now
    → RecoversTo (gained start sink_now.sent) h (entry_trees es)
text_recovers {h} es {start = start} {sink_now = sink_now} written text = of text
  where
    trees : List EntryTree
    trees = entry_trees es

    goes_on : (more : List ℕ) → sink_now.sent ≡ start ++ (front h trees ++ more) → ((g : Head) (fs : List EntryTree) → ReadsCut (front h trees ++ more) g fs → (g ≡ h) × (later : List EntryTree) × (fs ≡ trees ++ later))
        → RecoversTo (gained start sink_now.sent) h trees
    goes_on more sends recovers = λ g fs reads. recovers g fs (subst (λ (t : List ℕ). ReadsCut t g fs) (gained-by start sink_now.sent (front h trees ++ more) sends) reads)

    of : {w : Bool} {f : ℕ} → IsTextSent h trees w start f sink_now → RecoversTo (gained start sink_now.sent) h trees
    of (service.whole is sends all still) =
        goes_on (ended (codes "end")) sends (recovered_end h trees (ended (codes "end")) [] written (sym (append-nil (ended (codes "end")))))
    of (service.line_cut entry is accepted (n, short, sends) rose) =
        goes_on (take n (line_of h entry)) (sends ∙ append_assoc start (front h trees) (take n (line_of h entry)))
        (recovered_entry h trees entry (take n (line_of h entry)) (drop n (line_of h entry)) written accepted (sym (take-append-drop n (line_of h entry))))
    of (service.end_cut is (n, short, sends) rose) =
        goes_on (take n (ended (codes "end"))) (sends ∙ append_assoc start (front h trees) (take n (ended (codes "end"))))
        (recovered_end h trees (take n (ended (codes "end"))) (drop n (ended (codes "end"))) written (sym (take-append-drop n (ended (codes "end")))))

-- where the sink did not fail it is the policy's, whole
text_reads : {h : Head} (es : List Entry) {written : Bool} {start : List ℕ} {faults : ℕ} {sink_now : SinkView} → IsWritten h (entry_trees es) → IsTextSent h (entry_trees es) written start faults sink_now
    → ¬ Rose faults sink_now.faults → ReadsCut (gained start sink_now.sent) h (entry_trees es)
text_reads {h} es {start = start} {sink_now = sink_now} written (service.whole is sends all still) unfailed =
    let trees = entry_trees es in
    let reads = printed_is_read h trees written.head written.entries written.sessions written.legal in
    subst (λ (t : List ℕ). ReadsCut t h trees) (sym (gained-by start sink_now.sent (policy_text h trees) sends)) (whole_is_recovered (policy_text h trees) h trees reads)
text_reads es written (service.line_cut entry is accepted sends rose) unfailed = absurd (unfailed rose)
text_reads es written (service.end_cut is sends rose) unfailed = absurd (unfailed rose)

-- ---- What is handed back

-- what these keepers have is audited over the text that this sink was sent
abbrev pub IsAuditedOver : SinkView → SinkView → List Kept → Type 0
IsAuditedOver sink sink_now keepers = AreAudited sink.faults sink_now.faults (gained sink.sent sink_now.sent) keepers

-- what keepers keep, by what the means of workers tell
abbrev keepers_of : {M : Type 0} → (M → MeansHistory) → List M → List Kept
keepers_of history means = map (λ own. (history own).kept) means

keepers_twice : {M : Type 0} (history : M → MeansHistory) (means : List M) → map (λ (own : MeansHistory). own.kept) (map history means) ≡ keepers_of history means
keepers_twice history [] = refl
keepers_twice history (own ∷ means) = ap (λ (ks : List Kept). (history own).kept ∷ ks) (keepers_twice history means)

pub serves_audited : {M : Type 0} {history : M → MeansHistory} {sessions : ℕ} {h : Head} {opening : List Entry} {sink : SinkView} {doors : List DoorView} {means : List M} {served : ServedView M}
    → IsWritten h (entry_trees opening) → (workers : ℕ) → length doors ≡ workers → greatest_of (entry_trees opening) + workers * sessions ≤ 2 ^ 64 - 2 → All IsFresh (keepers_of history means)
    → Serves history sessions h opening sink doors means served → (sink_now : SinkView) → served.sink ≡ Some sink_now → IsAuditedOver sink sink_now (keepers_of history served.means)
serves_audited {history = history} {sessions = sessions} {h = h} {opening = opening} {sink = sink} {doors = doors} {means = means} {served = served} written workers many room fresh (service.done es sink_then journal sink_is is_served text lasts) sink_now is =
    let same : sink_then ≡ sink_now = cc (sym sink_is ∙ is) in
    let policy = served_written is_served (subst (λ n. greatest_of (entry_trees opening) + n * sessions ≤ 2 ^ 64 - 2) (sym many) room) written in
    let first = greatest_of (entry_trees opening) + 1 in
    let right = have_right policy (length opening) 1 _ served.end first sessions doors served.doors (map history means) (map history served.means) served.reports is_served.worked is_served.seen in
    let lines = subst (λ (ks : List Kept). HaveRightLines h (entry_trees es) ks (keepers_of history served.means)) (keepers_twice history means)
    (subst (HaveRightLines h (entry_trees es) (map (λ (own : MeansHistory). own.kept) (map history means))) (keepers_twice history served.means) right) in
    subst (λ (s : SinkView). IsAuditedOver sink s (keepers_of history served.means)) same
    (right_keepers_are_audited sink.faults sink_then.faults (gained sink.sent sink_then.sent) h (entry_trees es) (keepers_of history means) (keepers_of history served.means) (text_recovers es policy text) (text_reads es policy text) fresh lines)
serves_audited {history = history} {sink = sink} {means = means} {served = served} written workers many room fresh (service.unopened sink_then journal sink_is sends rose none doors_are means_are unwritten ends) sink_now is =
    fresh_keepers_are_audited sink.faults sink_now.faults (gained sink.sent sink_now.sent) (keepers_of history served.means) (subst (λ (ms : List _). All IsFresh (keepers_of history ms)) (sym means_are) fresh)
serves_audited {history = history} {sink = sink} {means = means} {served = served} written workers many room fresh (service.no_memory journal sink_is none doors_are means_are unwritten ends) sink_now is =
    fresh_keepers_are_audited sink.faults sink_now.faults (gained sink.sent sink_now.sent) (keepers_of history served.means) (subst (λ (ms : List _). All IsFresh (keepers_of history ms)) (sym means_are) fresh)

-- where nobody was served the means are handed back as they were
pub unserved_audited : {P C : Type 0} (sink sink_now : SinkView) (means means_now : List (Means P C)) → means_now ≡ means → All IsFresh (kept_of means) → IsAuditedOver sink sink_now (kept_of means_now)
unserved_audited sink sink_now means means_now same fresh =
    fresh_keepers_are_audited sink.faults sink_now.faults (gained sink.sent sink_now.sent) (kept_of means_now) (subst (λ (ms : List (Means _ _)). All IsFresh (kept_of ms)) (sym same) fresh)

-- ---- A service at an address

first_fresh : (recorder : Option RecorderView) → IsFresh (kept_first recorder)
first_fresh None = (refl, refl)
first_fresh (Some recorder) = (refl, refl)

shares_fresh : (lent : ℕ) (recorder : Option RecorderView) (keepers : List Kept) → HaveShares lent recorder keepers → All IsFresh keepers
shares_fresh lent recorder keepers (others, are) =
    subst (All IsFresh) (sym are)
    (All-append IsFresh (replicate lent (kept_first recorder)) (replicate others unwanted) (All-replicate IsFresh lent (kept_first recorder) (first_fresh recorder)) (All-replicate IsFresh others unwanted (refl, refl)))

-- so it is of what a service at an address hands back
abbrev pub IsHandedAudited : {P C : Type 0} → SinkView → Option SinkView → List (Means P C) → Type 0
IsHandedAudited sink handed means = (sink_now : SinkView) × (handed ≡ Some sink_now) × IsAuditedOver sink sink_now (kept_of means)

idle_audited : {P C : Type 0} {panel : P → PanelHistory} {sink : SinkView} {door_now : DoorView} {asked_now : PanelHistory} {lent : ℕ} {recorder : Option RecorderView} {served : ServedView (Means P C)}
    → IsIdle panel sink door_now asked_now lent recorder served → IsHandedAudited sink served.sink served.means
idle_audited {sink = sink} {lent = lent} {recorder = recorder} {served = served} idle =
    (sink, idle.sink_is, fresh_keepers_are_audited sink.faults sink.faults (gained sink.sent sink.sent) (kept_of served.means) (shares_fresh lent recorder (kept_of served.means) idle.keepers))

serves_sink : {M : Type 0} {history : M → MeansHistory} {sessions : ℕ} {h : Head} {opening : List Entry} {sink : SinkView} {doors : List DoorView} {means : List M} {served : ServedView M}
    → Serves history sessions h opening sink doors means served → (sink_now : SinkView) × (served.sink ≡ Some sink_now)
serves_sink (service.done es sink_now journal sink_is is_served text lasts) = (sink_now, sink_is)
serves_sink (service.unopened sink_now journal sink_is sends rose none doors_are means_are unwritten ends) = (sink_now, sink_is)
serves_sink {sink = sink} (service.no_memory journal sink_is none doors_are means_are unwritten ends) = (sink, sink_is)

pub hosts_audited : {P C : Type 0} {panel : P → PanelHistory} {plan : Plan} {h : Head} {opening : List Entry} {sink : SinkView} {door : DoorView} {asked : P} {recorder : Option RecorderView} {hosted : HostedView P C}
    → IsWritten h (entry_trees opening) → greatest_of (entry_trees opening) + plan.workers * plan.sessions ≤ 2 ^ 64 - 2
    → Hosts panel plan h opening sink door asked recorder hosted → IsHandedAudited sink hosted.served.sink hosted.served.means
hosts_audited {panel = panel} {plan = plan} {opening = opening} {recorder = recorder} {hosted = hosted} written room (host.served doors means ready serves status) =
    let (sink_now, sink_is) = serves_sink serves in
    let fresh = subst (All IsFresh) (sym ready.keepers) (All-replicate IsFresh plan.workers (kept_first recorder) (first_fresh recorder)) in
    (sink_now, sink_is, serves_audited {history = means_history panel} written plan.workers ready.door_count room fresh serves sink_now sink_is)
hosts_audited written room (host.unreached status idle door_is none lost recorder_is) = idle_audited idle
hosts_audited written room (host.unlent lent status idle door_is none all_shared reached failed) = idle_audited idle
hosts_audited written room (host.unheard status idle all_shared reached lent failed) = idle_audited idle
hosts_audited written room (host.unready lent status idle held) = idle_audited idle
