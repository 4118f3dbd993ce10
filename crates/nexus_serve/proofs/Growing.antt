-- What a session was told over what its pass had seen it was told over the whole journal.
use Rattle.std.proofs.Common.{◌≡◌, ◌≢◌, ◌<◌, ◌+◌, ◌-◌, ℕ, List, [], ◌∷◌, ◌++◌, length, take, sym, ap, ◌∙◌, subst, arith, length-append, append-nil}
use Rattle.std.proofs.Math.Seq.{take-append_seam}
use Rattle.std.proofs.lemmas.List.{map-append, length-map}
use Rattle.nx_io.specs.Views.{DoorView, LinkView}
use Rattle.nexus_serve.proofs.Lists.{all_left, all_last}
use Rattle.std.specs.Prelude.{All, map}
use Rattle.nexus_serve.specs.Means.{MeansHistory}
use Rattle.policy_history.specs.declared.events.Entry.{Entry}
use Rattle.policy_history.specs.declared.heads.Head.{Head}
use Rattle.policy_history.specs.Values.{entry_trees}
use Rattle.verdict_words.specs.declared.views.AtomicStep.{AtomicStep}
use Rattle.verdict_words.specs.Values.{Identity}
use Rattle.verdict_words.specs.declared.views.Item.{Item}
use Rattle.verdict_words.specs.declared.views.Item.TheVariants.{Met}
use Rattle.authority_ask.specs.PanelCalls.{asked_since}
use Rattle.policy_history.specs.Events.{EntryTree}
use Rattle.session_core.specs.Records.{IsToldAndNoted}
use Rattle.session_core.specs.ToldLaws.{NotedStaysNoted}
use Rattle.nexus_serve.specs.declared.closing.ServeEnd.{ServeEnd}
use Rattle.nexus_serve.specs.declared.closing.ServeEnd.TheVariants.{Done, DoorFault}
use Rattle.nexus_serve.specs.Views.{ReportView}
use Rattle.nexus_serve.specs.Workers.{HasComeFrom, HasWorked, IsHeard, Stops, Works, all, failed, next, no_more, no_room, nobody}
use Rattle.nexus_serve.specs.Inner.Joining.{IsMetBy, met_report}

all_of : (trail : List Item) → take (length trail - 0) trail ≡ trail
all_of trail =
    let same : length trail - 0 ≡ length trail = omega arith in
    ap (λ n. take n trail) same ∙ ap (λ xs. take (length trail) xs) (sym (append-nil trail)) ∙ take-append_seam trail []

but_one : (trail : List Item) (item : Item) → take (length (trail ++ item ∷ []) - 1) (trail ++ item ∷ []) ≡ trail
but_one trail item =
    let long = length-append trail (item ∷ []) in
    let short : length (trail ++ item ∷ []) - 1 ≡ length trail = omega (arith, long) in
    ap (λ n. take n (trail ++ item ∷ [])) short ∙ take-append_seam trail (item ∷ [])

module _ (stays : NotedStaysNoted) (board : Identity Entry Head) (es : List Entry) (known : List AtomicStep) (h : Head) (low : ℕ) (Failed : Type 0) where
  -- a session, once its pass was met again
  heard_met : (report : ReportView) (means means_now : MeansHistory) → IsMetBy es report.pass → IsHeard h low 0 Failed report means means_now → IsHeard h low 1 Failed (met_report board es known report) means means_now
  heard_met report means means_now met heard =
      let served = heard.served in
      let trail = report.pass.trail in
      let more = met.seen.0 in
      let trees : entry_trees es ≡ entry_trees report.pass.seen ++ entry_trees more = ap entry_trees met.seen.1 ∙ map-append _ report.pass.seen more in
      let last = trail ++ Met (length es) ∷ [] in
      let asks = asked_since means.panel means_now.panel in
      let Both = λ (seen : List EntryTree) (steps : List Item). IsToldAndNoted h seen report.session low served.requests served.replies asks steps served.last means.kept means_now.kept in
      let grown : Both (entry_trees report.pass.seen ++ entry_trees more) (take (length trail - 0) trail) = stays h (entry_trees report.pass.seen) (entry_trees more) report.session low served.requests served.replies asks _ served.last means.kept means_now.kept (served.told, served.noted) in
      let whole : Both (entry_trees es) (take (length last - 1) last) = subst (λ seen. Both seen (take (length last - 1) last)) (sym trees) (subst (Both (entry_trees report.pass.seen ++ entry_trees more)) (all_of trail ∙ sym (but_one trail (Met (length es)))) grown) in
      record {
        asked = heard.asked;
        served = record {
          requests = served.requests;
          replies = served.replies;
          last = served.last;
          ended = served.ended;
          told = whole.0;
          noted = whole.1;
          who_is = served.who_is;
        };
        recorded = heard.recorded;
      }

  from_met : (report : ReportView) (link : LinkView) → HasComeFrom link report → HasComeFrom link (met_report board es known report)
  from_met report link from = record { bytes = from.bytes; place = from.place; toward = from.toward; over = from.over; closed = from.closed; admitted = from.admitted; faults = from.faults }

  -- all sessions of a worker, once their passes were met again
  works_met : (first : ℕ) (door : DoorView) (means : MeansHistory) (reports : List ReportView) (door_now : DoorView) (means_now : MeansHistory)
      → Works h low 0 Failed first door means reports door_now means_now → All (λ (report : ReportView). IsMetBy es report.pass) reports
      → Works h low 1 Failed first door means (map (met_report board es known) reports) door_now means_now
  works_met first door means _ _ _ nobody met = nobody
  works_met first door means _ _ _ (next {reports} {door_then} {means_then} report link door_now means_now works answered from (number, same) heard) met =
      let before = all_left (λ (report : ReportView). IsMetBy es report.pass) reports (report ∷ []) met in
      let last = all_last (λ (report : ReportView). IsMetBy es report.pass) reports report met in
      let place : report.session ≡ first + length (map (met_report board es known) reports) = number ∙ ap (λ n. first + n) (sym (length-map reports (met_report board es known))) in
      rw (map-append (met_report board es known) reports (report ∷ []))
      (next (met_report board es known report) link door_now means_now (works_met first door means reports door_then means_then works before) answered (from_met report link from) (place, same)
      (heard_met report means_then means_now last heard))

  -- A worker that has stopped, once the passes were met again. How it ended may be told of more workers than of it
  pub worked_met : (own end : ServeEnd) (first most : ℕ) (door door_now : DoorView) (means means_now : MeansHistory) (reports : List ReportView)
      → (own ≡ DoorFault → end ≡ DoorFault) → (own ≢ Done → end ≢ Done) → HasWorked h low 0 Failed own first most door door_now means means_now reports
      → All (λ (report : ReportView). IsMetBy es report.pass) reports → HasWorked h low 1 Failed end first most door door_now means means_now (map (met_report board es known) reports)
  worked_met own end first most door door_now means means_now reports fault short worked met = record {
    door_then = worked.door_then;
    works = works_met first door means reports worked.door_then means_now worked.works met;
    stops = stops_met worked.stops;
  }
    where
      count : length (map (met_report board es known) reports) ≡ length reports
      count = length-map reports (met_report board es known)

      stops_met : Stops own most (length reports) worked.door_then door_now → Stops end most (length (map (met_report board es known) reports)) worked.door_then door_now
      stops_met (all as_many same) = all (count ∙ as_many) same
      stops_met (no_more fewer answered) = no_more (subst (λ n. n < most) (sym count) fewer) answered
      stops_met (failed fewer answered is) = failed (subst (λ n. n < most) (sym count) fewer) answered (fault is)
      stops_met (no_room fewer same is) = no_room (subst (λ n. n < most) (sym count) fewer) same (short is)
