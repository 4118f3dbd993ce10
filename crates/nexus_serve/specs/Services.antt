-- What a service leaves: its journal, the reports of its sessions, and the text that it wrote.
use Rattle.std.specs.Prelude.{◌≡◌, ◌+◌, ◌⊎◌, ℕ, List, [], ◌∷◌, ◌++◌, length, map, take, drop, All, Contains, Bool, true, false, Option, Some, None, codes}
use Rattle.nx_io.specs.Views.{DoorView, SinkView}
use Rattle.nexus_serve.specs.Means.{MeansHistory}
use Rattle.nx_io.specs.Streams.{Rose, Sends, SendsPart}
use Rattle.policy_history.specs.declared.events.Entry.{Entry}
use Rattle.policy_history.specs.declared.heads.Head.{Head}
use Rattle.policy_history.specs.Events.{EntryTree}
use Rattle.policy_history.specs.Machine.{IsAccepted, IsLegal, replay}
use Rattle.policy_history.specs.PolicyTexts.{ended, front, line_of, policy_text}
use Rattle.policy_history.specs.Values.{History, entry_trees, greatest_of}
use Rattle.verdict_words.specs.Histories.{IsPrefix, own}
use Rattle.verdict_words.specs.Orders.{IsDone, Replays, loads, told_of, trail_steps}
use Rattle.verdict_words.specs.Rule.{last_met}
use Rattle.verdict_words.specs.Words.{first_words}
use Rattle.verdict_words.specs.declared.views.AtomicStep.{AtomicStep}
use Rattle.verdict_words.specs.declared.views.Item.{Item}
use Rattle.verdict_words.specs.declared.views.Item.TheVariants.{Met}
use Rattle.policy_book.specs.Books.{AreLasting, SendsFront, session_of}
use Rattle.nexus_serve.specs.declared.closing.ServeEnd.{ServeEnd}
use Rattle.nexus_serve.specs.declared.closing.ServeEnd.TheVariants.{Done, DoorFault, Memory, NoRoom}
use Rattle.nexus_serve.specs.Views.{ReportView}
use Rattle.nexus_serve.specs.Workers.{HaveWorked, SomeCutShort, SomeFailed}

-- what a service hands back
pub record ServedView (M : Type 0) : Type 0 where
  pub journal : Option History
  pub sink : Option SinkView
  pub reports : List ReportView
  pub doors : List DoorView
  pub means : List M
  pub written : Bool
  pub end : ServeEnd

-- the journal that is handed back has this head and these entries
abbrev pub IsJournal : Option History → Head → List Entry → Type 0
IsJournal None h es = ⊥
IsJournal (Some journal) h es = (journal.head ≡ h) × (journal.entries ≡ es)

-- The pass of a session was met once more when all workers had stopped, and has seen the whole journal, in which no entry of its session stands
-- behind the last meeting before that
pub record HasSeenAll (es : List Entry) (report : ReportView) : Type 0 where
  pub before : List Item
  pub trail : report.pass.trail ≡ before ++ Met (length es) ∷ []
  pub seen : report.pass.seen ≡ es
  pub own_is : own session_of es report.session ≡ own session_of (take (last_met before) es) report.session

-- the sessions of the reports
abbrev pub sessions_of : List ReportView → List ℕ
sessions_of reports = map (λ (report : ReportView). report.session) reports

-- There is one order of all atomic steps that were made on the board. It leads from the first words on, and each step found what those before it
-- left; the last one is the owner's load of the count, which found the length of the journal. Every pass knows the whole order, and its
-- session's steps in it are those that its trail tells. All other steps are the owner's
pub record HaveOneOrder (opening es : List Entry) (reports : List ReportView) : Type 0 where
  pub order : List AtomicStep
  pub words : List ℕ
  pub replays : Replays (first_words (length opening)) order words
  pub done : All (λ (step : AtomicStep). IsDone step.action step.session step.word) order
  pub whole : (before : List AtomicStep) × (order ≡ before ++ loads 0 0 (length es) ∷ [])
  pub known : All (λ (report : ReportView). report.pass.known ≡ order) reports
  pub own_steps : All (λ (report : ReportView). told_of order report.session ≡ trail_steps report.session report.pass.trail) reports
  pub within : All (λ (step : AtomicStep). (step.session ≡ 0) ⊎ Contains (sessions_of reports) step.session) order

-- What workers leave behind: the journal is legal and begins with the entries that were there; the workers have worked, in sessions that are
-- numbered behind the greatest session before; each further entry was made in one of these; and each session was told over the one journal, and that
-- a change was not recorded only where `Failed` holds.
pub record IsServed (h : Head) (opening es : List Entry) (Failed : Type 0) (sessions : ℕ) (doors doors_now : List DoorView) (means means_now : List MeansHistory) (reports : List ReportView) (end : ServeEnd) : Type 0 where
  pub legal : IsLegal h (entry_trees es)
  pub begins : IsPrefix opening es
  pub worked : HaveWorked h (length opening) 1 Failed end (greatest_of (entry_trees opening) + 1) sessions doors doors_now means means_now reports
  pub ends : (end ≡ Done) ⊎ ((end ≡ DoorFault) × SomeFailed doors doors_now) ⊎ ((end ≡ NoRoom) × SomeCutShort sessions doors doors_now)
  pub seen : All (HasSeenAll es) reports
  pub made : All (λ (entry : Entry). Contains (sessions_of reports) entry.session) (drop (length opening) es)
  pub order : HaveOneOrder opening es reports

-- What a sink was sent of the policy text, since it had sent `start` and had failed so often: all of it, and all was synced, where no write and no sync failed; or all but for its last line,
-- and a front of one more entry's line or of the last line, maybe all of it, since the sink failed
pub data IsTextSent (h : Head) (es : List EntryTree) (written : Bool) (start : List ℕ) (start_faults : ℕ) (sink_now : SinkView) : Type 0 where
  whole : written ≡ true → Sends start sink_now.sent (policy_text h es) → sink_now.synced ≡ length sink_now.sent → sink_now.faults ≡ start_faults → IsTextSent h es written start start_faults sink_now
  line_cut : (entry : EntryTree) → written ≡ false → IsAccepted h (replay h es) entry → SendsFront (start ++ front h es) sink_now.sent (line_of h entry)
      → Rose start_faults sink_now.faults → IsTextSent h es written start start_faults sink_now
  end_cut : written ≡ false → SendsFront (start ++ front h es) sink_now.sent (ended (codes "end")) → Rose start_faults sink_now.faults → IsTextSent h es written start start_faults sink_now

-- `Serves history sessions h opening sink doors means served`: a service of so many sessions for each worker, over the journal with this head and these
-- entries, this sink, and these doors and means, hands this back. It was served, each change that was made lasts, and a change was told not to be recorded only where the sink failed; or the front of the text could not be sent, so nobody was served; or there was no memory, and then nobody was
-- served, nothing was written, and all is handed back as it was handed in.
pub data Serves {M : Type 0} (history : M → MeansHistory) (sessions : ℕ) (h : Head) (opening : List Entry) (sink : SinkView) (doors : List DoorView) (means : List M) (served : ServedView M) : Type 0 where
  done : (es : List Entry) (sink_now : SinkView) → IsJournal served.journal h es → served.sink ≡ Some sink_now
      → IsServed h opening es (Rose sink.faults sink_now.faults) sessions doors served.doors (map history means) (map history served.means) served.reports served.end
      → IsTextSent h (entry_trees es) served.written sink.sent sink.faults sink_now → AreLasting h opening es sink.sent sink_now.synced → Serves history sessions h opening sink doors means served
  unopened : (sink_now : SinkView) → IsJournal served.journal h opening → served.sink ≡ Some sink_now
      → SendsPart sink.sent sink_now.sent (front h (entry_trees opening)) → Rose sink.faults sink_now.faults
      → served.reports ≡ [] → served.doors ≡ doors → served.means ≡ means → served.written ≡ false → served.end ≡ Done → Serves history sessions h opening sink doors means served
  no_memory : IsJournal served.journal h opening → served.sink ≡ Some sink → served.reports ≡ [] → served.doors ≡ doors → served.means ≡ means
      → served.written ≡ false → served.end ≡ Memory → Serves history sessions h opening sink doors means served
