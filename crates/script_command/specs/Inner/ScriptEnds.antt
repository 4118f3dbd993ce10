-- How the parts of a run of `script` end.
use Rattle.std.specs.Prelude.{◌≡◌, ◌+◌, ℕ, List, [], Option, None, Some}
use Rattle.nx_io.specs.Streams.{one_more}
use Rattle.policy_history.specs.Values.{History, entry_trees, greatest_of}
use Rattle.authority_ask.specs.PanelCalls.{HasOnlyAsked, asked_since}
use Rattle.authority_ask.specs.Panels.{Told}
use Rattle.session_wire.specs.declared.replies.Reply.{Reply}
use Rattle.session_core.specs.declared.lines.Asking.{Asking}
use Rattle.session_core.specs.Sessions.{Point, Told1, at_start}
use Rattle.policy_script.specs.ScriptForm.{ScriptTree}
use Rattle.policy_script.specs.ScriptText.{script_text}
use Rattle.run_streams.specs.Runs.{IsProperPart, SinkRun}
use Rattle.script_command.specs.Scripts.{AreAskedFor, HasAsked, IsAnswered, IsUnreached, PanelRun}

-- the script of a journal and requests
abbrev pub script_of : History → List Asking → ScriptTree
script_of journal askings = record { head = journal.head; entries = entry_trees journal.entries; askings = askings }

-- the requests were answered, and this is their text: what is said of an answered script but for the authorities that were reached
pub record AreAnswered (script : ScriptTree) (last : History) (panel : PanelRun) (text : List ℕ) : Type 0 where
  pub replies : List Reply
  pub point : Point
  pub told : Told1 script.head (greatest_of script.entries + 1) (at_start script.entries) script.askings replies (asked_since panel.before panel.now) point
  pub head : last.head ≡ script.head
  pub entries : point.entries ≡ entry_trees last.entries
  pub text_is : text ≡ script_text replies script.head point.entries
  pub only_asked : HasOnlyAsked panel.before panel.now

-- the text is written, or a proper part of it; or there was no memory
pub data EndsReached (script : ScriptTree) (last : History) (sink : SinkRun) (panel : PanelRun) (status : ℕ) : Type 0 where
  replied : status ≡ 0 → AreAnswered script last panel sink.sent → sink.faults_now ≡ sink.faults → EndsReached script last sink panel status
  replied_in_part : (text : List ℕ) → status ≡ 5 → AreAnswered script last panel text → IsProperPart sink.sent text → sink.faults_now ≡ one_more sink.faults
      → EndsReached script last sink panel status
  not_replied : status ≡ 6 → HasOnlyAsked panel.before panel.now → AreAskedFor script (asked_since panel.before panel.now) → sink.sent ≡ [] → sink.faults_now ≡ sink.faults → EndsReached script last sink panel status

-- the script's text is written, or a proper part of it; or an authority could not be reached; or there was no memory
pub data EndsReplies (script : ScriptTree) (last : History) (sink : SinkRun) (panel : PanelRun) (status : ℕ) : Type 0 where
  reached_and_replied : status ≡ 0 → IsAnswered script panel (Some last) sink.sent → sink.faults_now ≡ sink.faults → EndsReplies script last sink panel status
  reached_and_replied_in_part : (text : List ℕ) → status ≡ 5 → IsAnswered script panel (Some last) text → IsProperPart sink.sent text → sink.faults_now ≡ one_more sink.faults
      → EndsReplies script last sink panel status
  not_reached : status ≡ 8 → IsUnreached script panel → sink.sent ≡ [] → sink.faults_now ≡ sink.faults → EndsReplies script last sink panel status
  reached_and_not_replied : (said : List Told) → status ≡ 6 → HasAsked script said panel → AreAskedFor script said → sink.sent ≡ [] → sink.faults_now ≡ sink.faults → EndsReplies script last sink panel status

-- the same of a run that hands the journal back, or none
pub data EndsAnswers (script : ScriptTree) (sink : SinkRun) (panel : PanelRun) (journal : Option History) (status : ℕ) : Type 0 where
  answered : status ≡ 0 → IsAnswered script panel journal sink.sent → sink.faults_now ≡ sink.faults → EndsAnswers script sink panel journal status
  cut_off : (text : List ℕ) → status ≡ 5 → IsAnswered script panel journal text → IsProperPart sink.sent text → sink.faults_now ≡ one_more sink.faults
      → EndsAnswers script sink panel journal status
  unreached : status ≡ 8 → IsUnreached script panel → journal ≡ None → sink.sent ≡ [] → sink.faults_now ≡ sink.faults → EndsAnswers script sink panel journal status
  no_memory : (said : List Told) → status ≡ 6 → HasAsked script said panel → AreAskedFor script said → journal ≡ None → sink.sent ≡ [] → sink.faults_now ≡ sink.faults
      → EndsAnswers script sink panel journal status
