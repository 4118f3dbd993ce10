-- How a run of `script` ends: the status, what the source gave, what authorities were asked, the journal that is handed
-- back, and what was written.
use Rattle.std.specs.Prelude.{◌≡◌, ◌+◌, ◌++◌, ◌⊎◌, ℕ, List, [], map, Option, Some, None}
use Rattle.nx_io.specs.declared.streams.Reach.TheVariants.{Failed}
use Rattle.policy_history.specs.declared.heads.Head.{Head}
use Rattle.policy_history.specs.Events.{EntryTree}
use Rattle.policy_history.specs.Values.{History, entry_trees, greatest_of}
use Rattle.authority_ask.specs.PanelCalls.{PanelCall, PanelHistory, asked}
use Rattle.authority_ask.specs.Panels.{Told}
use Rattle.session_wire.specs.declared.replies.Reply.{Reply}
use Rattle.session_core.specs.Earned.{IsTrueAlone}
use Rattle.session_core.specs.Reaching.{HaveReached, reached_at}
use Rattle.session_core.specs.Sessions.{Point, Told1, at_start}
use Rattle.input_flaws.specs.PolicyFlaws.{IsFrontFlaw}
use Rattle.policy_script.specs.ScriptForm.{IsScript, IsWrongScript, ScriptTree, most_session}
use Rattle.policy_script.specs.ScriptText.{script_text}
use Rattle.run_streams.specs.Ends.{Answering, EndsAnswered, EndsUnanswered, IsCompleteAnswer, answering}
use Rattle.run_streams.specs.Refusals.{Form, RefusesExactly, form_of}
use Rattle.run_streams.specs.Runs.{IsReadWhole, SinkRun, SourceRun}

-- a panel in a run: its calls before and after
pub record PanelRun : Type 0 where
  pub before : PanelHistory
  pub now : PanelHistory

-- what a panel did in a run, by what it tells before and after
abbrev pub panel_run : PanelHistory → PanelHistory → PanelRun
panel_run before now = record { before = before; now = now }

-- the calls before begin those after: nothing that a panel told is gone
abbrev pub HasMore : PanelHistory → PanelHistory → Type 0
HasMore before now = (more : List PanelCall) × (now ≡ record before { calls = before.calls ++ more })

-- Each authority of the script was reached, in the order of the policy text, and only then was this asked, in this order. No other call was
-- made of the panel.
abbrev pub HasAsked : ScriptTree → List Told → PanelRun → Type 0
HasAsked script said panel = panel.now ≡ record panel.before { calls = panel.before.calls ++ (map reached_at script.head.authorities ++ map asked said) }

-- the journal that is handed back has this head and these entries
abbrev pub IsHanded : Option History → Head → List EntryTree → Type 0
IsHanded None h es = ⊥
IsHanded (Some journal) h es = (journal.head ≡ h) × (entry_trees journal.entries ≡ es)

-- The script was answered, and this is its text: each authority was reached, and then this was asked; the requests, in sessions that are
-- numbered behind the greatest session of the policy, got these replies, with the answers of these asks; the journal that they left is
-- handed back; and the text is the lines of the replies, and then the policy's. What calls were told is true.
pub record IsAnswered (script : ScriptTree) (panel : PanelRun) (journal : Option History) (text : List ℕ) : Type 0 where
  pub said : List Told
  pub calls : HasAsked script said panel
  pub replies : List Reply
  pub last : Point
  pub told : Told1 script.head (greatest_of script.entries + 1) (at_start script.entries) script.askings replies said last
  pub truth : IsTrueAlone script.head (greatest_of script.entries + 1) last.entries script.askings replies said
  pub handed : IsHanded journal script.head last.entries
  pub text_is : text ≡ script_text replies script.head last.entries

-- the form of a script's inputs: the lowest wrong line of another text, and what is wrong with it
abbrev pub script_form : Form
script_form = form_of (λ text. (script : ScriptTree) × IsScript text script) (λ text k flaw. IsWrongScript text k × IsFrontFlaw most_session text text k flaw)

-- the input is that of this script
pub record IsScriptOf (source : SourceRun) (script : ScriptTree) : Type 0 where
  pub form : IsScript source.given script
  pub whole : IsReadWhole source

-- no call was made of the panel
abbrev pub IsIdle : PanelRun → Type 0
IsIdle panel = panel.now ≡ panel.before

-- An authority of the script could not be reached. Those before it were, and no other call was made of the panel.
abbrev pub IsUnreached : ScriptTree → PanelRun → Type 0
IsUnreached script panel = HaveReached Failed script.head.authorities panel.before panel.now

-- what was asked for a script: nothing, or exactly what its requests ask, each of which was told its reply
abbrev pub AreAskedFor : ScriptTree → List Told → Type 0
AreAskedFor script said =
    (said ≡ []) ⊎ ((replies : List Reply) × (last : Point) × Told1 script.head (greatest_of script.entries + 1) (at_start script.entries) script.askings replies said last)

-- The script of the input is answered by this text, by such calls of the panel, and this journal is handed back.
abbrev pub IsScriptAnswer : PanelRun → Option History → List ℕ → List ℕ → Type 0
IsScriptAnswer panel journal input text = (script : ScriptTree) × IsScript input script × IsAnswered script panel journal text

-- `script` answers with its text, and then with 0
abbrev pub script_command : PanelRun → Option History → Answering (List ℕ)
script_command panel journal = answering script_form (IsScriptAnswer panel journal) (λ text. text) (λ text. 0)

-- `script` ends with this status: the input is answered; or it is not, and then no call was made of the panel; or an authority could not be reached; or
-- there was no memory once each was reached, and nothing was asked, or what the requests ask.
pub data EndsScript (source : SourceRun) (sink : SinkRun) (panel : PanelRun) (journal : Option History) (status : ℕ) : Type 0 where
  answered : EndsAnswered (script_command panel journal) source sink status → EndsScript source sink panel journal status
  unanswered : EndsUnanswered script_form source sink status → IsIdle panel → journal ≡ None → EndsScript source sink panel journal status
  unreached : (script : ScriptTree) → status ≡ 8 → IsScriptOf source script → IsUnreached script panel → journal ≡ None → sink.sent ≡ []
      → source.faults_now ≡ source.faults → sink.faults_now ≡ sink.faults → EndsScript source sink panel journal status
  no_memory : (script : ScriptTree) (said : List Told) → status ≡ 6 → IsScriptOf source script → HasAsked script said panel → AreAskedFor script said → journal ≡ None → sink.sent ≡ []
      → source.faults_now ≡ source.faults → sink.faults_now ≡ sink.faults → EndsScript source sink panel journal status

-- Where neither the source nor the sink failed, and no authority failed to be reached, an input that is not refused is answered whole, or
-- there was no memory.
abbrev pub IsCompleteScript : SourceRun → SinkRun → PanelRun → Option History → ℕ → Type 0
IsCompleteScript source sink panel journal status = ¬ ((script : ScriptTree) × IsUnreached script panel) → IsCompleteAnswer (script_command panel journal) source sink status

-- a run of `script`
pub record RunsScript (source : SourceRun) (sink : SinkRun) (panel : PanelRun) (journal : Option History) (status : ℕ) : Type 0 where
  pub ends : EndsScript source sink panel journal status
  pub complete : IsCompleteScript source sink panel journal status
  pub refuses : RefusesExactly script_form source status
