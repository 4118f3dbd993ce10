-- A session over a shared board between two of its requests, and what one request comes to.
use Rattle.std.specs.Prelude.{◌≡◌, ◌<◌, ◌≤◌, ℕ, Bool, true, false, List, [], ◌++◌, length, take, All, Option, Some, None, option_map, IfSome}
use Rattle.nal_rules.specs.Verdicts.{CaseTree}
use Rattle.nal_rules.specs.declared.verdicts.Verdict.{Verdict}
use Rattle.guard_core.specs.declared.findings.Finding.{Finding}
use Rattle.guard_core.specs.declared.findings.GuardError.TheVariants.{Down as DownError, Memory as MemoryError}
use Rattle.verdict_words.specs.declared.places.CasePlace.{CasePlace}
use Rattle.nx_io.specs.Streams.{SendsPart, one_more}
use Rattle.policy_history.specs.declared.events.Entry.{Entry}
use Rattle.policy_history.specs.declared.heads.Head.{Head}
use Rattle.policy_history.specs.Events.{EntryTree, name_of}
use Rattle.policy_history.specs.Machine.{replay}
use Rattle.policy_history.specs.States.{State}
use Rattle.policy_history.specs.Values.{entry_trees}
use Rattle.authority_ask.specs.PanelCalls.{HasOnlyAsked, PanelHistory, asked_since}
use Rattle.authority_ask.specs.Panels.{Told as Ask}
use Rattle.guard_core.specs.Judging.{IsBrokenOff, IsJudged, verdict_of}
use Rattle.session_wire.specs.declared.requests.Request.{Request}
use Rattle.session_wire.specs.declared.requests.Request.TheVariants.{Call}
use Rattle.session_wire.specs.declared.replies.Reply.{Reply}
use Rattle.session_wire.specs.declared.replies.Reply.TheVariants.{Done, Down, NoMemory, Refused}
use Rattle.verdict_words.specs.declared.views.AtomicStep.{AtomicStep}
use Rattle.verdict_words.specs.declared.views.Item.{Item}
use Rattle.verdict_words.specs.Histories.{IsPrefix, own}
use Rattle.verdict_words.specs.Rule.{last_met}
use Rattle.verdict_words.specs.Values.{Identity, PassValue}
use Rattle.verdict_words.specs.Words.{IsPlace}
use Rattle.policy_history.specs.declared.events.Refusal.TheVariants.{NotRecorded}
use Rattle.policy_history.specs.Laws.{refusal_number}
use Rattle.policy_book.specs.declared.writing.Written.{Written}
use Rattle.policy_book.specs.declared.writing.Written.TheVariants.{Done as WrittenDone, Refused as WrittenRefused, NoMemory as WrittenNoMemory}
use Rattle.session_core.specs.declared.board_session.Admitted.{Admitted}
use Rattle.session_core.specs.declared.board_session.BoardSession.{BoardSession}
use Rattle.session_core.specs.Records.{AreNoted, Kept}
use Rattle.session_core.specs.Served.{AreCounted}
use Rattle.session_core.specs.Standing.{Standing}
use Rattle.session_core.specs.Calls.{IsPlaceIn, Keeps, Misses, Runs, Turn, verdict_reply}
use Rattle.session_core.specs.Told.{Answers, Leads}
use Rattle.session_core.specs.Inner.Knowing.{KnownRow, joined_rows, knows_row, triples_of}

-- the number of who is admitted
abbrev pub who_of : BoardSession → Option ℕ
who_of s = option_map (λ (a : Admitted). a.number) s.admitted

abbrev pub head_of : BoardSession → Head
head_of s = s.pass.board.origin.setting

-- what the pass has seen
abbrev pub trees_of : BoardSession → List EntryTree
trees_of s = entry_trees s.pass.seen

abbrev pub standing : BoardSession → Standing
standing s = record { who = who_of s; low = length s.pass.seen; known = triples_of s.known.rows }

-- the entries of its own that a pass had seen when it was last met
abbrev pub own_in : PassValue Entry Head → List EntryTree
own_in pass = own (λ (e : EntryTree). e.session) (take (last_met pass.trail) (entry_trees pass.seen)) pass.session

-- the row is the case of principal p in its place
abbrev pub IsKnownRow : Head → List EntryTree → ℕ → KnownRow → Type 0
IsKnownRow h es p row = IsPlaceIn (replay h es) p row.op row.object row.place × IsPlace row.place

abbrev pub AreKnown : Head → List EntryTree → Option ℕ → List KnownRow → Type 0
AreKnown h es None rows = rows ≡ []
AreKnown h es (Some p) rows = All (IsKnownRow h es p) rows

-- principal p of this head is admitted, under its name
pub record IsAdmitted (h : Head) (p : ℕ) (who : Option Admitted) : Type 0 where
  pub admitted : Admitted
  pub is_who : who ≡ Some admitted
  pub number : admitted.number ≡ p
  pub name : admitted.name ≡ name_of h.principals p

-- a session over this board can answer
pub record IsReady (board : Identity Entry Head) (s : BoardSession) : Type 0 where
  pub board_is : s.pass.board ≡ board
  pub met : last_met s.pass.trail ≤ length s.pass.seen
  pub who : IfSome s.admitted (λ (a : Admitted). (a.number < length board.origin.setting.principals) × (a.name ≡ name_of board.origin.setting.principals a.number))
  pub known : AreKnown board.origin.setting (trees_of s) (who_of s) s.known.rows

-- the request was told this reply, and the session came from the one state to the other
pub record IsTurn (s t : BoardSession) (asks : List Ask) (request : Request) (reply : Reply) : Type 0 where
  pub turn : Turn
  pub answers : Answers (head_of s) (trees_of t) s.pass.session (standing s) request turn
  pub reply_is : turn.reply ≡ reply
  pub asks_are : turn.asks ≡ asks
  pub trail : t.pass.trail ≡ s.pass.trail ++ turn.steps
  pub own_is : own_in t.pass ≡ own_in s.pass ++ turn.added
  pub after : turn.after ≡ standing t
  pub seen : IsPrefix s.pass.seen t.pass.seen
  pub knows : IsPrefix s.pass.known t.pass.known
  pub session_is : t.pass.session ≡ s.pass.session
  pub board_is : t.pass.board ≡ s.pass.board

-- From the one state of session and panel to the other these requests were told these replies, so many changes were told not to be recorded before and then, and so much was recorded of calls before and then
pub record HasGone (s t : BoardSession) (p q : PanelHistory) (count count_now : ℕ) (kept kept_now : Kept) (requests : List Request) (replies : List Reply) : Type 0 where
  pub steps : List Item
  pub added : List EntryTree
  pub leads : Leads (head_of s) (trees_of t) s.pass.session (standing s) requests replies (asked_since p q) steps added (standing t)
  pub trail : t.pass.trail ≡ s.pass.trail ++ steps
  pub own_is : own_in t.pass ≡ own_in s.pass ++ added
  pub seen : IsPrefix s.pass.seen t.pass.seen
  pub knows : IsPrefix s.pass.known t.pass.known
  pub session_is : t.pass.session ≡ s.pass.session
  pub board_is : t.pass.board ≡ s.pass.board
  pub asked : HasOnlyAsked p q
  pub counted : AreCounted count count_now requests replies
  pub noted : AreNoted (head_of s) (trees_of t) s.pass.session (standing s) requests replies (asked_since p q) steps added (standing t) leads kept kept_now

-- a pass that made these steps, and then knew so much
abbrev pub stepped_by : PassValue Entry Head → List Item → List AtomicStep → PassValue Entry Head
stepped_by pass steps known = record pass { trail = pass.trail ++ steps; known = known }

-- the pass made the step on a register that this verdict of a call makes, if any
pub record HasRun (old new : PassValue Entry Head) (op : List ℕ) (arg object : ℕ) (verdict : Verdict) (value : ℕ) : Type 0 where
  pub steps : List Item
  pub runs : Runs op arg object verdict value steps
  pub pass_is : new ≡ stepped_by old steps new.known
  pub knows : IsPrefix old.known new.known

-- the reply that a verdict is, at a length of the history, and the step on a register that it makes
pub record IsReplyOf (old new : PassValue Entry Head) (op : List ℕ) (arg object at hit : ℕ) (verdict : Verdict) (reply : Reply) : Type 0 where
  pub value : ℕ
  pub run : HasRun old new op arg object verdict value
  pub reply_is : reply ≡ verdict_reply at hit value verdict

-- the pass kept this verdict of a case, if it is to be kept
pub record HasKept (old new : PassValue Entry Head) (is_known : Bool) (at : ℕ) (place : Option CasePlace) (c : CaseTree) (verdict : Verdict) : Type 0 where
  pub steps : List Item
  pub keeps : Keeps is_known at (option_map (λ (p : CasePlace). p.case) place) c verdict steps
  pub pass_is : new ≡ stepped_by old steps new.known
  pub knows : IsPrefix old.known new.known

-- what stands before a snapshot of a case: the look at it, where it is known, which did not find its verdict
pub record IsMissed (p : ℕ) (op object : List ℕ) (s t : BoardSession) : Type 0 where
  pub steps : List Item
  pub misses : Misses (head_of s) (trees_of t) (standing s) p op object (length t.pass.seen) steps
  pub trail : t.pass.trail ≡ s.pass.trail ++ steps
  pub seen : IsPrefix s.pass.seen t.pass.seen
  pub knows : IsPrefix s.pass.known t.pass.known
  pub own_is : own_in t.pass ≡ own_in s.pass
  pub session_is : t.pass.session ≡ s.pass.session
  pub board_is : t.pass.board ≡ s.pass.board
  pub who_is : who_of t ≡ who_of s
  pub known_is : t.known.rows ≡ s.known.rows

-- a look at the case of a call: it is answered, or is to be judged
abbrev pub IsLooked : ℕ → List ℕ → List ℕ → ℕ → BoardSession → BoardSession → Option Reply → Type 0
IsLooked p op object arg s t None = IsMissed p op object s t
IsLooked p op object arg s t (Some reply) = IsTurn s t [] (Call op object arg) reply

-- the state of the policy behind what a session has seen
abbrev pub state_of : BoardSession → State
state_of s = replay (head_of s) (trees_of s)

-- the session is the same but for the steps of its pass, and it has joined the case in this place
pub record HasJoined (op object : List ℕ) (place : Option CasePlace) (s t : BoardSession) (steps : List Item) : Type 0 where
  pub pass_is : t.pass ≡ stepped_by s.pass steps t.pass.known
  pub knows : IsPrefix s.pass.known t.pass.known
  pub admitted_is : t.admitted ≡ s.admitted
  pub known_is : t.known.rows ≡ joined_rows s.known.rows op object place

-- a case was judged with these asks, or an authority was down
pub data IsSettled (c : CaseTree) (asks : List Ask) : Type 0 where
  settled_judged : (finding : Finding) → IsJudged c asks finding → IsSettled c asks
  settled_down : (line : ℕ) → IsBrokenOff c asks (DownError line) → IsSettled c asks

-- what came of the record with this line: it was not wanted, it was sent, or a proper part of it was, since the sink failed
pub data IsWritten (line : List ℕ) (done : Bool) (kept kept_now : Kept) : Type 0 where
  not_wanted : kept.wanted ≡ false → done ≡ true → kept_now ≡ kept → IsWritten line done kept kept_now
  sent : kept.wanted ≡ true → done ≡ true → kept_now ≡ record kept { sent = kept.sent ++ line } → IsWritten line done kept kept_now
  cut_off : kept.wanted ≡ true → done ≡ false → SendsPart kept.sent kept_now.sent line → kept_now ≡ record { wanted = true; sent = kept_now.sent; faults = one_more kept.faults; broken = true }
      → IsWritten line done kept kept_now

-- what comes of a case that was taken from the book, with the number k of its object: it is judged, or the guard breaks off
pub data IsChecked (p : ℕ) (op object : List ℕ) (arg k : ℕ) (place : Option CasePlace) (c : CaseTree) (s t : BoardSession) (asks : List Ask) (reply : Reply) : Type 0 where
  judged : (value : ℕ) (finding : Finding) (kept ran : List Item) → IsJudged c asks finding
      → Keeps (knows_row t.known.rows op object) (length s.pass.seen) (option_map (λ (q : CasePlace). q.case) place) c (verdict_of finding) kept
      → Runs op arg k (verdict_of finding) value ran → HasJoined op object place s t (kept ++ ran)
      → reply ≡ verdict_reply (length s.pass.seen) 0 value (verdict_of finding) → IsChecked p op object arg k place c s t asks reply
  down : (line : ℕ) → IsBrokenOff c asks (DownError line) → HasJoined op object place s t [] → reply ≡ Down (length s.pass.seen) line
      → IsChecked p op object arg k place c s t asks reply
  no_memory : IsBrokenOff c asks MemoryError → t ≡ s → reply ≡ NoMemory → IsChecked p op object arg k place c s t asks reply
  unrecorded : IsSettled c asks → t ≡ s → reply ≡ Refused (length s.pass.seen) (refusal_number NotRecorded) → IsChecked p op object arg k place c s t asks reply

-- the reply that tells what became of a change
abbrev pub reply_of : Written → Reply
reply_of (WrittenDone at number) = Done at number
reply_of (WrittenRefused at refusal) = Refused at (refusal_number refusal)
reply_of WrittenNoMemory = NoMemory
