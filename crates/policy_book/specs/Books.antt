-- What contracts see of a book, what its sink was sent, and what it learns of a pass that it meets.
use Rattle.std.specs.Prelude.{◌≡◌, ℕ, ◌+◌, ◌<◌, ◌≤◌, Bool, true, false, List, [], ◌∷◌, ◌++◌, length, take, Option, Some, Result}
use Rattle.nx_io.specs.Streams.{Rose, Sends, SendsPart}
use Rattle.nx_io.specs.declared.streams.Reach.{Reach}
use Rattle.nx_io.specs.declared.streams.Reach.TheVariants.{Ready, Failed}
use Rattle.policy_history.specs.declared.events.Due.{Due}
use Rattle.policy_history.specs.declared.events.Entry.{Entry}
use Rattle.policy_history.specs.declared.events.Event.{Event}
use Rattle.policy_history.specs.declared.events.Refusal.{Refusal}
use Rattle.policy_history.specs.declared.heads.Head.{Head}
use Rattle.policy_history.specs.Events.{EntryTree, event_tree}
use Rattle.policy_history.specs.Machine.{IsAccepted, IsLegal, replay}
use Rattle.policy_history.specs.PolicyTexts.{front, line_of}
use Rattle.policy_history.specs.States.{State}
use Rattle.policy_history.specs.Values.{decision, entry_trees}
use Rattle.verdict_words.specs.Histories.{IsPrefix, own}
use Rattle.verdict_words.specs.Rule.{IsSeated}
use Rattle.verdict_words.specs.Settling.{AreGathered}
use Rattle.verdict_words.specs.Values.{Identity, PassValue, met_seen}
use Rattle.verdict_words.specs.declared.views.AtomicStep.{AtomicStep}
use Rattle.verdict_words.specs.declared.views.Item.TheVariants.{Met}

-- A book: its board, the accepted changes, the number of the next session, what its sink had sent and how often it had failed
-- when the book was made, the sink, whether the front of the text was written, whether a write or a sync of it has failed, and a beginning
-- of the order of all atomic steps on the board
pub record BookValue (K : Type 0) : Type 0 where
  pub board : Identity Entry Head
  pub entries : List Entry
  pub next : ℕ
  pub start : List ℕ
  pub start_faults : ℕ
  pub sink : K
  pub is_open : Bool
  pub is_broken : Bool
  pub known : List AtomicStep

-- the session that made an entry
abbrev pub session_of : Entry → ℕ
session_of e = e.session

-- the plain value of the entry that a change makes
abbrev pub entry_of : ℕ → ℕ → Event → EntryTree
entry_of session principal event = record { session = session; principal = principal; event = event_tree event }

-- a front of the piece is appended, maybe all of it
abbrev pub SendsFront : List ℕ → List ℕ → List ℕ → Type 0
SendsFront old new piece = (n : ℕ) × (n ≤ length piece) × Sends old new (take n piece)

-- What a sink was sent since it had sent `start`, the book being open or not, and broken or not. The policy text of the
-- journal without its last line goes out whole before the book is open, and the line of each change before it is made; so a
-- part of it, or the line of one more change or a part of that, may stand there where a write or a sync failed, and nothing goes out after that
abbrev pub HasText : Bool → Bool → Head → List EntryTree → List ℕ → List ℕ → Type 0
HasText false false h es start sent = sent ≡ start
HasText false true h es start sent = SendsPart start sent (front h es)
HasText true false h es start sent = Sends start sent (front h es)
HasText true true h es start sent = (e : EntryTree) × IsAccepted h (replay h es) e × SendsFront (start ++ front h es) sent (line_of h e)

-- what a call did that is done as a whole or fails
abbrev pub is_ready : Reach → Bool
is_ready Ready = true
is_ready Failed = false

abbrev pub is_failed : Reach → Bool
is_failed Ready = false
is_failed Failed = true

-- the pass once it was met at the end of this journal: it has seen all entries, and knows these steps
abbrev pub met_at : Identity Entry Head → List Entry → List AtomicStep → PassValue Entry Head → PassValue Entry Head
met_at board entries known pass = record pass { board = board; seen = entries; trail = pass.trail ++ Met (length entries) ∷ []; known = known }

-- What is learnt of a pass that is met at the end of a journal. What it had seen begins the journal, its session is numbered as those of the board are, from its first number on and below some next one, and the journal has no entry of it beside those that it had seen, and those that it had seen when it was last met. Of `next` it is said by a book alone that it is the number of the next session; elsewhere there only is such a number
pub record IsMetAt (board : Identity Entry Head) (next : ℕ) (entries : List Entry) (pass : PassValue Entry Head) : Type 0 where
  pub seen : IsPrefix pass.seen entries
  pub above : board.origin.first ≤ pass.session
  pub below : pass.session < next
  pub own_seen : own session_of entries pass.session ≡ own session_of pass.seen pass.session
  pub own_met : own session_of entries pass.session ≡ own session_of (met_seen pass) pass.session

-- what a change of a principal comes to at the end of a journal: its first refusal, or its reply number and the length of its line
abbrev pub decided_at : Identity Entry Head → List Entry → ℕ → ℕ → Event → Result Due Refusal
decided_at board entries session principal event = decision board.origin.setting (replay board.origin.setting (entry_trees entries)) session principal (event_tree event)

-- Each change that was made lasts, whatever failed since: once there is one, so much of what the sink was sent is synced that the text of the
-- journal, but for its last line, is
abbrev pub AreLasting : Head → (opening entries : List Entry) → List ℕ → ℕ → Type 0
AreLasting h opening entries start synced = length opening < length entries → length start + length (front h (entry_trees entries)) ≤ synced

-- The text that was written of a journal to a sink, by what the sink has sent and synced and how often it has failed. Each change that was made lasts. A write or a sync has failed exactly where the count has risen
pub record HasWritten {K : Type 0} (sent : K → List ℕ) (synced faults : K → ℕ) (is_open is_broken : Bool) (board : Identity Entry Head) (entries : List Entry) (start : List ℕ) (start_faults : ℕ) (sink : K) : Type 0 where
  pub text : HasText is_open is_broken board.origin.setting (entry_trees entries) start (sent sink)
  pub unopened : is_open ≡ false → entries ≡ board.origin.opening
  pub lasts : AreLasting board.origin.setting board.origin.opening entries start (synced sink)
  pub whole : is_broken ≡ false → length board.origin.opening < length entries → synced sink ≡ length (sent sink)
  pub failed : is_broken ≡ true → Rose start_faults (faults sink)
  pub unbroken : is_broken ≡ false → faults sink ≡ start_faults
  pub later : start_faults ≤ faults sink

module _ {K : Type 0} where
  -- a book as it was made, over this board and with this sink
  abbrev pub new_book : (K → List ℕ) → (K → ℕ) → Identity Entry Head → K → BookValue K
  new_book sent faults board sink = record {
    board = board;
    entries = board.origin.opening;
    next = board.origin.first;
    start = sent sink;
    start_faults = faults sink;
    sink = sink;
    is_open = false;
    is_broken = false;
    known = [];
  }

  -- the book has this board, this number of the next session, and this that its sink had sent, and how often it had failed, when the book was made
  abbrev pub IsNamed : Option (Identity Entry Head) → ℕ → List ℕ → ℕ → BookValue K → Type 0
  IsNamed board next start start_faults book = (board ≡ Some book.board) × (next ≡ book.next) × (start ≡ book.start) × (start_faults ≡ book.start_faults)

  abbrev pub head_of : BookValue K → Head
  head_of book = book.board.origin.setting

  -- the entries as plain values
  abbrev pub trees_of : BookValue K → List EntryTree
  trees_of book = entry_trees book.entries

  -- the state of the policy at the end of the journal
  abbrev pub state_of : BookValue K → State
  state_of book = replay (head_of book) (trees_of book)

  -- each entry is accepted in its place
  abbrev pub IsLegalBook : BookValue K → Type 0
  IsLegalBook book = IsLegal (head_of book) (trees_of book)

  -- the journal begins with the entries that the board was made with, all entries are of sessions below the next one, and those behind the opening ones of sessions that came with the board
  abbrev pub IsNumbered : BookValue K → Type 0
  IsNumbered book = IsSeated session_of book.board.origin book.entries book.next 0

  -- the text that was written, by what the sink has sent and synced and how often it has failed
  abbrev pub IsWritten : (sent : K → List ℕ) (synced faults : K → ℕ) → BookValue K → Type 0
  IsWritten sent synced faults book = HasWritten sent synced faults book.is_open book.is_broken book.board book.entries book.start book.start_faults book.sink

  -- the pass once the book met it
  abbrev pub met_in : BookValue K → List AtomicStep → PassValue Entry Head → PassValue Entry Head
  met_in book known pass = met_at book.board book.entries known pass

  -- what is known once the book met these passes
  abbrev pub AreGatheredIn : BookValue K → List (PassValue Entry Head) → List AtomicStep → Type 0
  AreGatheredIn book passes known = AreGathered book.board book.next book.entries book.known passes known

  -- what is learnt of a pass that the book meets
  abbrev pub IsMetIn : BookValue K → PassValue Entry Head → Type 0
  IsMetIn book pass = IsMetAt book.board book.next book.entries pass

  -- what a change of a principal comes to at the end of the journal
  abbrev pub decided : BookValue K → ℕ → ℕ → Event → Result Due Refusal
  decided book session principal event = decided_at book.board book.entries session principal event
