-- What always holds of a book's parts.
use Rattle.std.specs.Prelude.{◌≡◌, ℕ, ◌+◌, ◌<◌, ◌≤◌, Bool, true, List, [], length, Option, Some, None}
use Rattle.policy_history.specs.declared.heads.Head.{Head}
use Rattle.policy_history.specs.declared.events.Entry.{Entry}
use Rattle.policy_history.specs.Values.{History}
use Rattle.verdict_words.specs.Values.{Identity, SeatValue}
use Rattle.verdict_words.specs.declared.views.AtomicStep.{AtomicStep}
use Rattle.policy_book.specs.Books.{BookValue, HasWritten}
use Rattle.policy_book.specs.declared.pens.Pen.{Pen}

-- What contracts see of a journal with the seat of its board: the board, the entries, the number of the next session, a beginning of the order of all atomic steps on the board, and how many more entries the journal has memory for
pub record SeatedValue : Type 0 where
  pub board : Identity Entry Head
  pub entries : List Entry
  pub next : ℕ
  pub known : List AtomicStep
  pub room : ℕ

abbrev pub seated_of : History → SeatValue Entry Head → SeatedValue
seated_of journal seat = record { board = seat.board; entries = seat.entries; next = seat.next; known = seat.known; room = journal.room }

-- the seat's history is the journal, of the board's head; no session lags and no region is raised
pub record IsKept (journal : History) (seat : SeatValue Entry Head) : Type 0 where
  pub head : journal.head ≡ seat.board.origin.setting
  pub entries : journal.entries ≡ seat.entries
  pub lag : seat.lag ≡ []
  pub raised : seat.raised ≡ None

-- what contracts see of a book, by its journal and its pen
abbrev pub value_of : {K : Type 0} → (K → List ℕ) → (K → ℕ) → SeatedValue → K → K → Bool → Bool → BookValue K
value_of sent faults seated sink start is_open is_broken = record {
  board = seated.board;
  entries = seated.entries;
  next = seated.next;
  start = sent start;
  start_faults = faults start;
  sink = sink;
  is_open = is_open;
  is_broken = is_broken;
  known = seated.known;
}

-- What contracts see of a shelf: its journal, and its pen, where it is there
pub record ShelfValue (K : Type 0) : Type 0 where
  pub seated : SeatedValue
  pub pen : Option (Pen K)

-- the pen is there, and is broken or not
abbrev pub IsPenIn : {K : Type 0} → Bool → Option (Pen K) → Type 0
IsPenIn is_broken (Some pen) = pen.is_broken ≡ is_broken
IsPenIn is_broken None = ⊥

module _ {K : Type 0} (sent : K → List ℕ) (synced faults : K → ℕ) where
  -- the pen has written the text of a book with these entries, which is open
  abbrev pub HasPenned : Identity Entry Head → List Entry → Pen K → Type 0
  HasPenned board entries pen = HasWritten sent synced faults true pen.is_broken board entries (sent pen.start.value) (faults pen.start.value) pen.sink

  -- the pen's sink had sent this, and had failed so often, when the book was made
  abbrev pub IsNamedPen : List ℕ → ℕ → Pen K → Type 0
  IsNamedPen start start_faults pen = (start ≡ sent pen.start.value) × (start_faults ≡ faults pen.start.value)

  -- What holds of a shelf, by how many changes were answered that they were not recorded (`told`), and what the writer's share of the other ledger has (`out`). Where the pen is there, it has written the text, and is broken where a change was not recorded; nothing is out. Where a writer has it, no change was told not to be recorded, and one more than the number of entries is out: so who has it knows that the journal has not grown. The memory for one more entry is kept for him
  abbrev pub IsShelved : List ℕ → ℕ → SeatedValue → (told out : ℕ) → Option (Pen K) → Type 0
  IsShelved start start_faults seated told out (Some pen) = HasPenned seated.board seated.entries pen × IsNamedPen start start_faults pen × (0 < told → pen.is_broken ≡ true) × (out ≡ 0)
  IsShelved start start_faults seated told out None = (told ≡ 0) × (out ≡ 1 + length seated.entries) × (1 ≤ seated.room)
