-- What contracts see of a board, of the seat of its book, and of its passes.
use Rattle.std.specs.Prelude.{◌≡◌, ◌⊎◌, ℕ, ◌+◌, ◌^◌, ◌-◌, ◌≤◌, List, [], ◌∷◌, length, map, take, Option, None}
use Rattle.std.specs.List.{range_with_len}
use Rattle.atomic_table.specs.Seated.{TableId}
use Rattle.atomic_table.specs.declared.shared.Seat.{Seat}
use Rattle.verdict_words.specs.Histories.{IsPrefix}
use Rattle.verdict_words.specs.Words.{most_entries}
use Rattle.verdict_words.specs.Rule.{last_met, IsSeated}
use Rattle.verdict_words.specs.declared.views.Origin.{Origin}
use Rattle.verdict_words.specs.declared.views.Item.{Item}
use Rattle.verdict_words.specs.declared.views.AtomicStep.{AtomicStep}
use Rattle.verdict_words.specs.declared.views.Loading.TheVariants.{Nothing}
use Rattle.verdict_words.specs.declared.views.View.{View}
use Rattle.verdict_words.specs.declared.views.View.TheVariants.{Book, Pass, Spent}

-- Which board it is: its table, and what it was made with
pub record Identity (E H : Type 0) : Type 0 where
  pub table : TableId
  pub origin : Origin E H

-- What contracts see of the seat: its board, the history, the number of the next session, the session that was met last or 0, the sessions that have published since they were met, the region that is raised, and a beginning of the order of all atomic steps
pub record SeatValue (E H : Type 0) : Type 0 where
  pub board : Identity E H
  pub entries : List E
  pub next : ℕ
  pub turn : ℕ
  pub lag : List ℕ
  pub raised : Option ℕ
  pub known : List AtomicStep

-- What contracts see of a pass: its board, its session, the history that it has seen, its steps so far, and a beginning of the order of all atomic steps
pub record PassValue (E H : Type 0) : Type 0 where
  pub board : Identity E H
  pub session : ℕ
  pub seen : List E
  pub trail : List Item
  pub known : List AtomicStep

-- the seat of a session, and its board
abbrev pub SeatOf : Type 0 → Type 0 → Type 0
SeatOf E H = Identity E H × Seat (Unit {0}) (View E H)

module _ {E H : Type 0} where
  -- what a pass had seen when it was last met
  abbrev pub met_seen : PassValue E H → List E
  met_seen pass = take (last_met pass.trail) pass.seen

  -- the board of a pass: a pass whose view the book holds is of no board, since a board has words
  abbrev pub board_of : View E H → Identity E H → Identity E H
  board_of (Pass p) board = board
  board_of (Book b) board = board
  board_of Spent board = record { table = record board.table { words = 0 }; origin = record board.origin { opening = [] } }

  abbrev pub seen_of : View E H → List E
  seen_of (Pass p) = p.seen
  seen_of (Book b) = b.history
  seen_of Spent = []

  abbrev pub trail_of : View E H → List Item
  trail_of (Pass p) = p.trail
  trail_of (Book b) = []
  trail_of Spent = []

  abbrev pub known_of : View E H → List AtomicStep
  known_of (Pass p) = p.known
  known_of (Book b) = b.known
  known_of Spent = []

  abbrev pub turn_of : View E H → ℕ
  turn_of (Book b) = b.turn
  turn_of (Pass p) = 0
  turn_of Spent = 0

  abbrev pub lag_of : View E H → List ℕ
  lag_of (Book b) = b.lag
  lag_of (Pass p) = []
  lag_of Spent = []

  abbrev pub raised_of : View E H → Option ℕ
  raised_of (Book b) = b.raised
  raised_of (Pass p) = None
  raised_of Spent = None

  -- a pass of this session as contracts see it, by its seat
  abbrev pub pass_of : SeatOf E H → ℕ → PassValue E H
  pass_of seat session = record { board = board_of seat.1.me.0 seat.0; session = session; seen = seen_of seat.1.me.0; trail = trail_of seat.1.me.0; known = known_of seat.1.me.0 }

  -- a roll: passes by their seats, of which the first is of this session, and each other one of the next
  abbrev pub roll_of : ℕ → List (SeatOf E H) → List (PassValue E H)
  roll_of first [] = []
  roll_of first (seat ∷ seats) = pass_of seat first ∷ roll_of (first + 1) seats

  -- the passes of so many new sessions from this number on: they have seen these entries, and know these steps
  abbrev pub enrolled : Identity E H → ℕ → List E → List AtomicStep → ℕ → List (PassValue E H)
  enrolled board first entries known count = map (λ session. record { board = board; session = session; seen = entries; trail = []; known = known }) (range_with_len first count)

  -- what the seat of a resting pass knows
  abbrev pub resting : Origin E H → ℕ → List E → List Item → List AtomicStep → View E H
  resting origin session seen trail known = Pass record { origin = origin; session = session; seen = seen; trail = trail; known = known; loading = Nothing }

  -- what the seat of a resting book knows
  abbrev pub presiding : Origin E H → List E → ℕ → ℕ → List ℕ → Option ℕ → List AtomicStep → View E H
  presiding origin entries next turn lag raised known = Book record { origin = origin; history = entries; next = next; turn = turn; lag = lag; raised = raised; known = known; held = [] }

-- what holds of every pass: its seat is of its board, and rests or is spent
pub record IsPass {E H : Type 0} (board : Identity E H) (place : Seat (Unit {0}) (View E H)) (session at : ℕ) : Type 0 where
  pub table : place.table_id ≡ board.table
  pub view : (place.me ≡ (resting board.origin session (seen_of place.me.0) (trail_of place.me.0) (known_of place.me.0), [])) ⊎ (place.me ≡ (Spent, []))
  pub count : at ≡ length (seen_of place.me.0)
  pub short : at ≤ most_entries
  pub numbered : (1 ≤ session) × ((board_of place.me.0 board).origin.first ≤ session)
  pub begins : IsPrefix (board_of place.me.0 board).origin.opening (seen_of place.me.0)

-- what holds of every seat of a book: it is of its board, and rests
pub record IsBookSeat {E H : Type 0} (session : E → ℕ) (board : Identity E H) (place : Seat (Unit {0}) (View E H)) (next count : ℕ) : Type 0 where
  pub table : place.table_id ≡ board.table
  pub view : place.me ≡ (presiding board.origin (seen_of place.me.0) next (turn_of place.me.0) (lag_of place.me.0) (raised_of place.me.0) (known_of place.me.0), [])
  pub long : count ≡ length (seen_of place.me.0)
  pub short : count ≤ most_entries
  pub seated : IsSeated session board.origin (seen_of place.me.0) next (turn_of place.me.0)

-- each of these seats is that of a pass which has seen so many entries, the first of this session and each other one of the next
abbrev pub ArePasses : {E H : Type 0} → ℕ → ℕ → List (SeatOf E H) → Type 0
ArePasses first at [] = Unit {0}
ArePasses first at (seat ∷ seats) = IsPass seat.0 seat.1 first at × ArePasses (first + 1) at seats

-- what holds of every roll: its seats are those of passes, and there are numbers for their sessions
pub record IsRoll {E H : Type 0} (first at : ℕ) (seats : List (SeatOf E H)) : Type 0 where
  pub passes : ArePasses first at seats
  pub room : first + length seats ≤ 2 ^ 64 - 1
