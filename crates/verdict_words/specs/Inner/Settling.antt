-- What the calls of a settlement do to what a seat knows, one after another.
use Rattle.std.specs.Prelude.{◌≡◌, ℕ, ◌≤◌, List, [], ◌∷◌, length, map, take, drop, All}
use Rattle.atomic_table.specs.Table.{Me}
use Rattle.verdict_words.specs.Histories.{IsPrefix}
use Rattle.verdict_words.specs.Inner.Steps.{receiving, releasing}
use Rattle.verdict_words.specs.Values.{Identity, PassValue, board_of, resting}
use Rattle.verdict_words.specs.declared.views.AtomicStep.{AtomicStep}
use Rattle.verdict_words.specs.declared.views.PassView.{PassView}
use Rattle.verdict_words.specs.declared.views.BookView.{BookView}
use Rattle.verdict_words.specs.declared.views.View.{View}
use Rattle.verdict_words.specs.declared.views.View.TheVariants.{Book, Pass, Spent}
use Rattle.verdict_words.specs.Settling.{met_of}

-- a list in parts that are as long as these lists, and without what is behind them
abbrev pub cut_as : {X Y : Type 0} → List (List X) → List Y → List (List Y)
cut_as [] ys = []
cut_as (list ∷ lists) ys = take (length list) ys ∷ cut_as lists (drop (length list) ys)

module _ {E H : Type 0} where
  abbrev pub sessions_of : List (PassValue E H) → List ℕ
  sessions_of passes = map (λ (pass : PassValue E H). pass.session) passes

  -- a pass that the book holds, once it was met
  abbrev pub met_held : Identity E H → List E → List AtomicStep → PassView E H → PassValue E H
  met_held board entries known p = met_of board entries known p.session p.trail

  -- what the seat of a pass knows
  abbrev pub view_of : PassValue E H → View E H
  view_of pass = resting pass.board.origin pass.session pass.seen pass.trail pass.known

  -- a pass whose view the book holds
  abbrev pub away : PassValue E H → PassValue E H
  away pass = record { board = board_of {E = E} {H = H} Spent pass.board; session = pass.session; seen = []; trail = []; known = [] }

  -- the book takes passes in, one after another
  abbrev pub receiving_all : View E H → List (PassValue E H) → View E H
  receiving_all v [] = v
  receiving_all v (pass ∷ passes) = receiving_all (receiving v (view_of pass)) passes

  -- the book gives so many passes back
  abbrev pub releasing_all : List (PassView E H) → View E H → View E H
  releasing_all [] v = v
  releasing_all (p ∷ ps) v = releasing_all ps (releasing v)

  abbrev pub held_of : View E H → List (PassView E H)
  held_of (Book b) = b.held
  held_of (Pass p) = []
  held_of Spent = []

  -- The book's seat holds passes of this board that can be given back: the history is of this length, and the sessions are numbered from the first one on
  pub record IsHolding (board : Identity E H) (count : ℕ) (sessions : List ℕ) (me : Me (Unit {0}) (View E H)) : Type 0 where
    pub book : BookView E H
    pub is : me ≡ (Book book, [])
    pub long : count ≡ length book.history
    pub begins : IsPrefix board.origin.opening book.history
    pub of : All (λ (p : PassView E H). (p.origin ≡ board.origin) × (board.origin.first ≤ p.session)) book.held
    pub sessions_are : sessions ≡ map (λ (p : PassView E H). p.session) book.held

  -- The book's seat holds so many passes
  pub record IsHoldingMany (count : ℕ) (me : Me (Unit {0}) (View E H)) : Type 0 where
    pub book : BookView E H
    pub is : me ≡ (Book book, [])
    pub many : length book.held ≡ count
