-- Passes that are met together.
use Rattle.std.specs.Prelude.{◌≡◌, ◌≢◌, ◌==◌, ℕ, ◌<◌, ◌≤◌, not, List, [], ◌∷◌, ◌++◌, length, map, filter, All}
use Rattle.std.specs.List.{flat_map}
use Rattle.std.specs.declared.vec.Vec.{Vec}
use Rattle.verdict_words.specs.Histories.{IsPrefix, own}
use Rattle.verdict_words.specs.Orders.{Gathers, IsOrder, told_of, trail_steps}
use Rattle.verdict_words.specs.declared.views.AtomicStep.{AtomicStep}
use Rattle.verdict_words.specs.Values.{Identity, SeatValue, PassValue, met_seen}
use Rattle.verdict_words.specs.declared.views.Item.{Item}
use Rattle.verdict_words.specs.declared.views.Item.TheVariants.{Met}

-- the sessions but this one
abbrev pub without : ℕ → List ℕ → List ℕ
without s lag = filter (λ x. not (x == s)) lag

-- the items of each list
abbrev pub items_of : {X Z : Type 0} → List (Vec X Z) → List (List X)
items_of lists = map (λ list. list.items) lists

-- lists end to end
abbrev pub flat : {X : Type 0} → List (List X) → List X
flat lists = flat_map (λ list. list) lists

module _ {E H : Type 0} where
  -- the passes of these lists, and behind them those of these rolls
  abbrev pub all_of : List (List (PassValue E H)) → List (List (PassValue E H)) → List (PassValue E H)
  all_of lists rolls = flat lists ++ flat rolls

  -- a pass with this session and trail, once it was met
  abbrev pub met_of : Identity E H → List E → List AtomicStep → ℕ → List Item → PassValue E H
  met_of board entries known session trail = record { board = board; session = session; seen = entries; trail = trail ++ Met (length entries) ∷ []; known = known }

  -- the passes once they were met
  abbrev pub all_met : Identity E H → List E → List AtomicStep → List (PassValue E H) → List (PassValue E H)
  all_met board entries known passes = map (λ (pass : PassValue E H). met_of board entries known pass.session pass.trail) passes

  -- the session that was met last
  abbrev pub last_turn : ℕ → List (PassValue E H) → ℕ
  last_turn turn [] = turn
  last_turn turn (pass ∷ passes) = last_turn pass.session passes

  -- the sessions but those of the passes
  abbrev pub without_all : List (PassValue E H) → List ℕ → List ℕ
  without_all [] lag = lag
  without_all (pass ∷ passes) lag = without_all passes (without pass.session lag)

  -- What the owner of the history learns of a pass that it meets. What the pass had seen begins the history, its session is one of the board's, and the history has no entry of it beside those that stood when it was last met, unless it has published since
  pub record IsMet (session : E → ℕ) (seat : SeatValue E H) (pass : PassValue E H) : Type 0 where
    pub seen : IsPrefix pass.seen seat.entries
    pub above : seat.board.origin.first ≤ pass.session
    pub below : pass.session < seat.next
    pub own_entries : All (λ s. s ≢ pass.session) seat.lag
        → (own session seat.entries pass.session ≡ own session pass.seen pass.session) × (own session seat.entries pass.session ≡ own session (met_seen pass) pass.session)

-- What is known once the owner of this history met these passes. Its load of the count stands behind all that it and they knew; up to there it is the order of the board, in which the steps of each pass's session are those that its trail tells
pub record AreGathered {E H : Type 0} (board : Identity E H) (next : ℕ) (entries : List E) (known : List AtomicStep) (passes : List (PassValue E H)) (known_then : List AtomicStep) : Type 0 where
  pub behind : Gathers known (map (λ (pass : PassValue E H). pass.known) passes) (length entries) known_then
  pub words : List ℕ
  pub order : IsOrder (length board.origin.opening) board.origin.first next known_then words
  pub own_steps : All (λ (pass : PassValue E H). told_of known_then pass.session ≡ trail_steps pass.session pass.trail) passes
