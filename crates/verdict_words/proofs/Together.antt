-- What is known of passes that were met together.
use Rattle.std.proofs.Common.{◌≡◌, ◌≢◌, ℕ, suc, ◌<◌, ◌≤◌, List, [], ◌∷◌, ◌++◌, length, map, refl, sym, ap, ◌∙◌, subst, arith}
use Rattle.std.specs.Prelude.{All}
use Rattle.std.proofs.lemmas.List.{append-nil}
use Rattle.std.proofs.lemmas.List.Elements.{All-cons, All-nil}
use mathlib.Core.Option.{none}
use Rattle.atomic_table.specs.Table.{Me, step}
use Rattle.verdict_words.specs.Histories.{own}
use Rattle.verdict_words.specs.Orders.{Gathers, IsOrder, told_of, trail_steps}
use Rattle.verdict_words.specs.Rule.{PassOk, pass_steps}
use Rattle.verdict_words.specs.Inner.Steps.{checked}
use Rattle.verdict_words.specs.declared.views.AtomicStep.{AtomicStep}
use Rattle.verdict_words.specs.Values.{Identity, PassValue, SeatValue, seen_of, turn_of, lag_of, raised_of, known_of}
use Rattle.verdict_words.specs.Settling.{all_met, last_turn, without_all, AreGathered, IsMet}
use Rattle.verdict_words.specs.Inner.Settling.{met_held, away, receiving_all, releasing_all, held_of}
use Rattle.verdict_words.specs.declared.places.Held.{Held}
use Rattle.verdict_words.specs.declared.views.Origin.{Origin}
use Rattle.verdict_words.specs.declared.views.PassView.{PassView}
use Rattle.verdict_words.specs.declared.views.BookView.{BookView}
use Rattle.verdict_words.specs.declared.views.View.{View}
use Rattle.verdict_words.specs.declared.views.View.TheVariants.{Book}
use Rattle.verdict_words.proofs.Kept.{All-with}
use Rattle.verdict_words.proofs.Ordering.{all_with}
use Rattle.verdict_words.proofs.Seated.{own_seen, seat_view}
use Rattle.verdict_words.proofs.Settled.{pass_view, holding, received, given}

module _ {E H : Type 0} where
  pub views_all : (P : PassView E H → Type 0) (passes : List (PassValue E H)) → All P (map pass_view passes) → All (λ pass. P (pass_view pass)) passes
  views_all P [] all = All-nil (λ pass. P (pass_view pass))
  views_all P (p ∷ ps) all = All-cons (λ pass. P (pass_view pass)) p ps (all 0 (pass_view p) (omega arith)) (views_all P ps (λ k d lt. all (suc k) d (omega arith)))

  pub sessions_away : (passes : List (PassValue E H)) → map (λ (p : PassValue E H). p.session) (map away passes) ≡ map (λ (p : PassView E H). p.session) (map pass_view passes)
  sessions_away [] = refl
  sessions_away (p ∷ ps) = ap (λ l. p.session ∷ l) (sessions_away ps)

  pub met_views : (board : Identity E H) (entries : List E) (known : List AtomicStep) (passes : List (PassValue E H)) → map (met_held board entries known) (map pass_view passes) ≡ all_met board entries known passes
  met_views board entries known [] = refl
  met_views board entries known (p ∷ ps) = ap (λ l. met_held board entries known (pass_view p) ∷ l) (met_views board entries known ps)

  known_views : (passes : List (PassValue E H)) → map (λ (p : PassView E H). p.known) (map pass_view passes) ≡ map (λ (p : PassValue E H). p.known) passes
  known_views [] = refl
  known_views (p ∷ ps) = ap (λ l. p.known ∷ l) (known_views ps)

  -- the book's seat once all passes were taken in
  pub after_holding : (m m' : Me (Unit {0}) (View E H)) (b : BookView E H) (passes : List (PassValue E H)) → m ≡ (Book b, []) → m' ≡ (receiving_all m.0 passes, []) → m' ≡ (Book (holding b passes), [])
  after_holding m m' b passes is told = told ∙ ((λ i. (receiving_all (is i).0 passes, [])) ∙ ap (λ (v : View E H). (v, [])) (received b passes))

  -- and once all were given back
  pub after_giving : (m m' : Me (Unit {0}) (View E H)) (b : BookView E H) (passes : List (PassValue E H)) → m ≡ (Book b, []) → b.held ≡ map pass_view passes → m' ≡ (releasing_all (held_of m.0) m.0, [])
      → m' ≡ (Book (record b { lag = without_all passes b.lag; held = [] }), [])
  after_giving m m' b passes is holds told = told ∙ ((λ i. (releasing_all (held_of (is i).0) (is i).0, [])) ∙ ((λ i. (releasing_all (holds i) (Book b), [])) ∙ ap (λ (v : View E H). (v, [])) (given passes b holds)))

  -- what the book learns of all passes that it holds
  pub record Learned (session : E → ℕ) (right : H → List E → ℕ → Held → Type 0) (touches : H → List E → E → ℕ → Type 0) (b : BookView E H) (m' : Me (Unit {0}) (View E H)) : Type 0 where
    pub knows : List AtomicStep
    pub view : m' ≡ (Book (record b { known = knows }), [])
    pub passes : All (PassOk session (right b.origin.setting) (touches b.origin.setting) b.origin b) b.held
    pub behind : Gathers b.known (map (λ (p : PassView E H). p.known) b.held) (length b.history) knows
    pub words : List ℕ
    pub order : IsOrder (length b.origin.opening) b.origin.first b.next knows words
    pub own_steps : All (λ (p : PassView E H). told_of knows p.session ≡ pass_steps p) b.held

  pub learned : (session : E → ℕ) (right : H → List E → ℕ → Held → Type 0) (touches : H → List E → E → ℕ → Type 0) (m m' : Me (Unit {0}) (View E H)) (b : BookView E H)
      → m ≡ (Book b, []) → checked session right touches (step 0 0 0 0 none) m 0 m' → Learned session right touches b m'
  learned session right touches m m' b is told = let t = (subst (λ (z : Me (Unit {0}) (View E H)). checked session right touches (step 0 0 0 0 none) z 0 m') is told).1 in
      record { knows = t.0; view = t.1; passes = t.2; behind = t.3; words = t.4.0; order = t.4.1; own_steps = t.5 }

  -- the same of the passes as contracts see them
  pub gathered : (session : E → ℕ) (right : H → List E → ℕ → Held → Type 0) (touches : H → List E → E → ℕ → Type 0) (m' : Me (Unit {0}) (View E H)) (b : BookView E H) (passes : List (PassValue E H)) (seat : SeatValue E H)
      → b.held ≡ map pass_view passes → b.origin ≡ seat.board.origin → b.history ≡ seat.entries → b.next ≡ seat.next → b.known ≡ seat.known → (known : Learned session right touches b m') → AreGathered seat.board seat.next seat.entries seat.known passes known.knows
  gathered session right touches m' b passes seat holds same history later knew known = record {
    behind = subst (λ (z : List AtomicStep × List (List AtomicStep) × List E). Gathers z.0 z.1 (length z.2) known.knows) (λ i. (knew i, (ap (map (λ (p : PassView E H). p.known)) holds ∙ known_views passes) i, history i)) known.behind;
    words = known.words;
    order = subst (λ (z : Origin E H × ℕ). IsOrder (length z.0.opening) z.0.first z.1 known.knows known.words) (λ i. (same i, later i)) known.order;
    own_steps = all_with (λ (p : PassValue E H). told_of known.knows p.session ≡ pass_steps (pass_view p)) (λ (p : PassValue E H). told_of known.knows p.session ≡ trail_steps p.session p.trail) passes
        (λ p e. e ∙ append-nil (trail_steps p.session p.trail)) (views_all (λ (p : PassView E H). told_of known.knows p.session ≡ pass_steps p) passes (subst (All (λ (p : PassView E H). told_of known.knows p.session ≡ pass_steps p)) holds known.own_steps));
  }

  -- what the book learns of one of them
  pub is_met : (session : E → ℕ) (right : H → List E → ℕ → Held → Type 0) (touches : H → List E → E → ℕ → Type 0) (board : Identity E H) (entries : List E) (next turn : ℕ) (lag : List ℕ) (raised : _) (known : List AtomicStep) (b : BookView E H) (pass : PassValue E H)
      → b.origin ≡ board.origin → b.history ≡ entries → b.next ≡ next → b.lag ≡ lag → PassOk session (right b.origin.setting) (touches b.origin.setting) b.origin b (pass_view pass)
      → IsMet session (record { board = board; entries = entries; next = next; turn = turn; lag = lag; raised = raised; known = known }) pass
  is_met session right touches board entries next turn lag raised known b pass same history later waits ok = record {
    seen = subst (λ (h : List E). (more : List E) × (h ≡ pass.seen ++ more)) history ok.seen;
    above = subst (λ (z : Origin E H). z.first ≤ pass.session) same ok.above;
    below = subst (λ n. pass.session < n) later ok.below;
    own_entries = λ out. let two = own_seen session (right b.origin.setting) (touches b.origin.setting) b.origin b (pass_view pass) ok (subst (All (λ s. s ≢ pass.session)) (sym waits) out) in
        (ap (λ h. own session h pass.session) (sym history) ∙ two.0, ap (λ h. own session h pass.session) (sym history) ∙ two.1);
  }

  -- the passes that are held are of the board
  pub holdable : (session : E → ℕ) (right : H → List E → ℕ → Held → Type 0) (touches : H → List E → E → ℕ → Type 0) (b : BookView E H) (m' : Me (Unit {0}) (View E H)) (origin : Origin E H) → b.origin ≡ origin → Learned session right touches b m'
      → All (λ (p : PassView E H). (p.origin ≡ origin) × (origin.first ≤ p.session)) b.held
  holdable session right touches b m' origin same known = All-with (PassOk session (right b.origin.setting) (touches b.origin.setting) b.origin b) (λ (p : PassView E H). (p.origin ≡ origin) × (origin.first ≤ p.session)) b.held
      (λ p ok. (ok.same ∙ same, subst (λ (z : Origin E H). z.first ≤ p.session) same ok.above)) known.passes

  -- a book that holds no pass
  abbrev pub resting_book : Origin E H → Me (Unit {0}) (View E H) → ℕ → BookView E H
  resting_book o m next = record { origin = o; history = seen_of m.0; next = next; turn = turn_of m.0; lag = lag_of m.0; raised = raised_of m.0; known = known_of m.0; held = [] }

  -- what a book learns of all passes
  module _ (session : E → ℕ) (right : H → List E → ℕ → Held → Type 0) (touches : H → List E → E → ℕ → Type 0) (board : Identity E H) (m m' : Me (Unit {0}) (View E H)) (next : ℕ) (passes : List (PassValue E H)) where
    abbrev all : BookView E H
    all = holding (resting_book board.origin m next) passes

    abbrev Ok : PassView E H → Type 0
    Ok = PassOk session (right board.origin.setting) (touches board.origin.setting) board.origin all

    pub in_range : Learned session right touches all m' → All (λ (p : PassValue E H). (board.origin.first ≤ p.session) × (p.session < next)) passes
    in_range known = All-with (λ (p : PassValue E H). Ok (pass_view p)) (λ (p : PassValue E H). (board.origin.first ≤ p.session) × (p.session < next)) passes (λ p ok. (ok.above, ok.below)) (views_all Ok passes known.passes)

    pub are_met : (seat : SeatValue E H) → seat_view board next m ≡ seat → Learned session right touches all m' → All (IsMet session seat) passes
    are_met seat is known = subst (λ (z : SeatValue E H). All (IsMet session z) passes) is
        (All-with (λ (p : PassValue E H). Ok (pass_view p)) (IsMet session (seat_view board next m)) passes
        (λ p ok. is_met session right touches board (seen_of m.0) next (turn_of m.0) (lag_of m.0) (raised_of m.0) (known_of m.0) all p refl refl refl refl ok) (views_all Ok passes known.passes))

  -- the seat as contracts see it, once all passes were given back
  pub seat_value : (old : SeatValue E H) (board : Identity E H) (m m' : Me (Unit {0}) (View E H)) (next : ℕ) (passes : List (PassValue E H)) (knows : List AtomicStep) → seat_view board next m ≡ old
      → m' ≡ (Book (record (holding (resting_book board.origin m next) passes) { lag = without_all passes (lag_of m.0); known = knows; held = [] }), [])
      → seat_view board next m' ≡ record old { turn = last_turn old.turn passes; lag = without_all passes old.lag; known = known_of m'.0 }
  seat_value old board m m' next passes knows view is =
      (λ i. record { board = board; entries = seen_of (is i).0; next = next; turn = turn_of (is i).0; lag = lag_of (is i).0; raised = raised_of (is i).0; known = known_of m'.0 })
      ∙ ap (λ (v : SeatValue E H). record v { turn = last_turn v.turn passes; lag = without_all passes v.lag; known = known_of m'.0 }) view
