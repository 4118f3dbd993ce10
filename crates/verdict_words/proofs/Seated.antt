-- What the seat of the book knows after each of its steps.
use Rattle.std.proofs.Common.{◌≡◌, ◌≢◌, ℕ, ◌+◌, ◌-◌, List, [], ◌∷◌, ◌++◌, length, take, refl, sym, ap, ◌∙◌, subst, arith, Option, Some}
use Rattle.std.specs.Prelude.{All}
use Rattle.atomic_table.specs.Table.{Me, step}
use mathlib.Core.Option.{none}
use Rattle.verdict_words.specs.Histories.{own}
use Rattle.verdict_words.specs.Rule.{last_met, IsSeated, PassOk}
use Rattle.verdict_words.specs.Inner.Steps.{after_entry, raised_region, published, receiving, releasing, released}
use Rattle.verdict_words.specs.Settling.{without}
use Rattle.verdict_words.specs.Words.{region_word, first_region}
use Rattle.verdict_words.specs.Orders.{Steps, stores, publishes}
use Rattle.verdict_words.specs.declared.views.AtomicStep.{AtomicStep}
use Rattle.verdict_words.specs.Values.{Identity, SeatValue, seen_of, turn_of, lag_of, raised_of, known_of, presiding}
use Rattle.verdict_words.specs.declared.views.Origin.{Origin}
use Rattle.verdict_words.specs.declared.views.BookView.{BookView}
use Rattle.verdict_words.specs.declared.views.View.{View}
use Rattle.verdict_words.specs.declared.views.View.TheVariants.{Book, Pass}
use Rattle.verdict_words.specs.declared.views.PassView.{PassView}
use Rattle.verdict_words.specs.declared.places.Held.{Held}
use Rattle.verdict_words.proofs.Growing.{own_before, each_prefix, prefix_take}

module _ {E H : Type 0} where
  -- the seat of the book as contracts see it, by what it knows
  abbrev pub seat_view : Identity E H → ℕ → Me (Unit {0}) (View E H) → SeatValue E H
  seat_view board next m = record { board = board; entries = seen_of m.0; next = next; turn = turn_of m.0; lag = lag_of m.0; raised = raised_of m.0; known = known_of m.0 }

  -- a seat whose view is that of a resting book
  pub rests : (o : Origin E H) (m : Me (Unit {0}) (View E H)) (entries : List E) (next turn : ℕ) (lag : List ℕ) (raised : Option ℕ) (known : List AtomicStep) → m ≡ (presiding o entries next turn lag raised known, [])
      → m ≡ (presiding o (seen_of m.0) next (turn_of m.0) (lag_of m.0) (raised_of m.0) (known_of m.0), [])
  rests o m entries next turn lag raised known is = subst (λ (z : Me (Unit {0}) (View E H)). z ≡ (presiding o (seen_of z.0) next (turn_of z.0) (lag_of z.0) (raised_of z.0) (known_of z.0), [])) (sym is) refl

  pub rests_seated : (session : E → ℕ) (o : Origin E H) (m : Me (Unit {0}) (View E H)) (entries : List E) (next turn : ℕ) (lag : List ℕ) (raised : Option ℕ) (known : List AtomicStep) → m ≡ (presiding o entries next turn lag raised known, [])
      → IsSeated session o entries next turn → IsSeated session o (seen_of m.0) next (turn_of m.0)
  rests_seated session o m entries next turn lag raised known is ok = subst (λ (z : Me (Unit {0}) (View E H)). IsSeated session o (seen_of z.0) next (turn_of z.0)) (sym is) ok

  pub after_publish : (session : E → ℕ) (m m' : Me (Unit {0}) (View E H)) (b : BookView E H) (e : E) → m ≡ (Book b, [])
      → published session (Some e) (step 0 0 1 0 none) m 0 m' → (knows : List AtomicStep) × (m' ≡ (Book (after_entry session e knows b), [])) × Steps b.known (publishes (length b.history) ∷ []) knows
  after_publish session m m' b e is saw = (subst (λ (z : Me (Unit {0}) (View E H)). published session (Some e) (step 0 0 1 0 none) z 0 m') is saw).1.2

  pub after_raise : (word : ℕ) (m m' : Me (Unit {0}) (View E H)) (b : BookView E H) (region : ℕ) → m ≡ (Book b, [])
      → raised_region (step 0 (region_word region) word 0 none) m word m' → (knows : List AtomicStep) × (found : ℕ) × (m' ≡ (Book (record b { raised = Some region; known = knows }), [])) × Steps b.known (stores 0 (region_word region) (length b.history + 1) found ∷ []) knows
  after_raise word m m' b region is saw = let same : region_word region - first_region ≡ region = omega arith in
      let t = (subst (λ (z : Me (Unit {0}) (View E H)). raised_region (step 0 (region_word region) word 0 none) z word m') is saw).4 in
      (t.0, t.1, t.2 ∙ (λ i. (Book (record b { raised = Some (same i); known = t.0 }), [])), t.3)

  -- what the book knows after a step that it made
  pub book_steps_shown : (old : SeatValue E H) (board : Identity E H) (next : ℕ) (m m' : Me (Unit {0}) (View E H)) (knows : List AtomicStep) (made : List E → List AtomicStep)
      → seat_view board next m ≡ old → known_of m'.0 ≡ knows → Steps (known_of m.0) (made (seen_of m.0)) knows → Steps old.known (made old.entries) (known_of m'.0)
  book_steps_shown old board next m m' knows made view is steps =
      subst (λ (z : List AtomicStep × List E × List AtomicStep). Steps z.0 (made z.1) z.2) (λ i. (ap (λ (v : SeatValue E H). v.known) view i, ap (λ (v : SeatValue E H). v.entries) view i, sym is i)) steps

  -- a pass is taken in by a resting book
  pub after_receive : (m m' : Me (Unit {0}) (View E H)) (w : Me (Unit {0}) (View E H)) (b : BookView E H) (p : PassView E H) → m ≡ (Book b, []) → w ≡ (Pass p, []) → m' ≡ (receiving m.0 w.0, [])
      → m' ≡ (Book (record b { turn = p.session; held = b.held ++ p ∷ [] }), [])
  after_receive m m' w b p is other told = told ∙ (λ i. (receiving (is i).0 (other i).0, []))

  -- the book after it gave a pass back
  pub after_release : (m m' : Me (Unit {0}) (View E H)) (b : BookView E H) (p : PassView E H) (ps : List (PassView E H)) → m ≡ (Book b, []) → b.held ≡ p ∷ ps → m' ≡ (releasing m.0, []) → m' ≡ (Book (record b { lag = without p.session b.lag; held = ps }), [])
  after_release m m' b p ps is holds told = told ∙ (λ i. (releasing (is i).0, [])) ∙ (λ i. (Book (released b (holds i)), []))

module _ {E H : Type 0} (session : E → ℕ) (right : List E → ℕ → Held → Type 0) (touches : List E → E → ℕ → Type 0) (o : Origin E H) (b : BookView E H) (p : PassView E H) where
  -- of the entries of its session a pass that does not lag has seen all, and all stood when it was last met
  pub own_seen : PassOk session right touches o b p → All (λ s. s ≢ p.session) b.lag
      → (own session b.history p.session ≡ own session p.seen p.session) × (own session b.history p.session ≡ own session (take (last_met p.trail) p.seen) p.session)
  own_seen ok out =
      let m : ℕ = last_met p.trail in
      let each = ok.own out in
      let all : own session b.history p.session ≡ own session (take m b.history) p.session = own_before session b.history m p.session each in
      let seen : own session p.seen p.session ≡ own session (take m p.seen) p.session = own_before session p.seen m p.session (each_prefix (λ before e. session e ≢ p.session) m p.seen b.history ok.seen each) in
      let same : take m b.history ≡ take m p.seen = prefix_take p.seen b.history m ok.seen ok.met in
      let whole = all ∙ ap (λ l. own session l p.session) same in
      (whole ∙ sym seen, whole)
