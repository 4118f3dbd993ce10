-- What a seat has to be for an atomic step.
use Rattle.std.specs.Prelude.{◌≡◌, ◌≢◌, ◌↔◌, ℕ, ◌+◌, ◌<◌, ◌≤◌, List, [], ◌∷◌, length, take, Some, None}
use Rattle.atomic_table.specs.Table.{Me}
use Rattle.verdict_words.specs.Words.{most_entries, region_count}
use Rattle.verdict_words.specs.declared.places.Held.{Held}
use Rattle.verdict_words.specs.declared.views.Loading.{Loading}
use Rattle.verdict_words.specs.declared.views.Loading.TheVariants.{Nothing}
use Rattle.verdict_words.specs.declared.views.PassView.{PassView}
use Rattle.verdict_words.specs.declared.views.BookView.{BookView}
use Rattle.verdict_words.specs.declared.views.View.{View}
use Rattle.verdict_words.specs.declared.views.View.TheVariants.{Book, Pass}

module _ {E H : Type 0} where
  -- the seat is a pass's, whose look has come so far
  abbrev pub IsPassLoading : Loading → Me (Unit {0}) (View E H) → Type 0
  IsPassLoading loading me = (p : PassView E H) × (me ≡ (Pass p, [])) × (p.loading ≡ loading)

  -- the seat is that of a pass which rests, and has seen that the verdict was right
  abbrev pub CanKeep : (List E → ℕ → Held → Type 0) → ℕ → ℕ → Held → Me (Unit {0}) (View E H) → Type 0
  CanKeep right case at held me = (p : PassView E H) × (me ≡ (Pass p, [])) × (p.loading ≡ Nothing) × (at ≤ length p.seen) × right (take at p.seen) case held

  -- the seat is the book's
  abbrev pub IsBooks : Me (Unit {0}) (View E H) → Type 0
  IsBooks me = (b : BookView E H) × (me ≡ (Book b, []))

  -- the seat is the book's, which may raise a region to this word
  abbrev pub CanRaise : ℕ → Me (Unit {0}) (View E H) → Type 0
  CanRaise word me = (b : BookView E H) × (me ≡ (Book b, [])) × (b.raised ≡ None) × (length b.history < most_entries) × (word ≡ length b.history + 1)

  -- the seat is the book's, which may publish the entry
  abbrev pub CanPublish : (E → ℕ) → (List E → E → ℕ → Type 0) → E → Me (Unit {0}) (View E H) → Type 0
  CanPublish session touches entry me = (b : BookView E H) × (me ≡ (Book b, [])) × (b.turn ≢ 0) × (session entry ≡ b.turn) × (length b.history < most_entries)
      × ((r : ℕ) → r < region_count → touches b.history entry r ↔ (b.raised ≡ Some r))

  -- the seat is the book's, which holds a pass
  abbrev pub IsHoldingOne : Me (Unit {0}) (View E H) → Type 0
  IsHoldingOne me = (b : BookView E H) × (p : PassView E H) × (ps : List (PassView E H)) × (me ≡ (Book b, [])) × (b.held ≡ p ∷ ps)
