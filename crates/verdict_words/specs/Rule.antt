-- The rule of the table: what holds of its words and of what its seats know, between any two atomic steps.
use Rattle.std.specs.Prelude.{◌≡◌, ◌≢◌, ◌⊎◌, ℕ, ◌+◌, ◌<◌, ◌≤◌, List, [], ◌∷◌, ◌++◌, length, take, All, slice_index, Some, None}
use mathlib.Core.Option.{some}
use lib.ListN.{get_elem?}
use Rattle.atomic_table.specs.Table.{State, opening}
use Rattle.verdict_words.specs.Histories.{IsPrefix, EachFrom, Untouched, own}
use Rattle.verdict_words.specs.Words.{word_count, most_entries, object_region, store_region, region_word, Sound, slot_count, region_count}
use Rattle.verdict_words.specs.Orders.{IsOrder, trail_steps, loading_steps, told_of}
use Rattle.verdict_words.specs.declared.views.AtomicStep.{AtomicStep}
use Rattle.verdict_words.specs.declared.places.Held.{Held}
use Rattle.verdict_words.specs.declared.views.Origin.{Origin}
use Rattle.verdict_words.specs.declared.views.Key.{Key}
use Rattle.verdict_words.specs.declared.views.Item.{Item}
use Rattle.verdict_words.specs.declared.views.Item.TheVariants.{Loaded, Met, Filled, Ran}
use Rattle.verdict_words.specs.declared.views.Loading.{Loading}
use Rattle.verdict_words.specs.declared.views.Loading.TheVariants.{Nothing, Slot, Count, Object}
use Rattle.verdict_words.specs.declared.views.PassView.{PassView}
use Rattle.verdict_words.specs.declared.views.BookView.{BookView}
use Rattle.verdict_words.specs.declared.views.View.{View}
use Rattle.verdict_words.specs.declared.views.View.TheVariants.{Book, Pass, Spent}

-- the length of the last meeting in a trail, or 0
abbrev pub met_after : ℕ → List Item → ℕ
met_after n [] = n
met_after n (Met m ∷ items) = met_after m items
met_after n (Loaded place slot count object store ∷ items) = met_after n items
met_after n (Filled case at held ∷ items) = met_after n items
met_after n (Ran object step value ∷ items) = met_after n items

abbrev pub last_met : List Item → ℕ
last_met = met_after 0

module _ {E H : Type 0} where
  abbrev pub origin_of : Key E H → Origin E H
  origin_of key = record { setting = key.setting.value; opening = key.opening.value.items; first = key.first }

  -- what the seat of the book knows at the start
  abbrev pub first_book : Origin E H → BookView E H
  first_book origin = record { origin = origin; history = origin.opening; next = origin.first; turn = 0; lag = []; raised = None; known = []; held = [] }

  -- the steps that a pass tells: those of its trail, and of a look under way
  abbrev pub pass_steps : PassView E H → List AtomicStep
  pass_steps pass = trail_steps pass.session pass.trail ++ loading_steps pass.session pass.loading

  -- Of the order of all steps a pass knows a beginning, and its session's steps in it are those that the pass tells
  pub record IsInOrder (order : List AtomicStep) (pass : PassView E H) : Type 0 where
    pub known : IsPrefix pass.known order
    pub own_steps : told_of order pass.session ≡ pass_steps pass

  -- The book knows a beginning too, in which all steps of the owner are
  pub record IsBookInOrder (order : List AtomicStep) (book : BookView E H) : Type 0 where
    pub known : IsPrefix book.known order
    pub own_steps : own (λ (step : AtomicStep). step.session) order 0 ≡ own (λ (step : AtomicStep). step.session) book.known 0

  -- the session has a pass, which is the view of this seat or held by the book
  abbrev pub HasPass : List (View E H) → List (PassView E H) → ℕ → ℕ → Type 0
  HasPass views held j s = (p : PassView E H) × (p.session ≡ s) × ((get_elem? views j ≡ some (Pass p)) ⊎ ((before after : List (PassView E H)) × (held ≡ before ++ p ∷ after)))

  -- no two of the passes are of one session
  abbrev pub Apart : List (PassView E H) → Type 0
  Apart [] = Unit {0}
  Apart (p ∷ ps) = All (λ q. q.session ≢ p.session) ps × Apart ps

module _ {E : Type 0} (right : List E → ℕ → Held → Type 0) (touches : List E → E → ℕ → Type 0) where
  -- The words of a finished look. The slot's word was sound after the first `count` entries, and none of these touched a region behind that region's word
  abbrev pub IsLoaded : List E → Item → Type 0
  IsLoaded seen (Loaded place slot count object store) = (count ≤ length seen) × Sound right (take count seen) slot
      × Untouched touches (take count seen) object (object_region place.object) × Untouched touches (take count seen) store (store_region place.store)
  IsLoaded seen (Met n) = Unit {0}
  IsLoaded seen (Filled case at held) = Unit {0}
  IsLoaded seen (Ran object step value) = Unit {0}

  -- The same of a look under way. Its slot's word is sound for the history, and once the count was loaded, for what was seen then
  abbrev pub IsLoading : List E → List E → Loading → Type 0
  IsLoading history seen Nothing = Unit {0}
  IsLoading history seen (Slot place slot) = Sound right history slot
  IsLoading history seen (Count place slot count) = (count ≡ length seen) × Sound right seen slot
  IsLoading history seen (Object place slot count object) = (count ≡ length seen) × Sound right seen slot × Untouched touches seen object (object_region place.object)

module _ {E H : Type 0} (session : E → ℕ) where
  -- A history, the number of the next session, and the session that was met last or 0. Sessions are numbered from 1 on. The sessions of all entries are below the next one; those of new entries are not below the first one, and neither is the session that was met
  pub record IsSeated (origin : Origin E H) (entries : List E) (next turn : ℕ) : Type 0 where
    pub begins : IsPrefix origin.opening entries
    pub counted : 1 ≤ origin.first
    pub order : origin.first ≤ next
    pub below : EachFrom 0 entries (λ before entry. session entry < next)
    pub new : EachFrom (length origin.opening) entries (λ before entry. origin.first ≤ session entry)
    pub met : turn ≢ 0 → (origin.first ≤ turn) × (turn < next)

  -- what the seat of the book knows
  pub record BookOk (origin : Origin E H) (book : BookView E H) : Type 0 where
    pub same : book.origin ≡ origin
    pub short : length book.history ≤ most_entries
    pub seated : IsSeated origin book.history book.next book.turn

module _ {E : Type 0} (touches : List E → E → ℕ → Type 0) where
  -- the word is the length of the opening history, or the place of an entry that touches the region
  abbrev pub WasRaised : List E → List E → ℕ → ℕ → Type 0
  WasRaised first history region word = (word ≡ length first) ⊎ ((before : List E) × (entry : E) × (after : List E) × (history ≡ before ++ entry ∷ after) × (word ≡ length before + 1) × touches before entry region)

module _ {E H : Type 0} (touches : List E → E → ℕ → Type 0) where
  -- The word of a region is one more than the length where the region is raised. Else it is at most the length and at least the opening one: the place of the last entry that touches the region, or the length of the opening history where no entry behind that does
  pub record RegionOk (book : BookView E H) (region word : ℕ) : Type 0 where
    pub still : Untouched touches book.history word region
    pub least : length book.origin.opening ≤ word
    pub raised : book.raised ≡ Some region → word ≡ length book.history + 1
    pub else : book.raised ≢ Some region → word ≤ length book.history
    pub set : book.raised ≢ Some region → WasRaised touches book.origin.opening book.history region word

module _ {E H : Type 0} (right : List E → ℕ → Held → Type 0) (touches : List E → E → ℕ → Type 0) where
  -- the words beside the book
  pub record WordsOk (book : BookView E H) (words : List ℕ) : Type 0 where
    pub wide : length words ≡ word_count
    pub count : slice_index words 0 ≡ length book.history
    pub slots : (k : ℕ) → k < slot_count → Sound right book.history (slice_index words (1 + k))
    pub regions : (r : ℕ) → r < region_count → RegionOk touches book r (slice_index words (region_word r))

module _ {E H : Type 0} (session : E → ℕ) (right : List E → ℕ → Held → Type 0) (touches : List E → E → ℕ → Type 0) where
  -- What a pass knows, beside the book. Unless its session lags, no entry of that session stands behind the last meeting
  pub record PassOk (origin : Origin E H) (book : BookView E H) (pass : PassView E H) : Type 0 where
    pub same : pass.origin ≡ origin
    pub begins : IsPrefix origin.opening pass.seen
    pub seen : IsPrefix pass.seen book.history
    pub above : origin.first ≤ pass.session
    pub below : pass.session < book.next
    pub met : last_met pass.trail ≤ length pass.seen
    pub own : All (λ s. s ≢ pass.session) book.lag → EachFrom (last_met pass.trail) book.history (λ before entry. session entry ≢ pass.session)
    pub trail : All (IsLoaded right touches pass.seen) pass.trail
    pub loading : IsLoading right touches book.history pass.seen pass.loading

  -- One seat is the book's. Each session has one pass, which is a seat's or held by the book
  abbrev pub ViewOk : Origin E H → BookView E H → ℕ → (ℕ → ℕ) → List AtomicStep → ℕ → View E H → Type 0
  ViewOk origin book seat holder order j (Book b) = (j ≡ seat) × (b ≡ book)
  ViewOk origin book seat holder order j (Pass p) = (holder p.session ≡ j) × IsInOrder order p × PassOk origin book p
  ViewOk origin book seat holder order j Spent = Unit {0}

  -- There is one order of all steps. A pass that is held is between two calls
  pub record IsKept (origin : Origin E H) (s : State (Unit {0}) (View E H)) : Type 0 where
    pub seat : ℕ
    pub book : BookView E H
    pub holder : ℕ → ℕ
    pub order : List AtomicStep
    pub place : get_elem? s.views seat ≡ some (Book book)
    pub book_ok : BookOk session origin book
    pub words_ok : WordsOk right touches book s.words
    pub order_ok : IsOrder (length origin.opening) origin.first book.next order s.words
    pub book_in : IsBookInOrder order book
    pub views_ok : (j : ℕ) (v : View E H) → get_elem? s.views j ≡ some v → ViewOk origin book seat holder order j v
    pub held_ok : All (λ p. (p.loading ≡ Nothing) × ViewOk origin book seat holder order seat (Pass p)) book.held
    pub apart : Apart book.held
    pub present : (n : ℕ) → origin.first ≤ n → n < book.next → HasPass s.views book.held (holder n) n

  -- the rule lets a board start with these words, and with no others
  abbrev pub StartsWith : Origin E H → List ℕ → Type 0
  StartsWith origin words = (others : List ℕ) → IsKept origin (opening others [] (Book (first_book origin))) → others ≡ words
