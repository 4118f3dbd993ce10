-- What each atomic step is, and what it does to what a seat knows.
use Rattle.std.specs.Prelude.{◌≡◌, ◌≢◌, ℕ, ◌+◌, ◌-◌, ◌<◌, ◌≤◌, List, [], ◌∷◌, ◌++◌, length, map, All, Option, Some, None}
use Rattle.atomic_table.specs.Table.{Me, Step}
use Rattle.verdict_words.specs.Histories.{IsPrefix, Untouched}
use Rattle.verdict_words.specs.Words.{slot_word, register_word, region_word, most_entries, object_region, store_region, spelling, Sound, most_objects, region_count}
use Rattle.verdict_words.specs.Orders.{Steps, Gathers, IsOrder, loads, stores, publishes, item_steps, told_of}
use Rattle.verdict_words.specs.Settling.{without}
use Rattle.verdict_words.specs.Rule.{PassOk, pass_steps}
use Rattle.verdict_words.specs.declared.views.AtomicStep.{AtomicStep}
use Rattle.verdict_words.specs.declared.places.Held.{Held}
use Rattle.verdict_words.specs.declared.places.CasePlace.{CasePlace}
use Rattle.verdict_words.specs.declared.views.Item.{Item}
use Rattle.verdict_words.specs.declared.views.Item.TheVariants.{Filled, Loaded, Met, Ran}
use Rattle.verdict_words.specs.declared.views.RegisterStep.{RegisterStep}
use Rattle.verdict_words.specs.declared.views.RegisterStep.TheVariants.{Read, Write, Add}
use Rattle.verdict_words.specs.declared.views.Loading.{Loading}
use Rattle.verdict_words.specs.declared.views.Loading.TheVariants.{Nothing, Slot, Count, Object}
use Rattle.verdict_words.specs.declared.views.PassView.{PassView}
use Rattle.verdict_words.specs.declared.views.BookView.{BookView}
use Rattle.verdict_words.specs.declared.views.View.{View}
use Rattle.verdict_words.specs.declared.views.View.TheVariants.{Book, Pass, Spent}

-- No step is silent: each definition of a step below says through `On` which word it is on and with which operand, and through one of the five after it of which kind the seat's view is; on another word, with another operand or by another seat it is not allowed
abbrev pub On : Step (Unit {0}) → ℕ → ℕ → Type 0
On st word operand = (st.word ≡ word) × (st.first ≡ operand) × (st.second ≡ 0)

module _ {E H : Type 0} where
  abbrev pub ForPass : View E H → (PassView E H → Type 0) → Type 0
  ForPass (Pass p) F = F p
  ForPass (Book b) F = ⊥
  ForPass Spent F = ⊥

  abbrev pub ForBook : View E H → (BookView E H → Type 0) → Type 0
  ForBook (Book b) F = F b
  ForBook (Pass p) F = ⊥
  ForBook Spent F = ⊥

-- a look has loaded its slot
abbrev pub ForSlot : Loading → (CasePlace → ℕ → Type 0) → Type 0
ForSlot (Slot place slot) F = F place slot
ForSlot Nothing F = ⊥
ForSlot (Count place slot count) F = ⊥
ForSlot (Object place slot count object) F = ⊥

-- and then the count
abbrev pub ForCount : Loading → (CasePlace → ℕ → ℕ → Type 0) → Type 0
ForCount (Count place slot count) F = F place slot count
ForCount Nothing F = ⊥
ForCount (Slot place slot) F = ⊥
ForCount (Object place slot count object) F = ⊥

-- and then the region of the object
abbrev pub ForObject : Loading → (CasePlace → ℕ → ℕ → ℕ → Type 0) → Type 0
ForObject (Object place slot count object) F = F place slot count object
ForObject Nothing F = ⊥
ForObject (Slot place slot) F = ⊥
ForObject (Count place slot count) F = ⊥

-- what a step is told, beside its words
abbrev pub ForSaid : {X : Type 0} → Option X → (X → Type 0) → Type 0
ForSaid (Some x) F = F x
ForSaid None F = ⊥

-- that a verdict is kept
abbrev pub ForFilled : Item → (ℕ → ℕ → Held → Type 0) → Type 0
ForFilled (Filled case at held) F = F case at held
ForFilled (Loaded place slot count object store) F = ⊥
ForFilled (Met n) F = ⊥
ForFilled (Ran object step value) F = ⊥

-- the operand of a step on a register
abbrev pub operand : RegisterStep → ℕ
operand Read = 0
operand (Write x) = x
operand (Add x) = x

-- what a step tells: of the step itself, the seat before, the number found (at a store, the number stored) and the seat after
abbrev pub Told : Type 0 → Type 0 → Type 1
Told E H = Step (Unit {0}) → Me (Unit {0}) (View E H) → ℕ → Me (Unit {0}) (View E H) → Type 0

module _ {E H : Type 0} where
  -- the pass at its next step: the item stands last in its trail
  abbrev pub gained : Item → List AtomicStep → PassView E H → PassView E H
  gained item known p = record p { trail = p.trail ++ item ∷ []; known = known }

  -- a new pass: it has seen all that the book knows
  abbrev pub new_pass : BookView E H → PassView E H
  new_pass b = record { origin = b.origin; session = b.next; seen = b.history; trail = []; known = b.known; loading = Nothing }

  -- the pass once it was met: it has seen all that the book knows
  abbrev pub met_pass : BookView E H → PassView E H → PassView E H
  met_pass b p = record { origin = p.origin; session = p.session; seen = b.history; trail = p.trail ++ Met (length b.history) ∷ []; known = b.known; loading = Nothing }

  -- the book with one session more
  abbrev pub admitting : View E H → View E H
  admitting (Book b) = Book (record b { next = b.next + 1 })
  admitting (Pass p) = Pass p
  admitting Spent = Spent

  abbrev pub admitted : View E H → View E H
  admitted (Book b) = Pass (new_pass b)
  admitted (Pass p) = Spent
  admitted Spent = Spent

  -- what a pass knows goes to another seat
  abbrev pub yielding : View E H → View E H
  yielding (Pass p) = Spent
  yielding (Book b) = Book b
  yielding Spent = Spent

  abbrev pub yielded : View E H → View E H
  yielded (Pass p) = Pass p
  yielded (Book b) = Spent
  yielded Spent = Spent

  -- the book takes a pass in: it is the turn of its session
  abbrev pub receiving : View E H → View E H → View E H
  receiving (Book b) (Pass p) = Book (record b { turn = p.session; held = b.held ++ p ∷ [] })
  receiving (Book b) (Book c) = Book b
  receiving (Book b) Spent = Book b
  receiving (Pass p) w = Pass p
  receiving Spent w = Spent

  -- the book without the first of the passes that it holds, whose session no longer lags
  abbrev pub released : BookView E H → List (PassView E H) → BookView E H
  released b (p ∷ ps) = record b { lag = without p.session b.lag; held = ps }
  released b [] = b

  abbrev pub returned : BookView E H → List (PassView E H) → View E H
  returned b (p ∷ ps) = Pass (met_pass b p)
  returned b [] = Spent

  abbrev pub releasing : View E H → View E H
  releasing (Book b) = Book (released b b.held)
  releasing (Pass p) = Pass p
  releasing Spent = Spent

  abbrev pub returning : View E H → View E H
  returning (Book b) = returned b b.held
  returning (Pass p) = Spent
  returning Spent = Spent

  -- a step on a register
  abbrev pub ran : RegisterStep → Told E H
  ran kind st m value m' = On st st.word (operand kind) × (register_word 0 ≤ st.word) × (st.word < register_word most_objects)
      × ForPass m.0 (λ p. (known : List AtomicStep) × (m' ≡ (Pass (gained (Ran (st.word - register_word 0) kind value) known p), m.1))
      × Steps p.known (item_steps p.session (Ran (st.word - register_word 0) kind value)) known)

  abbrev pub has_read : Told E H
  has_read st = ran Read st

  abbrev pub has_written : Told E H
  has_written st = ran (Write st.first) st

  abbrev pub has_added : Told E H
  has_added st = ran (Add st.first) st

  -- the slot of the place that is said was loaded
  abbrev pub loaded_slot : Option CasePlace → Told E H
  loaded_slot said st m found m' = ForSaid said (λ place. On st (slot_word place.case) 0 × ForPass m.0 (λ p. (known : List AtomicStep)
      × (m' ≡ (Pass (record p { loading = Slot place found; known = known }), m.1)) × Steps p.known (loads p.session (slot_word place.case) found ∷ []) known))

  -- the slot of the case was stored, with what the item that is said spells
  abbrev pub stored_slot : Option Item → Told E H
  stored_slot said st m stored m' = ForSaid said (λ item. ForFilled item (λ case at held. On st (slot_word case) (spelling case at held) × ForPass m.0 (λ p. (known : List AtomicStep) × (found : ℕ)
      × (m' ≡ (Pass (gained (Filled case at held) known p), m.1)) × Steps p.known (stores p.session (slot_word case) (spelling case at held) found ∷ []) known)))

  -- the region of the word was raised
  abbrev pub raised_region : Told E H
  raised_region st m stored m' = ForBook m.0 (λ b. On st st.word (length b.history + 1) × (region_word 0 ≤ st.word) × (st.word < region_word region_count) × (b.raised ≡ None)
      × ((known : List AtomicStep) × (found : ℕ) × (m' ≡ (Book (record b { raised = Some (st.word - region_word 0); known = known }), m.1)) × Steps b.known (stores 0 st.word (length b.history + 1) found ∷ []) known))

  -- an entry was published: its session lags
  abbrev pub after_entry : (E → ℕ) → E → List AtomicStep → BookView E H → BookView E H
  after_entry session entry known b = record b { history = b.history ++ entry ∷ []; lag = session entry ∷ b.lag; raised = None; known = known }

  abbrev pub published : (E → ℕ) → Option E → Told E H
  published session said st m found m' = ForSaid said (λ entry. On st 0 1 × ForBook m.0 (λ b. (b.turn ≢ 0) × (session entry ≡ b.turn)
      × ((known : List AtomicStep) × (m' ≡ (Book (after_entry session entry known b), m.1)) × Steps b.known (publishes (length b.history) ∷ []) known)))

module _ {E H : Type 0} (right : H → List E → ℕ → Held → Type 0) (touches : H → List E → E → ℕ → Type 0) where
  -- The count was loaded: the pass sees the history, which begins with what it had seen, and for which the slot's word is sound
  abbrev pub loaded_count : Told E H
  loaded_count st m found m' = On st 0 0 × ForPass m.0 (λ p. ForSlot p.loading (λ place slot. (seen : List E) × (known : List AtomicStep) × (m' ≡ (Pass (record p { seen = seen; loading = Count place slot found; known = known }), m.1))
      × IsPrefix p.seen seen × (length seen ≡ found) × (found ≤ most_entries) × Sound (right p.origin.setting) seen slot × Steps p.known (loads p.session 0 found ∷ []) known))

  -- The region of the object was loaded: no entry that was seen touches it behind its word
  abbrev pub loaded_object : Told E H
  loaded_object st m found m' = ForPass m.0 (λ p. ForCount p.loading (λ place slot count. On st (region_word (object_region place.object)) 0 × ((known : List AtomicStep)
      × (m' ≡ (Pass (record p { loading = Object place slot count found; known = known }), m.1)) × Steps p.known (loads p.session (region_word (object_region place.object)) found ∷ []) known) × Untouched (touches p.origin.setting) p.seen found (object_region place.object)))

  -- The same of the region of the store, which ends a look
  abbrev pub loaded_store : Told E H
  loaded_store st m found m' = ForPass m.0 (λ p. ForObject p.loading (λ place slot count object. On st (region_word (store_region place.store)) 0 × ((known : List AtomicStep)
      × (m' ≡ (Pass (record p { trail = p.trail ++ Loaded place slot count object found ∷ []; known = known; loading = Nothing }), m.1)) × Steps p.known (loads p.session (region_word (store_region place.store)) found ∷ []) known) × Untouched (touches p.origin.setting) p.seen found (store_region place.store)))

module _ {E H : Type 0} (session : E → ℕ) (right : H → List E → ℕ → Held → Type 0) (touches : H → List E → E → ℕ → Type 0) where
  -- The count was loaded by the book. All steps are known then: they are the order of the board, and begin with what the passes knew that the book holds. The rule holds of these, and tells their steps
  abbrev pub checked : Told E H
  checked st m found m' = On st 0 0 × ForBook m.0 (λ b. (known : List AtomicStep) × (m' ≡ (Book (record b { known = known }), m.1))
      × All (PassOk session (right b.origin.setting) (touches b.origin.setting) b.origin b) b.held
      × Gathers b.known (map (λ (p : PassView E H). p.known) b.held) (length b.history) known
      × ((words : List ℕ) × IsOrder (length b.origin.opening) b.origin.first b.next known words)
      × All (λ (p : PassView E H). told_of known p.session ≡ pass_steps p) b.held)
