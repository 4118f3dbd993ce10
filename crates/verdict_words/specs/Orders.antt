-- The order of all atomic steps that anybody made on a board. It only grows, and each step found what the steps before it left.
use Rattle.std.specs.Prelude.{◌≡◌, ◌≢◌, ◌⊎◌, ℕ, ◌+◌, ◌%◌, ◌^◌, ◌<◌, ◌≤◌, List, [], ◌∷◌, ◌++◌, map, All, slice_index, slice_set}
use Rattle.verdict_words.specs.Histories.{IsPrefix, own}
use Rattle.verdict_words.specs.Words.{word_count, first_words, slot_word, register_word, object_region, store_region, region_word, spelling, IsSlotWord, IsRegisterWord, IsRegionWord}
use Rattle.verdict_words.specs.declared.views.Action.{Action}
use Rattle.verdict_words.specs.declared.views.Action.TheVariants.{Load, Store, Swap, FetchAdd}
use Rattle.verdict_words.specs.declared.views.AtomicStep.{AtomicStep}
use Rattle.verdict_words.specs.declared.views.Item.{Item}
use Rattle.verdict_words.specs.declared.views.Item.TheVariants.{Loaded, Met, Filled, Ran}
use Rattle.verdict_words.specs.declared.views.RegisterStep.{RegisterStep}
use Rattle.verdict_words.specs.declared.views.RegisterStep.TheVariants.{Read, Write, Add}
use Rattle.verdict_words.specs.declared.views.Loading.{Loading}
use Rattle.verdict_words.specs.declared.views.Loading.TheVariants.{Nothing, Slot, Count, Object}

-- what an action leaves in a word that held this
abbrev pub leaves : Action → ℕ → ℕ
leaves Load word = word
leaves (Store value) word = value
leaves (Swap value) word = value
leaves (FetchAdd value) word = (word + value) % 2 ^ 64

-- One after another, each step found what its word held, and left there what its action makes of it: so the steps lead from these words to the last ones
abbrev pub Replays : List ℕ → List AtomicStep → List ℕ → Type 0
Replays words [] last = last ≡ words
Replays words (step ∷ steps) last = (step.found ≡ slice_index words step.word) × Replays (slice_set words step.word (leaves step.action step.found)) steps last

-- The steps of a call, in order, each behind all that was there at a moment within the call. What was known before the call begins what was there
abbrev pub Steps : List AtomicStep → List AtomicStep → List AtomicStep → Type 0
Steps known [] known_then = known_then ≡ known
Steps known (step ∷ steps) known_then = (before : List AtomicStep) × IsPrefix known before × Steps (before ++ step ∷ []) steps known_then

-- Who does what, and to which word. Anybody loads. The owner of the history adds 1 to the count and stores into regions; the sessions store into slots, and swap and add in registers
abbrev pub IsDone : Action → ℕ → ℕ → Type 0
IsDone Load session word = word < word_count
IsDone (Store value) session word = ((session ≡ 0) × IsRegionWord word) ⊎ ((session ≢ 0) × IsSlotWord word)
IsDone (Swap value) session word = (session ≢ 0) × IsRegisterWord word
IsDone (FetchAdd value) session word = ((session ≡ 0) × (word ≡ 0) × (value ≡ 1)) ⊎ ((session ≢ 0) × IsRegisterWord word)

-- The order of a board, or a beginning of it: it leads from the first words to these, and its steps are of the kinds that there are, by the owner and by the sessions of the board
pub record IsOrder (opening first next : ℕ) (order : List AtomicStep) (words : List ℕ) : Type 0 where
  pub replays : Replays (first_words opening) order words
  pub done : All (λ (step : AtomicStep). IsDone step.action step.session step.word) order
  pub within : All (λ (step : AtomicStep). (step.session ≡ 0) ⊎ ((first ≤ step.session) × (step.session < next))) order

abbrev pub loads : ℕ → ℕ → ℕ → AtomicStep
loads session word found = record { session = session; word = word; action = Load; found = found }

abbrev pub stores : ℕ → ℕ → ℕ → ℕ → AtomicStep
stores session word value found = record { session = session; word = word; action = Store value; found = found }

-- the owner adds 1 to the count
abbrev pub publishes : ℕ → AtomicStep
publishes found = record { session = 0; word = 0; action = FetchAdd 1; found = found }

abbrev pub action_of : RegisterStep → Action
action_of Read = Load
action_of (Write value) = Swap value
action_of (Add value) = FetchAdd value

-- The atomic steps of an item of a session's trail. A meeting is a step of the owner. A store does not tell what it found, so 0 stands for it
abbrev pub item_steps : ℕ → Item → List AtomicStep
item_steps session (Loaded place slot count object store) = loads session (slot_word place.case) slot ∷ loads session 0 count
    ∷ loads session (region_word (object_region place.object)) object ∷ loads session (region_word (store_region place.store)) store ∷ []
item_steps session (Filled case at held) = stores session (slot_word case) (spelling case at held) 0 ∷ []
item_steps session (Ran object step value) = record { session = session; word = register_word object; action = action_of step; found = value } ∷ []
item_steps session (Met n) = []

abbrev pub trail_steps : ℕ → List Item → List AtomicStep
trail_steps session [] = []
trail_steps session (item ∷ items) = item_steps session item ++ trail_steps session items

-- the same of a look under way
abbrev pub loading_steps : ℕ → Loading → List AtomicStep
loading_steps session Nothing = []
loading_steps session (Slot place slot) = loads session (slot_word place.case) slot ∷ []
loading_steps session (Count place slot count) = loads session (slot_word place.case) slot ∷ loads session 0 count ∷ []
loading_steps session (Object place slot count object) = loads session (slot_word place.case) slot ∷ loads session 0 count ∷ loads session (region_word (object_region place.object)) object ∷ []

-- what a session is told of what its step found
abbrev pub found_told : Action → ℕ → ℕ
found_told (Store value) found = 0
found_told Load found = found
found_told (Swap value) found = found
found_told (FetchAdd value) found = found

-- the steps of a session in an order, as it is told them
abbrev pub told_of : List AtomicStep → ℕ → List AtomicStep
told_of order session = map (λ (step : AtomicStep). record step { found = found_told step.action step.found }) (own (λ (step : AtomicStep). step.session) order session)

-- What the owner knows once it has met passes that knew these orders: its load of the count stands behind all that it and they knew
abbrev pub Gathers : List AtomicStep → List (List AtomicStep) → ℕ → List AtomicStep → Type 0
Gathers known others count known_then = (before : List AtomicStep) × IsPrefix known before × All (λ other. IsPrefix other before) others × (known_then ≡ before ++ loads 0 0 count ∷ [])
