-- The laws of an order of steps: what a step finds is never old.
use Rattle.std.specs.Prelude.{◌≡◌, ◌≢◌, ◌⊎◌, ℕ, ◌+◌, ◌^◌, ◌<◌, ◌==◌, ◌&&◌, Bool, true, false, List, ◌∷◌, ◌++◌, length, filter, All, slice_index}
use Rattle.verdict_words.specs.Words.{first_words}
use Rattle.verdict_words.specs.Orders.{leaves, IsOrder}
use Rattle.verdict_words.specs.declared.views.Action.{Action}
use Rattle.verdict_words.specs.declared.views.Action.TheVariants.{Load, Store, Swap, FetchAdd}
use Rattle.verdict_words.specs.declared.views.AtomicStep.{AtomicStep}

-- the word holds what the last of these steps on it left there, or, where there is none, what it held at first
abbrev pub IsLeft : List ℕ → List AtomicStep → ℕ → ℕ → Type 0
IsLeft first steps word held =
    ((earlier : List AtomicStep) × (last : AtomicStep) × (later : List AtomicStep) × (steps ≡ earlier ++ last ∷ later) × (last.word ≡ word) × All (λ (step : AtomicStep). step.word ≢ word) later × (held ≡ leaves last.action last.found))
    ⊎ (All (λ (step : AtomicStep). step.word ≢ word) steps × (held ≡ slice_index first word))

-- in an order each step finds what the last step on its word left there, whoever made it
abbrev pub FindsTheLast : Type 0
FindsTheLast = (opening first next : ℕ) (before after : List AtomicStep) (step : AtomicStep) (words : List ℕ) → IsOrder opening first next (before ++ step ∷ after) words → IsLeft (first_words opening) before step.word step.found

abbrev pub is_add : Action → Bool
is_add (FetchAdd value) = true
is_add Load = false
is_add (Store value) = false
is_add (Swap value) = false

-- how many entries were published in these steps
abbrev pub entries_in : List AtomicStep → ℕ
entries_in steps = length (filter (λ (step : AtomicStep). is_add step.action && (step.word == 0)) steps)

-- in an order a step on the count finds the length of the opening history and of all that was published before it
abbrev pub CountsAll : Type 0
CountsAll = (opening first next : ℕ) (before after : List AtomicStep) (step : AtomicStep) (words : List ℕ) → IsOrder opening first next (before ++ step ∷ after) words → step.word ≡ 0
    → opening + entries_in before < 2 ^ 64 → step.found ≡ opening + entries_in before
