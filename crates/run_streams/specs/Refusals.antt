-- What the input of a command is refused for: it is too large, or has not the form.
use Rattle.std.specs.Prelude.{◌≡◌, ◌≢◌, ◌⊎◌, ◌↔◌, ◌<◌, ◌≤◌, ◌∷◌, ◌++◌, [], ℕ, List, Some, codes, length}
use Rattle.std.specs.Fmt.{decimal}
use Rattle.run_streams.specs.Flaws.{FlawTree, flaw_text, flaw_tree}
use Rattle.run_streams.specs.Runs.{IsReadWhole, SourceRun, most_bytes}
use Rattle.run_streams.specs.declared.refusals.InputRefusal.{InputRefusal}
use Rattle.run_streams.specs.declared.refusals.InputRefusal.TheVariants.{WrongLine, TooLarge}

-- a form of inputs: which texts have it, and of another text which line is the lowest that is wrong, and what is wrong with it
pub record Form : Type 1 where
  pub formed : List ℕ → Type 0
  pub wrong : List ℕ → ℕ → FlawTree → Type 0

abbrev pub form_of : (List ℕ → Type 0) → (List ℕ → ℕ → FlawTree → Type 0) → Form
form_of formed wrong = record { formed = formed; wrong = wrong }

-- an input that is refused is too large, or this line is the lowest that is wrong, and this is wrong with it
abbrev pub IsRefusal : Form → List ℕ → InputRefusal → Type 0
IsRefusal form text TooLarge = most_bytes < length text
IsRefusal form text (WrongLine k flaw) = (length text ≤ most_bytes) × form.wrong text k (flaw_tree flaw) × ¬ form.formed text

-- the line that is written of a refusal
abbrev pub refusal_text : InputRefusal → List ℕ
refusal_text (WrongLine k flaw) = codes "refused line " ++ decimal k ++ 10 ∷ []
refusal_text TooLarge = codes "refused size" ++ 10 ∷ []

-- the line that is told beside it, of what is wrong: of an input that is too large the number of the first byte that is too many
abbrev pub note_text : InputRefusal → List ℕ
note_text (WrongLine k flaw) = flaw_text k (flaw_tree flaw)
note_text TooLarge = codes "byte 67108865: TooLarge" ++ 10 ∷ []

-- The bytes that the source gave are refused, and so are those that it had, where it knew them; and it gave all, but for an input that is too large.
pub record IsRefusalOf (form : Form) (source : SourceRun) (refusal : InputRefusal) : Type 0 where
  pub given : IsRefusal form source.given refusal
  pub known : (text : List ℕ) → source.known ≡ Some text → IsRefusal form text refusal
  pub whole : refusal ≢ TooLarge → IsReadWhole source

-- an input that is refused: it is too large, or has not the form
abbrev pub IsRefusedInput : Form → List ℕ → Type 0
IsRefusedInput form text = (most_bytes < length text) ⊎ (¬ form.formed text)

-- the status is 3 exactly where the input is refused, unless a stream failed or there was no memory
abbrev pub RefusesExactly : Form → SourceRun → ℕ → Type 0
RefusesExactly form source status = status ≢ 4 → status ≢ 5 → status ≢ 6 → (status ≡ 3) ↔ IsRefusedInput form source.given
