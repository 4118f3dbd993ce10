-- How the lines of a text are read one by one. `Follows stage line next` says of an input's form which line may stand at a
-- stage, and to which stage it leads.
use Rattle.std.specs.Prelude.{◌≡◌, ◌≢◌, ◌+◌, ◌⊎◌, ℕ, List, []}
use Rattle.text_lines.specs.Lines.{first_line, after_line}

-- `Leads Follows stage text n last rest`: the first n lines of the text lead from one stage to another, and `rest` follows them
pub data Leads {Stage : Type 0} (Follows : Stage → List ℕ → Stage → Type 0) : Stage → List ℕ → ℕ → Stage → List ℕ → Type 0 where
  here : {stage : Stage} {text : List ℕ} → Leads Follows stage text 0 stage text
  on : {stage next last : Stage} {text rest : List ℕ} {n : ℕ} → text ≢ [] → Follows stage (first_line text) next
      → Leads Follows next (after_line text) n last rest → Leads Follows stage text (n + 1) last rest

-- the lines of the whole text lead from one stage to another
abbrev pub LeadsThrough : {Stage : Type 0} → (Stage → List ℕ → Stage → Type 0) → Stage → List ℕ → Stage → Type 0
LeadsThrough Follows stage text last = (n : ℕ) × Leads Follows stage text n last []

-- no line may stand next: the text ends too early, or its next line may not stand there
abbrev pub IsStuck : {Stage : Type 0} → (Stage → List ℕ → Stage → Type 0) → (Stage → Type 0) → Stage → List ℕ → Type 0
IsStuck {Stage} Follows IsEnd stage rest =
    ((rest ≡ []) × ¬ IsEnd stage) ⊎ ((rest ≢ []) × ((next : Stage) → ¬ Follows stage (first_line rest) next))

-- line k of the text is the lowest that is wrong; where the text ends too early, k is one more than its number of lines
pub record IsWrongAt {Stage : Type 0} (Follows : Stage → List ℕ → Stage → Type 0) (IsEnd : Stage → Type 0) (first : Stage) (text : List ℕ) (k : ℕ) : Type 0 where
  pub before : ℕ
  pub last : Stage
  pub rest : List ℕ
  pub number : k ≡ before + 1
  pub led : Leads Follows first text before last rest
  pub stuck : IsStuck Follows IsEnd last rest
