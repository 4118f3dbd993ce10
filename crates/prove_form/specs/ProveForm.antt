-- The input of `prove`: which line may follow which.
use Rattle.std.specs.Prelude.{◌≡◌, ◌<◌, ℕ, List, [], ◌∷◌, ◌++◌, length, codes}
use Rattle.nal_term.specs.Names.{IsName}
use Rattle.nal_term.specs.Trees.{TermTree, FormulaTree, says}
use Rattle.form_lines.specs.Reading.{LeadsThrough, IsWrongAt}
use Rattle.form_lines.specs.Statements.{IsGoal, IsStatement}

-- what stands before the goal
pub record Givens : Type 0 where
  pub subject : List ℕ
  pub labels : List FormulaTree

-- what an input of `prove` holds
pub record ProveForm : Type 0 where
  pub givens : Givens
  pub goal : FormulaTree

-- the form of these parts
abbrev pub form_with : Givens → FormulaTree → ProveForm
form_with g goal = record { givens = g; goal = goal }

-- a subject, and nothing else
abbrev pub subject_alone : List ℕ → Givens
subject_alone x = record { subject = x; labels = [] }

-- the same with a label more
abbrev pub with_label : Givens → FormulaTree → Givens
with_label g f = record { subject = g.subject; labels = g.labels ++ f ∷ [] }

-- the text of a goal that somebody says
pub record IsSaidGoal (text : List ℕ) (f : FormulaTree) : Type 0 where
  pub formed : IsGoal text f
  pub said : (p : TermTree) × (s : FormulaTree) × (f ≡ says p s)

-- how much of the input stands: what the next line may be, and what was read
pub data Stage : Type 0 where
  header_due : Stage
  subject_due : Stage
  goal_due : Givens → Stage
  end_due : ProveForm → Stage
  ended : ProveForm → Stage

-- `Follows stage line next`: the line may stand at this stage, and leads to the next
pub data Follows : Stage → List ℕ → Stage → Type 0 where
  header : {line : List ℕ} → line ≡ codes "nexus prove 1" → Follows header_due line subject_due
  subject : {line x : List ℕ} → line ≡ codes "subject " ++ x → IsName x → Follows subject_due line (goal_due (subject_alone x))
  label : {line text : List ℕ} {g : Givens} {f : FormulaTree} → line ≡ codes "label " ++ text → length g.labels < 256 → IsStatement text f
      → Follows (goal_due g) line (goal_due (with_label g f))
  goal : {line text : List ℕ} {g : Givens} {f : FormulaTree} → line ≡ codes "goal " ++ text → IsSaidGoal text f
      → Follows (goal_due g) line (end_due (form_with g f))
  end : {line : List ℕ} {form : ProveForm} → line ≡ codes "end" → Follows (end_due form) line (ended form)

-- the input is at its end
abbrev pub IsEnded : Stage → Type 0
IsEnded (ended form) = Unit {0}
IsEnded _ = ⊥

-- the text has the form of an input of `prove`, and holds this
abbrev pub IsProveForm : List ℕ → ProveForm → Type 0
IsProveForm text form = LeadsThrough Follows header_due text (ended form)

-- line k is the lowest that is wrong, or the number after the last where the text ends too early
abbrev pub IsWrongLine : List ℕ → ℕ → Type 0
IsWrongLine text k = IsWrongAt Follows IsEnded header_due text k
