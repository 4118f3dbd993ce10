-- The input of `trust`: which line may follow which.
use Rattle.std.specs.Prelude.{◌≡◌, ◌<◌, ℕ, List, [], ◌∷◌, ◌++◌, length, codes}
use Rattle.nal_term.specs.Names.{IsName}
use Rattle.nal_term.specs.Trees.{TermTree, FormulaTree, atom}
use Rattle.nal_term.specs.Free.{IsClosed, IsClosedTerm}
use Rattle.nal_parse.specs.Grammar.{IsFormulaText, IsTermText}
use Rattle.form_lines.specs.Reading.{LeadsThrough, IsWrongAt}
use Rattle.form_lines.specs.Statements.{IsGoal, IsStatement}
use Rattle.trust_form.specs.declared.words.Word.{Word}
use Rattle.trust_form.specs.declared.words.Word.TheVariants.{Label, Untrusted, Loose, Fact, Goal}
use Rattle.trust_form.specs.Words.{word_text}

-- what stands before the goal
pub record Givens : Type 0 where
  pub subject : List ℕ
  pub labels : List FormulaTree
  pub untrusted : List TermTree
  pub loose : List (List ℕ)
  pub facts : List FormulaTree

-- what an input of `trust` holds
pub record TrustForm : Type 0 where
  pub givens : Givens
  pub goal : FormulaTree

-- the form of these parts
abbrev pub form_with : Givens → FormulaTree → TrustForm
form_with g goal = record { givens = g; goal = goal }

-- a subject, and nothing else
abbrev pub subject_alone : List ℕ → Givens
subject_alone x = record { subject = x; labels = []; untrusted = []; loose = []; facts = [] }

-- the same with a label, an untrusted principal, a loose predicate or a fact more
abbrev pub with_label : Givens → FormulaTree → Givens
with_label g f = record { subject = g.subject; labels = g.labels ++ f ∷ []; untrusted = g.untrusted; loose = g.loose; facts = g.facts }

abbrev pub with_untrusted : Givens → TermTree → Givens
with_untrusted g p = record { subject = g.subject; labels = g.labels; untrusted = g.untrusted ++ p ∷ []; loose = g.loose; facts = g.facts }

abbrev pub with_loose : Givens → List ℕ → Givens
with_loose g x = record { subject = g.subject; labels = g.labels; untrusted = g.untrusted; loose = g.loose ++ x ∷ []; facts = g.facts }

abbrev pub with_fact : Givens → FormulaTree → Givens
with_fact g f = record { subject = g.subject; labels = g.labels; untrusted = g.untrusted; loose = g.loose; facts = g.facts ++ f ∷ [] }

-- the text of an untrusted principal: a closed term
pub record IsPrincipal (text : List ℕ) (t : TermTree) : Type 0 where
  pub spelled : IsTermText text t
  pub closed : IsClosedTerm t

-- the text of a fact: a closed atom
pub record IsFact (text : List ℕ) (f : FormulaTree) : Type 0 where
  pub spelled : IsFormulaText text f
  pub closed : IsClosed f
  pub formed : (p : List ℕ) × (ts : List TermTree) × (f ≡ atom p ts)

-- one line more with this word may stand behind these givens: none of a later kind stands, and there is room
abbrev pub MayStand : Word → Givens → Type 0
MayStand Label g = (length g.labels < 4096) × (g.untrusted ≡ []) × (g.loose ≡ []) × (g.facts ≡ [])
MayStand Untrusted g = (length g.untrusted < 64) × (g.loose ≡ []) × (g.facts ≡ [])
MayStand Loose g = (length g.loose < 64) × (g.facts ≡ [])
MayStand Fact g = length g.facts < 4096
MayStand Goal g = Unit {0}

-- how much of the input stands: what the next line may be, and what was read
pub data Stage : Type 0 where
  header_due : Stage
  subject_due : Stage
  goal_due : Givens → Stage
  end_due : TrustForm → Stage
  ended : TrustForm → Stage

-- `Follows stage line next`: the line may stand at this stage, and leads to the next
pub data Follows : Stage → List ℕ → Stage → Type 0 where
  header : {line : List ℕ} → line ≡ codes "nexus trust 1" → Follows header_due line subject_due
  subject : {line x : List ℕ} → line ≡ codes "subject " ++ x → IsName x → Follows subject_due line (goal_due (subject_alone x))
  label : {line text : List ℕ} {g : Givens} {f : FormulaTree} → line ≡ word_text Label ++ text → MayStand Label g → IsStatement text f
      → Follows (goal_due g) line (goal_due (with_label g f))
  untrusted : {line text : List ℕ} {g : Givens} {p : TermTree} → line ≡ word_text Untrusted ++ text → MayStand Untrusted g → IsPrincipal text p
      → Follows (goal_due g) line (goal_due (with_untrusted g p))
  loose : {line x : List ℕ} {g : Givens} → line ≡ word_text Loose ++ x → MayStand Loose g → IsName x
      → Follows (goal_due g) line (goal_due (with_loose g x))
  fact : {line text : List ℕ} {g : Givens} {f : FormulaTree} → line ≡ word_text Fact ++ text → MayStand Fact g → IsFact text f
      → Follows (goal_due g) line (goal_due (with_fact g f))
  goal : {line text : List ℕ} {g : Givens} {f : FormulaTree} → line ≡ word_text Goal ++ text → IsGoal text f
      → Follows (goal_due g) line (end_due (form_with g f))
  end : {line : List ℕ} {form : TrustForm} → line ≡ codes "end" → Follows (end_due form) line (ended form)

-- the input is at its end
abbrev pub IsEnded : Stage → Type 0
IsEnded (ended form) = Unit {0}
IsEnded _ = ⊥

-- the text has the form of an input of `trust`, and holds this
abbrev pub IsTrustForm : List ℕ → TrustForm → Type 0
IsTrustForm text form = LeadsThrough Follows header_due text (ended form)

-- line k is the lowest that is wrong, or the number after the last where the text ends too early
abbrev pub IsWrongLine : List ℕ → ℕ → Type 0
IsWrongLine text k = IsWrongAt Follows IsEnded header_due text k
