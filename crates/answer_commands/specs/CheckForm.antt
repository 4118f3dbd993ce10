-- The input of `check`: which line may follow which.
use Rattle.std.specs.Prelude.{◌≡◌, ◌≢◌, ◌<◌, ◌≤◌, ◌+◌, ◌⊎◌, ℕ, List, [], ◌∷◌, ◌++◌, length, codes}
use Rattle.nal_term.specs.Names.{IsName}
use Rattle.nal_term.specs.Trees.{FormulaTree}
use Rattle.proof_lines.specs.Lines.{LineTree}
use Rattle.proof_text.specs.ProofText.{IsProofText, IsRefused, segments}
use Rattle.proof_text.specs.Places.{line_feeds_before, end_segment_of}
use Rattle.proof_text.specs.declared.read.ProofError.{ProofError}
use Rattle.proof_text.specs.declared.read.ProofError.TheVariants.{BadHeader, BadLine, BadNumber, TooManyLines, TooLong, Formula, NoEnd, After, Memory}
use Rattle.text_lines.specs.Lines.{first_line, after_line, line_count}
use Rattle.form_lines.specs.Statements.{IsGoal, IsStatement}
use Rattle.run_streams.specs.Flaws.{FlawTree}
use Rattle.input_flaws.specs.LineFlaws.{IsFlawAt}
use Rattle.input_flaws.specs.ProofFlaws.{IsProofFlaw}

-- what an input of `check` holds
pub record CheckForm : Type 0 where
  pub subject : List ℕ
  pub labels : List FormulaTree
  pub yes : List FormulaTree
  pub goal : FormulaTree
  pub proof : List LineTree

-- how much of the input stands: what the next line may be, and what was read
pub data Stage : Type 0 where
  header_due : Stage
  subject_due : Stage
  labels_due : List ℕ → List FormulaTree → Stage
  yes_due : List ℕ → List FormulaTree → List FormulaTree → Stage
  proof_due : List ℕ → List FormulaTree → List FormulaTree → FormulaTree → Stage

-- `Follows stage line next`: the line may stand at this stage, and leads to the next
pub data Follows : Stage → List ℕ → Stage → Type 0 where
  header : {line : List ℕ} → line ≡ codes "nexus check 1" → Follows header_due line subject_due
  subject : {line x : List ℕ} → line ≡ codes "subject " ++ x → IsName x → Follows subject_due line (labels_due x [])
  label : {line text x : List ℕ} {ls : List FormulaTree} {f : FormulaTree} → line ≡ codes "label " ++ text → length ls < 4096 → IsStatement text f
      → Follows (labels_due x ls) line (labels_due x (ls ++ f ∷ []))
  first_yes : {line text x : List ℕ} {ls : List FormulaTree} {f : FormulaTree} → line ≡ codes "yes " ++ text → IsStatement text f
      → Follows (labels_due x ls) line (yes_due x ls (f ∷ []))
  next_yes : {line text x : List ℕ} {ls ys : List FormulaTree} {f : FormulaTree} → line ≡ codes "yes " ++ text → length ys < 4096 → IsStatement text f
      → Follows (yes_due x ls ys) line (yes_due x ls (ys ++ f ∷ []))
  goal : {line text x : List ℕ} {ls : List FormulaTree} {g : FormulaTree} → line ≡ codes "goal " ++ text → IsGoal text g
      → Follows (labels_due x ls) line (proof_due x ls [] g)
  goal_after_yes : {line text x : List ℕ} {ls ys : List FormulaTree} {g : FormulaTree} → line ≡ codes "goal " ++ text → IsGoal text g
      → Follows (yes_due x ls ys) line (proof_due x ls ys g)

-- `Reaches text k rest stage`: the first k lines of the text lead to the stage, and `rest` follows them
pub data Reaches (text : List ℕ) : ℕ → List ℕ → Stage → Type 0 where
  start : Reaches text 0 text header_due
  next_line : {k : ℕ} {rest : List ℕ} {stage next : Stage} → Reaches text k rest stage → rest ≢ [] → Follows stage (first_line rest) next
      → Reaches text (k + 1) (after_line rest) next

-- the text has the form of an input of `check`, and holds this
abbrev pub IsCheckForm : List ℕ → CheckForm → Type 0
IsCheckForm text form =
    (k : ℕ) × (rest : List ℕ) × Reaches text k rest (proof_due form.subject form.labels form.yes form.goal) × IsProofText rest form.proof

-- the line of a proof's text, counted from 1, on which the segment with this number begins; where there is no
-- such segment, one more than its number of lines
abbrev pub IsLineOfSegment : List ℕ → ℕ → ℕ → Type 0
IsLineOfSegment text j line =
    ((j < length (segments text)) × (line ≡ line_feeds_before j text + 1)) ⊎ ((length (segments text) ≤ j) × (line ≡ line_count text + 1))

-- the line of a proof's text, counted from 1, by which its error is named
abbrev pub IsLineOfError : List ℕ → ProofError → ℕ → Type 0
IsLineOfError text BadHeader line = line ≡ 1
IsLineOfError text TooLong line = line ≡ 1
IsLineOfError text (BadLine j) line = IsLineOfSegment text j line
IsLineOfError text (BadNumber j) line = IsLineOfSegment text j line
IsLineOfError text TooManyLines line = IsLineOfSegment text 257 line
IsLineOfError text (Formula j error) line = IsLineOfSegment text j line
IsLineOfError text NoEnd line = line ≡ line_count text + 1
IsLineOfError text After line = IsLineOfSegment text (end_segment_of text + 1) line
IsLineOfError text Memory line = ⊥

-- no line may stand next
abbrev pub IsStuck : Stage → List ℕ → Type 0
IsStuck stage rest = (rest ≡ []) ⊎ ((next : Stage) → ¬ Follows stage (first_line rest) next)

-- a stage before the goal was read
abbrev pub IsBeforeProof : Stage → Type 0
IsBeforeProof (proof_due x ls ys g) = ⊥
IsBeforeProof _ = Unit {0}

-- behind which words a formula stands in a line before the proof
abbrev pub formula_words : List (List ℕ)
formula_words = codes "label " ∷ codes "yes " ∷ codes "goal " ∷ []

-- `IsWrongAt text k flaw`: line k is the lowest that is wrong, or the number after the last where the text ends too
-- early, and this is wrong with it
pub data IsWrongAt (text : List ℕ) : ℕ → FlawTree → Type 0 where
  before_proof : {k : ℕ} {rest : List ℕ} {stage : Stage} {flaw : FlawTree} → Reaches text k rest stage → IsBeforeProof stage → IsStuck stage rest
      → IsFlawAt formula_words [] text (k + 1) flaw → IsWrongAt text (k + 1) flaw
  in_proof : {k n : ℕ} (j : ℕ) {rest x : List ℕ} {ls ys : List FormulaTree} {g : FormulaTree} {error : ProofError} {flaw : FlawTree}
      → Reaches text k rest (proof_due x ls ys g) → IsRefused rest error → IsLineOfError rest error j → n ≡ k + j → IsProofFlaw rest error flaw
      → IsWrongAt text n flaw
