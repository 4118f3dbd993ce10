-- The text of a bundle: a line, a line for each label, and a last line.
use Rattle.std.specs.Prelude.{◌≡◌, ◌<◌, ℕ, List, [], ◌∷◌, ◌++◌, codes, length}
use Rattle.std.specs.List.{flat_map}
use Rattle.nal_term.specs.Trees.{FormulaTree, TermTree, says}
use Rattle.nal_term.specs.Free.{IsClosed}
use Rattle.nal_parse.specs.Canonical.{FormulaFits, formula_text}
use Rattle.policy_history.specs.PolicyTexts.{ended}
use Rattle.form_lines.specs.Reading.{LeadsThrough, IsWrongAt}
use Rattle.form_lines.specs.Statements.{IsStatement}

-- the first line
abbrev pub header_line : List ℕ
header_line = codes "nexus bundle 1"

-- what a label's line begins with
abbrev pub label_word : List ℕ
label_word = codes "label "

-- how many labels there may be
abbrev pub most_labels : ℕ
most_labels = 262144

-- what is written of some labels: each formula is canonical
abbrev pub bundle_text : List FormulaTree → List ℕ
bundle_text labels = ended header_line ++ (flat_map (λ (f : FormulaTree). ended (label_word ++ formula_text f)) labels ++ ended (codes "end"))

-- a formula that may stand in a bundle: a closed `P says S` whose canonical text keeps the limits of a text
pub record IsLabel (f : FormulaTree) : Type 0 where
  pub fits : FormulaFits f
  pub closed : IsClosed f
  pub said : (p : TermTree) × (s : FormulaTree) × (f ≡ says p s)

-- how much of a bundle stands: what the next line may be, and which labels were read
pub data Stage : Type 0 where
  header_due : Stage
  label_due : List FormulaTree → Stage
  complete : List FormulaTree → Stage

-- `Follows stage line next`: the line may stand at this stage, and leads to the next. The text of a label is that of a closed
-- formula `P says S`
pub data Follows : Stage → List ℕ → Stage → Type 0 where
  header : {line : List ℕ} → line ≡ header_line → Follows header_due line (label_due [])
  label : {line text : List ℕ} {labels : List FormulaTree} {f : FormulaTree} → line ≡ label_word ++ text → length labels < most_labels → IsStatement text f
      → Follows (label_due labels) line (label_due (labels ++ f ∷ []))
  end : {line : List ℕ} {labels : List FormulaTree} → line ≡ codes "end" → Follows (label_due labels) line (complete labels)

-- the bundle is at its end
abbrev pub IsComplete : Stage → Type 0
IsComplete (complete labels) = Unit {0}
IsComplete _ = ⊥

-- the text is a bundle of these labels, in order
abbrev pub IsBundle : List ℕ → List FormulaTree → Type 0
IsBundle text labels = LeadsThrough Follows header_due text (complete labels)

-- line k of the text, from 1, is the lowest that is wrong; where the text ends too early, k is one more than its number of lines
abbrev pub IsWrongLine : List ℕ → ℕ → Type 0
IsWrongLine text k = IsWrongAt Follows IsComplete header_due text k
