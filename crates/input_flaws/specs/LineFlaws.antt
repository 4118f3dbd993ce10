-- What is wrong with the line of an input that is refused, and at which of its bytes.
use Rattle.std.specs.Prelude.{◌≡◌, ◌≢◌, ◌+◌, ◌++◌, ◌∷◌, ℕ, List, [], codes, length}
use Rattle.nal_term.specs.Trees.{FormulaTree, TermTree}
use Rattle.nal_parse.specs.Grammar.{IsFormulaText, IsTermText}
use Rattle.nal_parse.specs.Errors.{IsFormulaError, IsTermError}
use Rattle.nal_parse.specs.declared.parse.ParseError.{ParseError}
use Rattle.nal_parse.specs.declared.parse.ParseError.TheVariants.{Unexpected, TooLong, TooDeep, BadNumber, BadName, BadText, Memory}
use Rattle.text_lines.specs.Lines.{first_line, after_line}
use Rattle.run_streams.specs.Flaws.{FlawTree, flaw_named}

-- the name of a formula's or a term's error, and how many bytes of its text stand before what is wrong
abbrev pub error_name : ParseError → List ℕ
error_name (Unexpected place) = codes "Unexpected"
error_name TooLong = codes "TooLong"
error_name (TooDeep place) = codes "TooDeep"
error_name (BadNumber place) = codes "BadNumber"
error_name (BadName place) = codes "BadName"
error_name (BadText place) = codes "BadText"
error_name Memory = []

abbrev pub error_place : ParseError → ℕ
error_place (Unexpected place) = place
error_place (TooDeep place) = place
error_place (BadNumber place) = place
error_place (BadName place) = place
error_place (BadText place) = place
error_place _ = 0

-- the flaw of a formula's or a term's text before which so many bytes of the line stand
abbrev pub formula_flaw : ℕ → ParseError → FlawTree
formula_flaw before error = flaw_named (before + error_place error + 1) (error_name error)

-- the flaw of a line that may not stand where it stands
abbrev pub line_flaw : FlawTree
line_flaw = flaw_named 1 (codes "BadLine")

-- The flaw of a line in which a formula stands behind each of the first words, and a term behind each of the second: the error of the text that
-- stands there, where it is none; and else that the line may not stand where it stands.
pub data IsLineFlaw : List (List ℕ) → List (List ℕ) → List ℕ → FlawTree → Type 0 where
  formula : {word text line : List ℕ} {words terms : List (List ℕ)} {error : ParseError} → line ≡ word ++ text → error ≢ Memory
      → IsFormulaError text error → IsLineFlaw (word ∷ words) terms line (formula_flaw (length word) error)
  right_formula : {word line : List ℕ} {words terms : List (List ℕ)} {flaw : FlawTree}
      → ((text : List ℕ) → line ≡ word ++ text → (f : FormulaTree) × IsFormulaText text f) → IsLineFlaw words terms line flaw
      → IsLineFlaw (word ∷ words) terms line flaw
  term : {word text line : List ℕ} {terms : List (List ℕ)} {error : ParseError} → line ≡ word ++ text → error ≢ Memory
      → IsTermError text error → IsLineFlaw [] (word ∷ terms) line (formula_flaw (length word) error)
  right_term : {word line : List ℕ} {terms : List (List ℕ)} {flaw : FlawTree}
      → ((text : List ℕ) → line ≡ word ++ text → (t : TermTree) × IsTermText text t) → IsLineFlaw [] terms line flaw
      → IsLineFlaw [] (word ∷ terms) line flaw
  no_word : {line : List ℕ} → IsLineFlaw [] [] line line_flaw

-- this is line k of the text, counted from 1
pub data IsLineOf : List ℕ → ℕ → List ℕ → Type 0 where
  first : {text : List ℕ} → text ≢ [] → IsLineOf text 1 (first_line text)
  later : {text line : List ℕ} {k : ℕ} → text ≢ [] → IsLineOf (after_line text) k line → IsLineOf text (k + 1) line

-- the flaw of line k of a text, in which formulas and terms stand behind these words; where there is no such line, that the text ends
pub data IsFlawAt (formulas terms : List (List ℕ)) (text : List ℕ) (k : ℕ) : FlawTree → Type 0 where
  stands : {line : List ℕ} {flaw : FlawTree} → IsLineOf text k line → IsLineFlaw formulas terms line flaw → IsFlawAt formulas terms text k flaw
  ended : ((line : List ℕ) → ¬ IsLineOf text k line) → IsFlawAt formulas terms text k (flaw_named 1 (codes "EndOfInput"))
