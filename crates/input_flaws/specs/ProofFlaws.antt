-- What is wrong with the line by which a proof's text is refused.
use Rattle.std.specs.Prelude.{◌≡◌, ◌≢◌, ◌+◌, ℕ, List, codes}
use Rattle.nal_term.specs.Trees.{FormulaTree}
use Rattle.nal_parse.specs.Grammar.{IsFormulaText}
use Rattle.nal_parse.specs.Errors.{IsFormulaError}
use Rattle.nal_parse.specs.declared.parse.ParseError.{ParseError}
use Rattle.nal_parse.specs.declared.parse.ParseError.TheVariants.{Memory as NoMemory}
use Rattle.proof_text.specs.Places.{IsFormulaAt, column_of, end_segment_of}
use Rattle.proof_text.specs.declared.read.ProofError.{ProofError}
use Rattle.proof_text.specs.declared.read.ProofError.TheVariants.{BadHeader, BadLine, BadNumber, TooManyLines, TooLong, Formula, NoEnd, After, Memory}
use Rattle.run_streams.specs.Flaws.{FlawTree, flaw_named}
use Rattle.input_flaws.specs.LineFlaws.{formula_flaw}

-- the flaw of this name, at the first byte of a segment
abbrev pub segment_flaw : List ℕ → ℕ → List ℕ → FlawTree
segment_flaw text k name = flaw_named (column_of k text + 1) name

-- the flaw of the formula in a segment: the error of the text that stands there, where it is none; and that of the segment, where it is one, or none stands there
pub data IsFormulaFlaw (text : List ℕ) (k : ℕ) : FlawTree → Type 0 where
  wrong : {column : ℕ} {spelled : List ℕ} {error : ParseError} → IsFormulaAt text k column spelled → error ≢ NoMemory → IsFormulaError spelled error
      → IsFormulaFlaw text k (formula_flaw column error)
  right : {column : ℕ} {spelled : List ℕ} {f : FormulaTree} → IsFormulaAt text k column spelled → IsFormulaText spelled f
      → IsFormulaFlaw text k (segment_flaw text k (codes "Formula"))
  nowhere : ((column : ℕ) (spelled : List ℕ) → ¬ IsFormulaAt text k column spelled) → IsFormulaFlaw text k (segment_flaw text k (codes "Formula"))

-- the flaw of a proof's text with this error; an end that is missing stands on a line of its own
abbrev pub IsProofFlaw : List ℕ → ProofError → FlawTree → Type 0
IsProofFlaw text (Formula k error) flaw = IsFormulaFlaw text k flaw
IsProofFlaw text BadHeader flaw = flaw ≡ segment_flaw text 0 (codes "BadHeader")
IsProofFlaw text (BadLine k) flaw = flaw ≡ segment_flaw text k (codes "BadLine")
IsProofFlaw text (BadNumber k) flaw = flaw ≡ segment_flaw text k (codes "BadNumber")
IsProofFlaw text TooManyLines flaw = flaw ≡ segment_flaw text 257 (codes "TooManyLines")
IsProofFlaw text TooLong flaw = flaw ≡ flaw_named 1 (codes "TooLong")
IsProofFlaw text NoEnd flaw = flaw ≡ flaw_named 1 (codes "NoEnd")
IsProofFlaw text After flaw = flaw ≡ segment_flaw text (end_segment_of text + 1) (codes "After")
IsProofFlaw text Memory flaw = Unit {0}
