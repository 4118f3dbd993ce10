-- What stands behind one word of a line.
use Rattle.std.specs.Prelude.{◌≡◌, ◌≢◌, ◌++◌, ℕ, List}
use Rattle.nal_term.specs.Trees.{FormulaTree, TermTree}
use Rattle.nal_parse.specs.Grammar.{IsFormulaText, IsTermText}
use Rattle.nal_parse.specs.Errors.{IsFormulaError, IsTermError}
use Rattle.nal_parse.specs.declared.parse.ParseError.{ParseError}
use Rattle.nal_parse.specs.declared.parse.ParseError.TheVariants.{Memory}

-- what stands behind the word, where the line begins with it, is a formula's text, or a term's
abbrev pub IsFormulaBehind : List ℕ → List ℕ → Type 0
IsFormulaBehind word line = (text : List ℕ) → line ≡ word ++ text → (f : FormulaTree) × IsFormulaText text f

abbrev pub IsTermBehind : List ℕ → List ℕ → Type 0
IsTermBehind word line = (text : List ℕ) → line ≡ word ++ text → (t : TermTree) × IsTermText text t

-- the line begins with the word, behind which no formula's text stands, with this error, or no term's
abbrev pub IsFormulaErrorBehind : List ℕ → List ℕ → ParseError → Type 0
IsFormulaErrorBehind word line error = (text : List ℕ) × (line ≡ word ++ text) × (error ≢ Memory) × IsFormulaError text error

abbrev pub IsTermErrorBehind : List ℕ → List ℕ → ParseError → Type 0
IsTermErrorBehind word line error = (text : List ℕ) × (line ≡ word ++ text) × (error ≢ Memory) × IsTermError text error
