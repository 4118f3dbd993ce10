-- The laws of spellings.
use Rattle.std.specs.Prelude.{◌≡◌, ◌≤◌, ℕ, List}
use Rattle.nal_term.specs.Trees.{TermTree, FormulaTree}
use Rattle.nal_parse.specs.declared.parse.ParseError.{ParseError}
use Rattle.nal_parse.specs.Canonical.{IsSpellable, IsSpellableTerm, formula_levels, formula_text, term_text}
use Rattle.nal_parse.specs.Errors.{IsFormulaError, IsTermError}
use Rattle.nal_parse.specs.Grammar.{SpellsFormula, SpellsTerm, IsFormulaText, IsTermText}

-- no text spells two formulas, however many levels may be open
abbrev pub OneFormulaSpelled : Type 0
OneFormulaSpelled = (n : ℕ) (text : List ℕ) (f g : FormulaTree) → SpellsFormula n text f → SpellsFormula n text g → f ≡ g

-- no text spells two terms
abbrev pub OneTermSpelled : Type 0
OneTermSpelled = (text : List ℕ) (t u : TermTree) → SpellsTerm text t → SpellsTerm text u → t ≡ u

-- no text is read as two formulas
abbrev pub OneFormula : Type 0
OneFormula = (text : List ℕ) (f g : FormulaTree) → IsFormulaText text f → IsFormulaText text g → f ≡ g

-- no text is read as two terms
abbrev pub OneTerm : Type 0
OneTerm = (text : List ℕ) (t u : TermTree) → IsTermText text t → IsTermText text u → t ≡ u

-- the canonical text of a formula whose parts keep their limits spells it, with as many levels as it opens
abbrev pub CanonicalFormula : Type 0
CanonicalFormula = (f : FormulaTree) → IsSpellable f → (n : ℕ) → formula_levels f ≤ n → SpellsFormula n (formula_text f) f

-- the canonical text of a term whose parts keep their limits spells it
abbrev pub CanonicalTerm : Type 0
CanonicalTerm = (t : TermTree) → IsSpellableTerm t → SpellsTerm (term_text t) t

-- a text that is refused has one error, and is not read as a formula
abbrev pub OneFormulaError : Type 0
OneFormulaError = (text : List ℕ) (a b : ParseError) → IsFormulaError text a → IsFormulaError text b → a ≡ b

abbrev pub NoFormulaWithError : Type 0
NoFormulaWithError = (text : List ℕ) (error : ParseError) (f : FormulaTree) → IsFormulaError text error → ¬ IsFormulaText text f

-- the same of terms
abbrev pub OneTermError : Type 0
OneTermError = (text : List ℕ) (a b : ParseError) → IsTermError text a → IsTermError text b → a ≡ b

abbrev pub NoTermWithError : Type 0
NoTermWithError = (text : List ℕ) (error : ParseError) (t : TermTree) → IsTermError text error → ¬ IsTermText text t
