-- Which error a text has: the first token with which no spelling goes on decides.
use Rattle.std.specs.Prelude.{◌≡◌, ◌<◌, ◌≤◌, ◌+◌, ◌⊎◌, ℕ, List, [], ◌∷◌, ◌++◌, length}
use Rattle.nal_term.specs.Trees.{FormulaTree, TermTree}
use Rattle.nal_parse.specs.declared.parse.ParseError.{ParseError}
use Rattle.nal_parse.specs.declared.parse.ParseError.TheVariants.{Unexpected, TooLong, TooDeep, BadNumber, BadName, BadText}
use Rattle.nal_parse.specs.Tokens.{Lexeme, bad_name, bad_number, bad_text, next_cut, after_blanks}
use Rattle.nal_parse.specs.Canonical.{formula_text, formula_levels, term_text, most_levels, most_text_bytes}
use Rattle.nal_parse.specs.Grammar.{SpellsFormula, SpellsTerm}

-- the text begins with these tokens, which `rest` follows; its end counts as a token
pub data BeginsWith : List ℕ → List Lexeme → List ℕ → Type 0 where
  none : {bytes : List ℕ} → BeginsWith bytes [] bytes
  next : {bytes a rest : List ℕ} {l : Lexeme} {ls : List Lexeme} → next_cut bytes ≡ (l, a) → BeginsWith a ls rest → BeginsWith bytes (l ∷ ls) rest

-- some text that begins with these tokens is a spelling
abbrev pub IsViable : (List ℕ → Type 0) → List Lexeme → Type 0
IsViable Spelling tokens = (bytes : List ℕ) × (rest : List ℕ) × BeginsWith bytes tokens rest × Spelling bytes

-- a text is a spelling of a formula, with n levels, or of a term, which has none
abbrev pub SpellsSome : ℕ → List ℕ → Type 0
SpellsSome n bytes = (f : FormulaTree) × SpellsFormula n bytes f

abbrev pub SpellsSomeTerm : ℕ → List ℕ → Type 0
SpellsSomeTerm n bytes = (t : TermTree) × SpellsTerm bytes t

-- the error of the token at a place: a malformed one has its own, and any other is a level too deep where some
-- spelling goes on with it that has more levels, or else unexpected
abbrev pub IsErrorOf : Lexeme → Type 0 → ℕ → ParseError → Type 0
IsErrorOf bad_name GoesOnDeeper place error = error ≡ BadName place
IsErrorOf bad_number GoesOnDeeper place error = error ≡ BadNumber place
IsErrorOf bad_text GoesOnDeeper place error = error ≡ BadText place
IsErrorOf _ GoesOnDeeper place error = ((error ≡ TooDeep place) × GoesOnDeeper) ⊎ ((error ≡ Unexpected place) × ¬ GoesOnDeeper)

-- spellings with 64 levels go on with the tokens before a place, and none goes on with the token at it
pub record IsErrorAtToken (Spelling : ℕ → List ℕ → Type 0) (text : List ℕ) (error : ParseError) : Type 0 where
  pub before : List Lexeme
  pub token : Lexeme
  pub place : ℕ
  pub stop : List ℕ
  pub begins : BeginsWith text before stop
  pub first : (next_cut stop).0 ≡ token
  pub stands : place + length (after_blanks stop) ≡ length text
  pub viable : IsViable (Spelling most_levels) before
  pub stuck : ¬ IsViable (Spelling most_levels) (before ++ token ∷ [])
  pub kind : IsErrorOf token ((n : ℕ) × IsViable (Spelling n) (before ++ token ∷ [])) place error

-- the text is refused with this error: it is too long, or a token of it is wrong, or it spells a formula whose
-- canonical text is too long, or else opens too many levels
abbrev pub IsFormulaError : List ℕ → ParseError → Type 0
IsFormulaError text error =
    ((most_text_bytes < length text) × (error ≡ TooLong))
    ⊎ ((length text ≤ most_text_bytes) × (IsErrorAtToken SpellsSome text error
    ⊎ ((f : FormulaTree) × SpellsFormula most_levels text f × (((most_text_bytes < length (formula_text f)) × (error ≡ TooLong))
    ⊎ ((length (formula_text f) ≤ most_text_bytes) × (most_levels < formula_levels f) × (error ≡ TooDeep (length text)))))))

-- the same of a term, which opens no levels
abbrev pub IsTermError : List ℕ → ParseError → Type 0
IsTermError text error =
    ((most_text_bytes < length text) × (error ≡ TooLong))
    ⊎ ((length text ≤ most_text_bytes) × (IsErrorAtToken SpellsSomeTerm text error
    ⊎ ((t : TermTree) × SpellsTerm text t × (most_text_bytes < length (term_text t)) × (error ≡ TooLong))))
