-- The canonical texts of proofs: one for each, which is read again as it.
use Rattle.std.specs.Prelude.{◌<◌, ◌≤◌, ◌+◌, ◌^◌, ℕ, List, [], ◌∷◌, ◌++◌, length, codes, All, Option, Some, None}
use Rattle.std.specs.Fmt.{decimal}
use Rattle.nal_term.specs.Trees.{TermTree}
use Rattle.nal_parse.specs.Canonical.{formula_text, term_text, FormulaFits, TermFits, IsSpellable, IsSpellableTerm}
use Rattle.proof_lines.specs.Lines.{HasRuleForm, LineTree}
use Rattle.proof_text.specs.RuleNames.{rule_name}

-- how many bytes the text of a proof may have, and how many lines
abbrev pub most_proof_bytes : ℕ
most_proof_bytes = 32768

abbrev pub most_lines : ℕ
most_lines = 256

-- the references, each after a space
abbrev pub references_text : List ℕ → List ℕ
references_text [] = []
references_text (r ∷ rs) = codes " " ++ decimal r ++ references_text rs

-- the term in brackets after a space, where there is one
abbrev pub bracket_text : Option TermTree → List ℕ
bracket_text None = []
bracket_text (Some t) = codes " [" ++ term_text t ++ codes "]"

-- the text of line k
abbrev pub line_text : ℕ → LineTree → List ℕ
line_text k l =
    decimal k ++ codes " " ++ rule_name l.rule ++ references_text l.refs ++ bracket_text l.term ++ codes " : " ++ formula_text l.formula

-- the lines from number k on, each after a semicolon between two spaces
abbrev pub lines_text : ℕ → List LineTree → List ℕ
lines_text k [] = []
lines_text k (l ∷ ls) = codes " ; " ++ line_text k l ++ lines_text (k + 1) ls

-- the text of a proof
abbrev pub proof_text : List LineTree → List ℕ
proof_text ls = codes "proof 2" ++ lines_text 1 ls ++ codes " ; end"

-- the term keeps its limit, where there is one
abbrev pub OptionalTermFits : Option TermTree → Type 0
OptionalTermFits None = Unit {0}
OptionalTermFits (Some t) = TermFits t

-- the formula and the term of a line keep their limits
pub record LineFits (l : LineTree) : Type 0 where
  pub formula : FormulaFits l.formula
  pub term : OptionalTermFits l.term

-- there is a line, the text has at most 32,768 bytes, and each formula and term keeps its own limits
pub record ProofFits (ls : List LineTree) : Type 0 where
  pub some : 0 < length ls
  pub length_limit : length (proof_text ls) ≤ most_proof_bytes
  pub lines : All LineFits ls

-- what the term is made of keeps the limits of its kind, where there is one
abbrev pub IsSpellableOptional : Option TermTree → Type 0
IsSpellableOptional None = Unit {0}
IsSpellableOptional (Some t) = IsSpellableTerm t

-- what a line is made of keeps the limits of its kind
pub record IsSpellableLine (l : LineTree) : Type 0 where
  pub references : All (λ r. r < 2 ^ 64) l.refs
  pub term : IsSpellableOptional l.term
  pub formula : IsSpellable l.formula

-- what a proof is made of: at most 256 lines, each of the form of its rule, whose parts keep the limits of their kinds
pub record IsSpellableProof (ls : List LineTree) : Type 0 where
  pub few : length ls ≤ most_lines
  pub forms : All HasRuleForm ls
  pub parts : All IsSpellableLine ls
