-- The text of a proof: segments, each a header, a line or `end`.
use Rattle.std.specs.Prelude.{◌≡◌, ◌≢◌, ◌<◌, ◌≤◌, ◌+◌, ◌-◌, ◌⊎◌, ℕ, suc, List, [], ◌∷◌, length, take, drop, map, Bool, true, false, ◌||◌, ◌==◌, IsTrue, Option, Some, None, codes, if◌then◌else◌}
use Rattle.std.specs.List.{suffix_len}
use Rattle.nal_term.specs.Trees.{TermTree, FormulaTree}
use Rattle.nal_parse.specs.Tokens.{is_blank, after_blanks, run_length, is_number, value_of_digits}
use Rattle.nal_parse.specs.Grammar.{IsFormulaText, IsTermText}
use Rattle.nal_parse.specs.Errors.{IsFormulaError}
use Rattle.nal_parse.specs.declared.parse.ParseError.{ParseError}
use Rattle.nal_parse.specs.declared.parse.ParseError.TheVariants as parse
use Rattle.proof_lines.specs.declared.rules.Rule.{Rule}
use Rattle.proof_lines.specs.Lines.{LineTree, reference_count, takes_term}
use Rattle.proof_text.specs.RuleNames.{rule_name}
use Rattle.proof_text.specs.CanonicalProof.{proof_text, most_lines, most_proof_bytes}
use Rattle.proof_text.specs.declared.read.ProofError.{ProofError}
use Rattle.proof_text.specs.declared.read.ProofError.TheVariants.{BadHeader, BadLine, BadNumber, TooManyLines, TooLong, Formula, NoEnd, After}

-- the text without the blanks at its two ends
abbrev pub trimmed : List ℕ → List ℕ
trimmed bs = without_end (after_blanks bs)
  where
    without_end : List ℕ → List ℕ
    without_end cs = take (length cs - suffix_len is_blank cs) cs

-- a line feed or a semicolon, which cuts the text
abbrev pub is_cut : ℕ → Bool
is_cut b = b == 10 || b == 59

-- a byte more at the front of the first piece
abbrev pub with_first : ℕ → List (List ℕ) → List (List ℕ)
with_first b [] = (b ∷ []) ∷ []
with_first b (p ∷ ps) = (b ∷ p) ∷ ps

-- the pieces of the text between its cuts, at least one
abbrev pub pieces : List ℕ → List (List ℕ)
pieces [] = [] ∷ []
pieces (b ∷ bs) = if is_cut b then [] ∷ pieces bs else with_first b (pieces bs)

-- the segments: the pieces without the blanks at their ends
abbrev pub segments : List ℕ → List (List ℕ)
segments bs = map trimmed (pieces bs)

-- the text begins, after blanks, with this run of letters, digits and `_`, which `rest` follows
abbrev pub BeginsWithRun : List ℕ → List ℕ → List ℕ → Type 0
BeginsWithRun bytes run rest =
    (run ≡ take (run_length (after_blanks bytes)) (after_blanks bytes)) × (rest ≡ drop (run_length (after_blanks bytes)) (after_blanks bytes))

-- the text begins, after blanks, with this number, which `rest` follows
abbrev pub BeginsWithNumber : List ℕ → ℕ → List ℕ → Type 0
BeginsWithNumber bytes n rest = (run : List ℕ) × BeginsWithRun bytes run rest × IsTrue (is_number run) × (n ≡ value_of_digits run)

-- the text begins with k numbers, which `rest` follows: the references of a line
pub data BeginsWithNumbers : ℕ → List ℕ → List ℕ → List ℕ → Type 0 where
  none : {rest : List ℕ} → BeginsWithNumbers 0 rest [] rest
  number : {k n : ℕ} {ns bytes a rest : List ℕ} → BeginsWithNumber bytes n a → BeginsWithNumbers k a ns rest → BeginsWithNumbers (suc k) bytes (n ∷ ns) rest

-- how many bytes stand before the first `]` outside a quoted text, or to the end; `quoted` says whether the
-- text begins within a quoted text
abbrev pub bracket_length : Bool → List ℕ → ℕ
bracket_length quoted [] = 0
bracket_length true (b ∷ bs) = if b == 34 then bracket_length false bs + 1 else bracket_length true bs + 1
bracket_length false (b ∷ bs) = if b == 93 then 0 else (if b == 34 then bracket_length true bs + 1 else bracket_length false bs + 1)

-- the text begins, after blanks, with `[`, the text of a term, and `]`, which `rest` follows
abbrev pub BeginsWithTerm : List ℕ → TermTree → List ℕ → Type 0
BeginsWithTerm bytes t rest =
    (inner : List ℕ) × (after_blanks bytes ≡ 91 ∷ inner) × (bracket_length false inner < length inner)
    × IsTermText (trimmed (take (bracket_length false inner) inner)) t × (rest ≡ drop (bracket_length false inner + 1) inner)

-- a term in brackets where the rule has one, and else nothing
abbrev pub BeginsWithOptionalTerm : Bool → List ℕ → Option TermTree → List ℕ → Type 0
BeginsWithOptionalTerm true bytes (Some t) rest = BeginsWithTerm bytes t rest
BeginsWithOptionalTerm true bytes None rest = ⊥
BeginsWithOptionalTerm false bytes (Some t) rest = ⊥
BeginsWithOptionalTerm false bytes None rest = rest ≡ bytes

-- what stands before the formula of a line
pub record Head : Type 0 where
  pub number : ℕ
  pub rule : Rule
  pub refs : List ℕ
  pub term : Option TermTree

-- the segment has the form of a line up to its `:`; `rest` is the text of its formula, from its first byte
-- that is no blank
pub record HasHead (segment : List ℕ) (head : Head) (rest : List ℕ) : Type 0 where
  pub after_number : List ℕ
  pub after_rule : List ℕ
  pub after_references : List ℕ
  pub after_term : List ℕ
  pub after_colon : List ℕ
  pub number : BeginsWithNumber segment head.number after_number
  pub rule : BeginsWithRun after_number (rule_name head.rule) after_rule
  pub references : BeginsWithNumbers (reference_count head.rule) after_rule head.refs after_references
  pub term : BeginsWithOptionalTerm (takes_term head.rule) after_references head.term after_term
  pub colon : after_blanks after_term ≡ 58 ∷ after_colon
  pub formula : rest ≡ after_blanks after_colon

-- the segment is the text of line k
pub record IsLineText (k : ℕ) (segment : List ℕ) (line : LineTree) : Type 0 where
  pub text : List ℕ
  pub head : HasHead segment (record { number = k; rule = line.rule; refs = line.refs; term = line.term }) text
  pub formula : IsFormulaText text line.formula

-- the first segment of a proof's text
abbrev pub IsHeader : List ℕ → Type 0
IsHeader segment = (segment ≡ codes "proof 1") ⊎ (segment ≡ codes "proof 2")

-- what may follow `end`: nothing, or one empty segment
abbrev pub IsTail : List (List ℕ) → Type 0
IsTail after = (after ≡ []) ⊎ (after ≡ [] ∷ [])

-- the segments are the texts of the lines from number k on, at most to number 256, then `end`, and then
-- `after`; before `end` stands at least line 1
pub data AreLines : ℕ → List (List ℕ) → List LineTree → List (List ℕ) → Type 0 where
  end : {k : ℕ} {after : List (List ℕ)} → 1 < k → AreLines k (codes "end" ∷ after) [] after
  line : {k : ℕ} {segment : List ℕ} {line : LineTree} {others after : List (List ℕ)} {lines : List LineTree}
      → k ≤ most_lines → IsLineText k segment line → AreLines (k + 1) others lines after → AreLines k (segment ∷ others) (line ∷ lines) after

-- the text spells the proof with these lines, in at most 32,768 bytes
pub record SpellsProof (bytes : List ℕ) (lines : List LineTree) : Type 0 where
  pub header : List ℕ
  pub others : List (List ℕ)
  pub after : List (List ℕ)
  pub length_limit : length bytes ≤ most_proof_bytes
  pub cut : segments bytes ≡ header ∷ others
  pub header_form : IsHeader header
  pub body : AreLines 1 others lines after
  pub tail : IsTail after

-- the text is read as the proof with these lines: it spells it, and its canonical text keeps the same limit
pub record IsProofText (bytes : List ℕ) (lines : List LineTree) : Type 0 where
  pub spelled : SpellsProof bytes lines
  pub canonical_limit : length (proof_text lines) ≤ most_proof_bytes

-- `IsWrong k segments error`: the segments from that of line k on are wrong in this way, and the lowest wrong
-- one decides
pub data IsWrong : ℕ → List (List ℕ) → ProofError → Type 0 where
  nothing : {k : ℕ} → k ≡ 1 → IsWrong k [] (BadLine 1)
  no_end : {k : ℕ} → 1 < k → IsWrong k [] NoEnd
  blank_end : {k : ℕ} → 1 < k → IsWrong k ([] ∷ []) NoEnd
  after : {k : ℕ} {after : List (List ℕ)} → 1 < k → ¬ IsTail after → IsWrong k (codes "end" ∷ after) After
  bad_line : {k : ℕ} {segment : List ℕ} {others : List (List ℕ)} → ((head : Head) (rest : List ℕ) → ¬ HasHead segment head rest)
      → (1 < k → (segment ≢ codes "end") × (segment ∷ others ≢ [] ∷ [])) → IsWrong k (segment ∷ others) (BadLine k)
  bad_number : {k : ℕ} {segment rest : List ℕ} {others : List (List ℕ)} {head : Head} → HasHead segment head rest → head.number ≢ k
      → IsWrong k (segment ∷ others) (BadNumber k)
  too_many : {k : ℕ} {segment rest : List ℕ} {others : List (List ℕ)} {head : Head} → HasHead segment head rest → head.number ≡ k → k ≡ 257
      → IsWrong k (segment ∷ others) TooManyLines
  formula : {k : ℕ} {segment rest : List ℕ} {others : List (List ℕ)} {head : Head} {error : ParseError} → k ≤ most_lines → HasHead segment head rest → head.number ≡ k
      → ((f : FormulaTree) → ¬ IsFormulaText rest f) → error ≢ parse.Memory → IsFormulaError rest error → IsWrong k (segment ∷ others) (Formula k error)
  further : {k : ℕ} {segment : List ℕ} {line : LineTree} {others : List (List ℕ)} {error : ProofError} → k ≤ most_lines → IsLineText k segment line
      → IsWrong (k + 1) others error → IsWrong k (segment ∷ others) error

-- the segments after a header are wrong, or the header is
pub data AreWrong : List (List ℕ) → ProofError → Type 0 where
  header : {segment : List ℕ} {others : List (List ℕ)} → ¬ IsHeader segment → AreWrong (segment ∷ others) BadHeader
  body : {segment : List ℕ} {others : List (List ℕ)} {error : ProofError} → IsHeader segment → IsWrong 1 others error → AreWrong (segment ∷ others) error

-- the text spells no proof, and this is why: it is too long, or else its lowest wrong segment decides
abbrev pub IsMisspelled : List ℕ → ProofError → Type 0
IsMisspelled bytes error = ((most_proof_bytes < length bytes) × (error ≡ TooLong)) ⊎ ((length bytes ≤ most_proof_bytes) × AreWrong (segments bytes) error)

-- the text is refused with this error: it spells no proof, or one whose canonical text is too long
abbrev pub IsRefused : List ℕ → ProofError → Type 0
IsRefused bytes error =
    IsMisspelled bytes error ⊎ ((lines : List LineTree) × SpellsProof bytes lines × (most_proof_bytes < length (proof_text lines)) × (error ≡ TooLong))
