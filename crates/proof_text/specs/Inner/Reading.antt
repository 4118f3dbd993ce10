-- What the parts of the reader answer.
use Rattle.std.specs.Prelude.{◌≡◌, ◌<◌, ◌+◌, ℕ, List, [], ◌∷◌, length, take, drop, Option, Some, None, option_map, false}
use Rattle.std.specs.List.{find}
use Rattle.std.specs.Str.{bytes_eq}
use Rattle.nal_parse.specs.Tokens.{after_blanks}
use Rattle.proof_lines.specs.declared.rules.Rule.{Rule}
use Rattle.proof_lines.specs.declared.rules.Rule.TheVariants.{Label, Ask, Hyp, TrueI, AndI, AndL, AndR, OrL, OrR, OrE, ImpI, ImpE, FalseE, ForallI, ForallE, ExistsI, ExistsE, EqRefl, EqSym, EqTrans, Arith, LtTrans, SaysI, Deduce, SaysJoin, SfRefl, SfTrans, SfSub, SfE, SfOnE, SfWeak, Handoff, HandoffOn}
use Rattle.nal_term.specs.Trees.{term_tree}
use Rattle.proof_text.specs.ProofText.{Head, segments, trimmed, bracket_length}
use Rattle.proof_text.specs.RuleNames.{rule_name}
use Rattle.proof_text.specs.declared.heads.LineHead.{LineHead}

-- the segments after a segment: those of the text after its cut, and none at the end
abbrev pub segments_after : Option (List ℕ) → List (List ℕ)
segments_after None = []
segments_after (Some bs) = segments bs

-- how many bytes are left to read, and 1 for a text that is left
abbrev pub left : Option (List ℕ) → ℕ
left None = 0
left (Some bs) = length bs + 1

-- this value and this rest are of the form, and no others are
pub record Reads {A : Type 0} (Form : A → List ℕ → Type 0) (value : A) (rest : List ℕ) : Type 0 where
  pub form : Form value rest
  pub only_value : (v : A) (r : List ℕ) → Form v r → v ≡ value
  pub only_rest : (v : A) (r : List ℕ) → Form v r → r ≡ rest

-- nothing is of the form
abbrev pub NoForm : {A : Type 0} → (A → List ℕ → Type 0) → Type 0
NoForm {A} Form = (v : A) (r : List ℕ) → ¬ Form v r

-- the text begins, after blanks, with `[` and `]`, between which `text` stands, and which `rest` follows
abbrev pub BeginsWithBracket : List ℕ → List ℕ → List ℕ → Type 0
BeginsWithBracket bytes text rest =
    (inner : List ℕ) × (after_blanks bytes ≡ 91 ∷ inner) × (bracket_length false inner < length inner)
    × (text ≡ trimmed (take (bracket_length false inner) inner)) × (rest ≡ drop (bracket_length false inner + 1) inner)

-- the text begins, after blanks, with `:`, and `rest` is what follows, from its first byte that is no blank
abbrev pub BeginsWithColon : List ℕ → List ℕ → Type 0
BeginsWithColon bytes rest = (after : List ℕ) × (after_blanks bytes ≡ 58 ∷ after) × (rest ≡ after_blanks after)

-- the head of a line that the reader answers, as a plain value
abbrev pub head_of : LineHead → Head
head_of h = record { number = h.number; rule = h.rule; refs = h.refs; term = option_map term_tree h.term }

-- the rules
abbrev pub all_rules : List Rule
all_rules =
    Label ∷ Ask ∷ Hyp ∷ TrueI ∷ AndI ∷ AndL ∷ AndR ∷ OrL ∷ OrR ∷ OrE ∷ ImpI ∷ ImpE ∷ FalseE ∷ ForallI ∷ ForallE ∷ ExistsI ∷ ExistsE
    ∷ EqRefl ∷ EqSym ∷ EqTrans ∷ Arith ∷ LtTrans ∷ SaysI ∷ Deduce ∷ SaysJoin ∷ SfRefl ∷ SfTrans ∷ SfSub ∷ SfE ∷ SfOnE ∷ SfWeak
    ∷ Handoff ∷ HandoffOn ∷ []

-- the rule with this name
unfoldable pub rule_named : List ℕ → Option Rule
rule_named name = find (λ r. bytes_eq (rule_name r) name) all_rules
