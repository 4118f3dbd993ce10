-- The text of a line stands in that of a proof of the line alone.
use Rattle.std.proofs.Common.{◌≡◌, ℕ, List, [], ◌∷◌, ◌++◌, codes, sym, ap, ◌∙◌, arith, append_assoc}
use Rattle.std.specs.Fmt.{decimal}
use Rattle.std.proofs.lemmas.Fmt.{decimal_digit}
use Rattle.std.proofs.lemmas.List.{append-nil, append_cancel_left, append_cancel_right}
use Rattle.nal_parse.specs.Canonical.{formula_text}
use Rattle.proof_lines.specs.Lines.{LineTree}
use Rattle.proof_text.specs.RuleNames.{rule_name}
use Rattle.proof_text.specs.CanonicalProof.{bracket_text, line_text, proof_text, references_text}

-- the text of a line without its number
abbrev pub unnumbered : LineTree → List ℕ
unnumbered l = codes " " ++ rule_name l.rule ++ references_text l.refs ++ bracket_text l.term ++ codes " : " ++ formula_text l.formula

regroup : (d a r f b s g : List ℕ) → d ++ a ++ r ++ f ++ b ++ s ++ g ≡ d ++ (a ++ r ++ f ++ b ++ s ++ g)
regroup d a r f b s g = simp append_assoc

number_first : (k : ℕ) (l : LineTree) → line_text k l ≡ decimal k ++ unnumbered l
number_first k l = regroup (decimal k) (codes " ") (rule_name l.rule) (references_text l.refs) (bracket_text l.term) (codes " : ") (formula_text l.formula)

around : (p q n u e : List ℕ) → p ++ (q ++ (n ++ u) ++ []) ++ e ≡ (p ++ q ++ n) ++ (u ++ e)
around p q n u e = simp (append_assoc, append-nil)

-- the text of a proof of the line alone
pub alone_text : (l : LineTree) → proof_text (l ∷ []) ≡ codes "proof 2 ; 1" ++ (unnumbered l ++ codes " ; end")
alone_text l =
    ap (λ (t : List ℕ). codes "proof 2" ++ (codes " ; " ++ t ++ []) ++ codes " ; end") (number_first 1 l ∙ ap (λ (d : List ℕ). d ++ unnumbered l) (decimal_digit 1 (omega arith)))
    ∙ around (codes "proof 2") (codes " ; ") (49 ∷ []) (unnumbered l) (codes " ; end")

-- what is cut from it
pub behind_is : (l : LineTree) (printed rest : List ℕ) → printed ≡ proof_text (l ∷ []) → printed ≡ codes "proof 2 ; 1" ++ rest → rest ≡ unnumbered l ++ codes " ; end"
behind_is l printed rest e cut = append_cancel_left (codes "proof 2 ; 1") rest (unnumbered l ++ codes " ; end") (sym cut ∙ e ∙ alone_text l)

pub text_is : (l : LineTree) (printed rest text : List ℕ) → printed ≡ proof_text (l ∷ []) → printed ≡ codes "proof 2 ; 1" ++ rest → rest ≡ text ++ codes " ; end" → text ≡ unnumbered l
text_is l printed rest text e cut last = append_cancel_right text (unnumbered l) (codes " ; end") (sym last ∙ behind_is l printed rest e cut)

-- the number, and what was cut behind another number, are the text of the line
pub joined : (l : LineTree) (k : ℕ) (old mid new text : List ℕ) → mid ≡ old ++ decimal k → text ≡ unnumbered l → new ≡ mid ++ text → new ≡ old ++ line_text k l
joined l k old mid new text number cut e =
    e ∙ ap (λ (t : List ℕ). t ++ text) number ∙ append_assoc old (decimal k) text ∙ ap (λ (t : List ℕ). old ++ (decimal k ++ t)) cut ∙ ap (λ (t : List ℕ). old ++ t) (sym (number_first k l))
