-- Canonical texts hold no line feed.
use Rattle.std.proofs.Common.{◌≡◌, ◌≤◌, ◌+◌, ◌==◌, ℕ, List, [], ◌∷◌, ◌++◌, length, true, not, All, codes, refl, ◌∙◌, arith}
use Rattle.std.specs.List.{list_all}
use Rattle.std.proofs.lemmas.List.Folds.{list_all-append}
use Rattle.nal_term.specs.Trees.{TermTree, FormulaTree}
use Rattle.nal_parse.specs.Canonical.{formula_text, term_text, IsSpellable, IsSpellableTerm}
use Rattle.nal_parse.proofs.ForCallers.{both, All-first, All-rest}
use Rattle.proof_lines.specs.Lines.{HasRuleForm, LineTree}
use Rattle.proof_text.specs.CanonicalProof.{IsSpellableLine, ProofFits, line_text, lines_text, proof_text}
use Rattle.proof_text.specs.Laws.{IsOneLine}
use Rattle.proof_text.specs.ProofText.{is_cut}
use Rattle.proof_text.proofs.PrintedBytes.{IsUncut, formula_uncut, term_uncut}
use Rattle.proof_text.proofs.PrintedProofs.{IsFine, all_fine, line_uncut}

pub one_line-append : (xs ys : List ℕ) → IsOneLine xs → IsOneLine ys → IsOneLine (xs ++ ys)
one_line-append xs ys h k = list_all-append (λ b. not (b == 10)) xs ys ∙ rw (h, k) refl

uncut_byte : (b : ℕ) → not (is_cut b) ≡ true → not (b == 10) ≡ true
uncut_byte b h = grind arith

uncut_line : (bs : List ℕ) → IsUncut bs → IsOneLine bs
uncut_line [] h = refl
uncut_line (b ∷ bs) h = let l = both (not (is_cut b)) (list_all (λ c. not (is_cut c)) bs) h in rw (uncut_byte b l.0) (uncut_line bs l.1)

pub term_line : (t : TermTree) → IsSpellableTerm t → IsOneLine (term_text t)
term_line t ok = uncut_line (term_text t) (term_uncut t ok)

pub formula_line : (f : FormulaTree) → IsSpellable f → IsOneLine (formula_text f)
formula_line f ok = uncut_line (formula_text f) (formula_uncut f ok)

lines_line : (ls : List LineTree) (k : ℕ) → k + length ls ≤ 257 → All IsFine ls → IsOneLine (lines_text k ls)
lines_line [] k room fine = refl
lines_line (l ∷ ls) k room fine =
    let f = All-first IsFine l ls fine in
    let here = uncut_line (line_text k l) (line_uncut k l (omega arith) f.form f.spellable f.fits) in
    one_line-append (codes " ; " ++ line_text k l) (lines_text (k + 1) ls) here (lines_line ls (k + 1) (omega arith) (All-rest IsFine l ls fine))

pub proof_line : (ls : List LineTree) → length ls ≤ 256 → All HasRuleForm ls → All IsSpellableLine ls → ProofFits ls → IsOneLine (proof_text ls)
proof_line ls few form spellable fits =
    one_line-append (codes "proof 2" ++ lines_text 1 ls) (codes " ; end") (lines_line ls 1 (omega arith) (all_fine ls form spellable fits.lines)) refl
