-- The tests of what is spelled decide what is to be spelled.
use Rattle.std.proofs.Common.{◌≡◌, ◌≤◌, ℕ, Bool, List, [], ◌∷◌, length, codes, IsTrue, ◌↔◌, Option, Some, None, refl, ◌&&◌, nat_le, nat_lt}
use Rattle.std.proofs.lemmas.Bool.{leb-true, le-leb}
use Rattle.std.specs.Bool.{Decides}
use Rattle.std.specs.List.{All, list_all}
use Rattle.std.proofs.lemmas.Bool.Decides.{Decides-and, Decides-by_and, Decides-ltb, same_from_decides}
use Rattle.nal_term.proofs.ForCallers.{closed_spec, closed_term_spec, closed_but_spec}
use Rattle.nal_term.specs.Closed.{covers, covers_term}
use Rattle.nal_term.specs.Trees.{TermTree, FormulaTree}
use Rattle.policy_history.specs.Laws.{PlainTests}
use Rattle.nal_parse.specs.Canonical.{FormulaFits, TermFits, formula_text, formula_levels, term_text}
use Rattle.proof_lines.specs.Lines.{LineTree}
use Rattle.proof_text.specs.CanonicalProof.{LineFits, OptionalTermFits, ProofFits, proof_text}
use Rattle.policy_history.specs.Machine.{bracket_fits, formula_fits, line_fits, proof_fits, term_fits}

le_decides : (a b : ℕ) → Decides (nat_le a b) (a ≤ b)
le_decides a b = (leb-true a b, λ h. le-leb a b h)

pub same_test : (r s : Bool) {P : Type 0} → IsTrue r ↔ P → IsTrue s ↔ P → r ≡ s
same_test r s f g = same_from_decides r s f g

pub term_fits_decides : (t : TermTree) → Decides (term_fits t) (TermFits t)
term_fits_decides t = le_decides (length (term_text t)) 1024

pub formula_fits_decides : (f : FormulaTree) → Decides (formula_fits f) (FormulaFits f)
formula_fits_decides f =
    let d = Decides-and (nat_le (length (formula_text f)) 1024) (nat_le (formula_levels f) 64) (le_decides (length (formula_text f)) 1024) (le_decides (formula_levels f) 64) in
    (λ e. let p = d.0 e in record { length_limit = p.0; level_limit = p.1 }, λ (h : FormulaFits f). d.1 (h.length_limit, h.level_limit))

bracket_fits_decides : (t : Option TermTree) → Decides (bracket_fits t) (OptionalTermFits t)
bracket_fits_decides None = (λ _. tt, λ _. refl)
bracket_fits_decides (Some t) = term_fits_decides t

line_fits_decides : (l : LineTree) → Decides (line_fits l) (LineFits l)
line_fits_decides l =
    let d = Decides-and (formula_fits l.formula) (bracket_fits l.term) (formula_fits_decides l.formula) (bracket_fits_decides l.term) in
    (λ e. let p = d.0 e in record { formula = p.0; term = p.1 }, λ (h : LineFits l). d.1 (h.formula, h.term))

pub proof_fits_decides : (ls : List LineTree) → Decides (proof_fits ls) (ProofFits ls)
proof_fits_decides ls =
    let each : Decides (list_all line_fits ls) (All LineFits ls) = Decides-by_and line_fits LineFits (list_all line_fits) line_fits_decides refl (λ _ _. refl) ls in
    let short : Decides (nat_le (length (proof_text ls)) 32768) (length (proof_text ls) ≤ 32768) = le_decides (length (proof_text ls)) 32768 in
    let rest = Decides-and (nat_le (length (proof_text ls)) 32768) (list_all line_fits ls) short each in
    let d = Decides-and (nat_lt 0 (length ls)) (nat_le (length (proof_text ls)) 32768 && list_all line_fits ls) (Decides-ltb 0 (length ls)) rest in
    (λ e. let p = d.0 e in record { some = p.0; length_limit = p.1.0; lines = p.1.1 }, λ (h : ProofFits ls). d.1 (h.some, (h.length_limit, h.lines)))

pub plain_tests : PlainTests
plain_tests = record {
  terms = λ t. Decides-and (term_fits t) (covers_term [] t) (term_fits_decides t) (closed_term_spec t);
  formulas = λ f. Decides-and (formula_fits f) (covers [] f) (formula_fits_decides f) (closed_spec f);
  goals = λ f. Decides-and (formula_fits f) (covers (codes "subject" ∷ []) f) (formula_fits_decides f) (closed_but_spec (codes "subject") f);
  proofs = λ ls. proof_fits_decides ls;
}
