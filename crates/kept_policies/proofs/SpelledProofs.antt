-- What a text spells as a proof is spellable, so its canonical text is read as it.
use Rattle.std.proofs.Common.{◌≡◌, ◌<◌, ◌≤◌, ◌+◌, ◌^◌, ℕ, List, length, Bool, true, false, Option, Some, None, refl, sym, subst, arith}
use Rattle.std.specs.List.{All}
use Rattle.std.specs.Option.{is_some}
use Rattle.std.proofs.lemmas.List.Elements.{All-cons, All-nil}
use Rattle.nal_term.specs.Trees.{TermTree}
use Rattle.proof_lines.specs.Lines.{HasRuleForm, LineTree, takes_term}
use Rattle.proof_text.specs.CanonicalProof.{IsSpellableLine, IsSpellableOptional}
use Rattle.proof_text.specs.ProofText.{AreLines, BeginsWithNumbers, BeginsWithOptionalTerm, IsLineText}
use Rattle.proof_text.specs.ProofText as text
use Rattle.kept_policies.specs.Kept.{SpelledProofs}
use Rattle.kept_policies.proofs.Spelled.{number_small, spelled_formulas, spelled_terms}

-- ---- A line

abbrev IsSmall : ℕ → Type 0
IsSmall n = n < 2 ^ 64

references_small : {k : ℕ} {bytes ns rest : List ℕ} → BeginsWithNumbers k bytes ns rest → All IsSmall ns × (length ns ≡ k)
references_small text.none = (All-nil IsSmall, refl)
references_small (text.number {n = n} {ns = ns} (run, begins, is, value) more) =
    let (each, count) = references_small more in
    (All-cons IsSmall n ns (subst IsSmall (sym value) (number_small run is)) each, omega (arith, count))

bracket_spellable : (takes : Bool) (bytes rest : List ℕ) (term : Option TermTree) → BeginsWithOptionalTerm takes bytes term rest → IsSpellableOptional term × (is_some term ≡ takes)
bracket_spellable true bytes rest (Some t) (inner, opens, closed, is, after) = (spelled_terms _ t is, refl)
bracket_spellable true bytes rest None none = absurd none
bracket_spellable false bytes rest (Some t) some = absurd some
bracket_spellable false bytes rest None same = (tt, refl)

line_spellable : {k : ℕ} {segment : List ℕ} (line : LineTree) → IsLineText k segment line → HasRuleForm line × IsSpellableLine line
line_spellable line is =
    let (small, count) = references_small is.head.references in
    let (term, takes) = bracket_spellable (takes_term line.rule) is.head.after_references is.head.after_term line.term is.head.term in
    (record { references = count; term = takes }, record { references = small; term = term; formula = spelled_formulas is.text line.formula is.formula })

-- ---- The lines

lines_spellable : {k : ℕ} {segments after : List (List ℕ)} {lines : List LineTree} → AreLines k segments lines after → k ≤ 257
    → (length lines + k ≤ 257) × All HasRuleForm lines × All IsSpellableLine lines
lines_spellable (text.end some) within = (omega (arith, within), All-nil HasRuleForm, All-nil IsSpellableLine)
lines_spellable (text.line {line = line} {lines = lines} few is more) within =
    let (form, parts) = line_spellable line is in
    let (count, forms, others) = lines_spellable more (omega (arith, few)) in
    (omega (arith, count), All-cons HasRuleForm line lines form forms, All-cons IsSpellableLine line lines parts others)

pub spelled_proofs : SpelledProofs
spelled_proofs text lines is =
    let (count, forms, parts) = lines_spellable is.spelled.body (omega arith) in
    record { few = omega (arith, count); forms = forms; parts = parts }
