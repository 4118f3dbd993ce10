-- What other crates may cite of the laws of proofs' texts.
use Rattle.std.proofs.Common.{ℕ, List, ◌++◌}
use Rattle.nal_term.specs.Trees.{TermTree, FormulaTree}
use Rattle.nal_parse.specs.Canonical.{FormulaFits, TermFits, formula_text, term_text, IsSpellable, IsSpellableTerm}
use Rattle.nal_parse.specs.Grammar.{IsFormulaText, IsTermText}
use Rattle.proof_lines.specs.Lines.{LineTree}
use Rattle.proof_text.specs.CanonicalProof.{IsSpellableProof, ProofFits, proof_text}
use Rattle.proof_text.specs.Laws.{IsOneLine, OneProof, OneProofError, NoProofWithError}
use Rattle.proof_text.specs.ProofText.{IsProofText}
use Rattle.proof_text.proofs.OneLine as line
use Rattle.proof_text.proofs.OneProof as proof
use Rattle.proof_text.proofs.PrintedProofs as printed

-- no text is read as two proofs
pub one_proof : OneProof
one_proof = proof.one_proof

-- a text that is refused has one error
pub one_proof_error : OneProofError
one_proof_error = proof.one_proof_error

-- a text that is refused is not read as a proof
pub no_proof_with_error : NoProofWithError
no_proof_with_error = proof.no_proof_with_error

-- canonical texts are read as what they are written of
pub printed_term : (t : TermTree) → IsSpellableTerm t → TermFits t → IsTermText (term_text t) t
printed_term = printed.term_is_text

pub printed_formula : (f : FormulaTree) → IsSpellable f → FormulaFits f → IsFormulaText (formula_text f) f
printed_formula = printed.formula_is_text

pub printed_proof : (ls : List LineTree) → IsSpellableProof ls → ProofFits ls → IsProofText (proof_text ls) ls
printed_proof ls ok fits = printed.proof_read ls ok.few ok.forms ok.parts fits

-- and hold no line feed
pub one_line-append : (xs ys : List ℕ) → IsOneLine xs → IsOneLine ys → IsOneLine (xs ++ ys)
one_line-append = line.one_line-append

pub term_line : (t : TermTree) → IsSpellableTerm t → IsOneLine (term_text t)
term_line = line.term_line

pub formula_line : (f : FormulaTree) → IsSpellable f → IsOneLine (formula_text f)
formula_line = line.formula_line

pub proof_line : (ls : List LineTree) → IsSpellableProof ls → ProofFits ls → IsOneLine (proof_text ls)
proof_line ls ok fits = line.proof_line ls ok.few ok.forms ok.parts fits
