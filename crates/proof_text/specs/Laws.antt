-- The laws of proofs' texts.
use Rattle.std.specs.Prelude.{◌≡◌, ◌==◌, ℕ, List, IsTrue, not}
use Rattle.std.specs.List.{list_all}
use Rattle.proof_lines.specs.Lines.{LineTree}
use Rattle.proof_text.specs.ProofText.{IsProofText, IsRefused}
use Rattle.proof_text.specs.declared.read.ProofError.{ProofError}

-- no text is read as two proofs
abbrev pub OneProof : Type 0
OneProof = (text : List ℕ) (ps qs : List LineTree) → IsProofText text ps → IsProofText text qs → ps ≡ qs

-- a text that is refused has one error
abbrev pub OneProofError : Type 0
OneProofError = (text : List ℕ) (a b : ProofError) → IsRefused text a → IsRefused text b → a ≡ b

-- a text that is refused is not read as a proof
abbrev pub NoProofWithError : Type 0
NoProofWithError = (text : List ℕ) (error : ProofError) (ps : List LineTree) → IsRefused text error → ¬ IsProofText text ps

-- no byte is a line feed
abbrev pub IsOneLine : List ℕ → Type 0
IsOneLine bytes = IsTrue (list_all (λ b. not (b == 10)) bytes)
