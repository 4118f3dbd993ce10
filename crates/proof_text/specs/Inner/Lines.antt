-- What the reader of a proof's lines answers.
use Rattle.std.specs.Prelude.{◌≡◌, ◌≢◌, ◌<◌, ◌≤◌, ℕ, List, [], ◌∷◌, codes}
use Rattle.proof_lines.specs.Lines.{LineTree}
use Rattle.proof_text.specs.declared.read.ProofError.{ProofError}
use Rattle.proof_text.specs.ProofText.{IsLineText, AreLines, IsTail, IsWrong}

-- the segment is the text of this line k and of no other
pub record ReadsLine (k : ℕ) (segment : List ℕ) (line : LineTree) : Type 0 where
  pub within : k ≤ 256
  pub text : IsLineText k segment line
  pub only : (l : LineTree) → IsLineText k segment l → l ≡ line

-- a segment that has to be line k is wrong in this way, whatever follows it
abbrev pub IsWrongLine : ℕ → List ℕ → ProofError → Type 0
IsWrongLine k segment error =
    (others : List (List ℕ)) → (1 < k → (segment ≢ codes "end") × (segment ∷ others ≢ [] ∷ [])) → IsWrong k (segment ∷ others) error

-- the segments are these lines, `end`, and at most one empty segment
pub record IsBody (segments : List (List ℕ)) (lines : List LineTree) : Type 0 where
  pub after : List (List ℕ)
  pub body : AreLines 1 segments lines after
  pub tail : IsTail after
