use Rattle.std.proofs.Common.{◌≡◌, ◌+◌, drop, false}
use Rattle.proof_text.specs.ProofText.{bracket_length}
use Rattle.proof_text.proofs.parts.bracket_length.Given as goal

abbrev pub invariant-loop-place : goal.invariant-loop-place
invariant-loop-place l = l.place + bracket_length l.quoted (drop l.place l.text) ≡ bracket_length false l.text
