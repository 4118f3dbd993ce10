use Rattle.std.proofs.Common.{◌≡◌, ◌+◌, ◌++◌, List, ℕ, length}
use Rattle.std.specs.Option.{option_copied}
use Rattle.proof_text.specs.ProofText.{segments}
use Rattle.proof_text.specs.Inner.Reading.{segments_after, left}
use Rattle.proof_text.proofs.columns.segment_at.Given as goal

abbrev pub invariant-loop-rest : goal.invariant-loop-rest
invariant-loop-rest l =
    (before : List (List ℕ)) × (segments l.text ≡ before ++ segments_after (option_copied l.rest)) × (length before + l.left ≡ l.segment)

abbrev pub decreases-loop-rest : goal.decreases-loop-rest
decreases-loop-rest l = left (option_copied l.rest)
