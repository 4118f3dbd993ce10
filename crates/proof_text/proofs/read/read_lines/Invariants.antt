use Rattle.std.proofs.Common.{◌≤◌, ◌+◌, length}
use Rattle.std.specs.Option.{option_copied}
use Rattle.proof_lines.specs.Lines.{line_trees}
use Rattle.proof_text.specs.Inner.Reading.{segments_after, left}
use Rattle.proof_text.proofs.Walk.{Carries}
use Rattle.proof_text.proofs.read.read_lines.Given as goal

abbrev pub invariant-loop-rest : goal.invariant-loop-rest
invariant-loop-rest l =
    Carries (segments_after (option_copied l.first)) (line_trees l.proof) (length l.proof + 1) (segments_after (option_copied l.rest)) × (length l.proof ≤ 256)

abbrev pub decreases-loop-rest : goal.decreases-loop-rest
decreases-loop-rest l = left (option_copied l.rest)
