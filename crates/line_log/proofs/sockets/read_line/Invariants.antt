use Rattle.std.proofs.Common.{◌-◌, ◌≡◌, ◌≤◌, ◌++◌, length, take}
use Rattle.line_log.proofs.sockets.read_line.Given as goal

-- so much of the answer is filled, by what the source gave, and no read has failed
abbrev pub invariant-loop-filled : goal.invariant-loop-filled
invariant-loop-filled g l =
    (l.filled ≤ 32) × (length l.answer ≡ 32) × (g.S.Source.given l.source ≡ g.S.Source.given l.fn.source ++ take l.filled l.answer)
    × (g.S.Source.faults l.source ≡ g.S.Source.faults l.fn.source)

abbrev pub decreases-loop-filled : goal.decreases-loop-filled
decreases-loop-filled g l = 32 - l.filled
