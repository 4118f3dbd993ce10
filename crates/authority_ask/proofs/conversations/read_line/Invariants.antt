use Rattle.std.proofs.Common.{◌-◌}
use Rattle.authority_ask.proofs.Reading.{IsReading}
use Rattle.authority_ask.proofs.conversations.read_line.Given as goal

abbrev pub invariant-loop-filled : goal.invariant-loop-filled
invariant-loop-filled g l =
    IsReading (g.S.Source.given l.fn.source) (g.S.Source.given l.source) (g.S.Source.faults l.fn.source) (g.S.Source.faults l.source) l.answer l.filled

abbrev pub decreases-loop-filled : goal.decreases-loop-filled
decreases-loop-filled g l = 16 - l.filled
