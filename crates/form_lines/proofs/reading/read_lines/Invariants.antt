use Rattle.std.proofs.Common.{◌≤◌, ◌+◌, length}
use Rattle.form_lines.specs.Reading.{Leads}
use Rattle.form_lines.proofs.ForCallers.{PassesThrough}
use Rattle.form_lines.proofs.reading.read_lines.Given as goal

abbrev pub invariant-loop-rest : goal.invariant-loop-rest
invariant-loop-rest g l =
    Leads g.P.Progress.follows (g.P.Progress.stage l.fn.first) l.text l.lines (g.P.Progress.stage l.progress) l.rest × (l.lines + length l.rest ≤ length l.text)
    × PassesThrough g.P.Progress.follows (g.P.Progress.stage l.fn.first) l.text (g.P.Progress.stage l.progress) l.rest

abbrev pub decreases-loop-rest : goal.decreases-loop-rest
decreases-loop-rest g l = length l.rest
