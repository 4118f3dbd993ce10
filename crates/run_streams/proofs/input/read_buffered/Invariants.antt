use Rattle.std.proofs.Common.{◌≡◌, ◌≤◌, ◌+◌, ◌-◌, ◌++◌, length}
use Rattle.nx_io.specs.Streams.{prepended}
use Rattle.run_streams.specs.Runs.{most_bytes}
use Rattle.run_streams.proofs.input.read_buffered.Given as goal

abbrev pub invariant-loop-count : goal.invariant-loop-count
invariant-loop-count g l =
    (g.S.Source.left l.fn.source ≡ prepended l.whole.items (g.S.Source.left l.source)) × (g.S.Source.given l.source ≡ g.S.Source.given l.fn.source ++ l.whole.items)
    × (g.S.Source.faults l.source ≡ g.S.Source.faults l.fn.source) × (length l.whole.items ≤ most_bytes)

abbrev pub decreases-loop-count : goal.decreases-loop-count
decreases-loop-count g l = most_bytes + 1 - length l.whole.items
