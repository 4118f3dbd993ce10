use Rattle.std.proofs.Common.{◌-◌, ◌≤◌, length, take}
use Rattle.line_log.specs.LineLogs.{AreKept}
use Rattle.line_log.proofs.keepers.Keeper.keep_lines.Given as goal

abbrev pub invariant-loop-kept : goal.invariant-loop-kept
invariant-loop-kept g l = (l.kept ≤ length l.piece) × AreKept l.fn.is_change l.fn.self (take l.kept l.piece) l.self

abbrev pub decreases-loop-kept : goal.decreases-loop-kept
decreases-loop-kept g l = length l.piece - l.kept
