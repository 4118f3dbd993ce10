use Rattle.std.proofs.Common.{◌≡◌, ◌≤◌, ◌*◌, false}
use Rattle.link_rows.proofs.frames.read_link.Given as goal

abbrev pub invariant-loop : goal.invariant-loop
invariant-loop l = record { few : l.reader ≤ 33796 * l.counter; is_open : l.link.closed ≡ false }
