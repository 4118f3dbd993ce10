use Rattle.std.proofs.Common.{◌≡◌, false}
use Rattle.link_rows.proofs.devices.over_tcp.loses.Given as goal

abbrev pub invariant-loop : goal.invariant-loop
invariant-loop g l = l.link.stream.shut ≡ false
