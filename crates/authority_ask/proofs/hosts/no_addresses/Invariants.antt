use Rattle.std.proofs.Common.{◌≡◌, replicate, None}
use Rattle.authority_ask.proofs.hosts.no_addresses.Given as goal

abbrev pub invariant-loop-port : goal.invariant-loop-port
invariant-loop-port l = l.addresses.items ≡ replicate l._port None
