use Rattle.std.proofs.Common.{◌≡◌, length}
use Rattle.authority_ask.proofs.tcp_wires.no_connections.Given as goal

abbrev pub invariant-loop-port : goal.invariant-loop-port
invariant-loop-port l = length l.connections.items ≡ l._port
