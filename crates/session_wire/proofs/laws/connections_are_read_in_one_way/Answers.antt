use Rattle.session_wire.proofs.ForCallers.{one_reading}
use Rattle.session_wire.proofs.laws.connections_are_read_in_one_way.Goals as goal

pub returns : goal.returns
returns c = one_reading
