use Rattle.session_wire.proofs.OneBeginning.{frames_are_read_back}
use Rattle.session_wire.proofs.laws.frames_are_read_back.Goals as goal

pub returns : goal.returns
returns c = frames_are_read_back
