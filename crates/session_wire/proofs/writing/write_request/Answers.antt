use Rattle.session_wire.proofs.Payloads.{texts_are_short}
use Rattle.session_wire.proofs.writing.write_request.Goals as goal

pub payload-requires : goal.payload-requires
payload-requires c = texts_are_short c.args.request.now c.requires
