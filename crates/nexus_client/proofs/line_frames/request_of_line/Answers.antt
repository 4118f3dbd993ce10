use Rattle.nexus_client.proofs.Lengths.{payload_fits}
use Rattle.nexus_client.proofs.line_frames.request_of_line.Goals as goal

pub write_request-requires : goal.write_request-requires
write_request-requires c = payload_fits c.args.line.now c.in-Ok.request c.in-Ok.ensures.ok
