use Rattle.run_streams.proofs.Sending.{part_sends, then_sends}
use Rattle.run_streams.proofs.notes.send_both.Goals as goal

pub returns-in-Ready-clause-bytes : goal.returns-in-Ready-clause-bytes
returns-in-Ready-clause-bytes g c = then_sends c.send_all-in-Ready.result _ _ _ _ _ c.in-Ready.ensures.bytes c.send_all-in-Ready.ensures.bytes

pub returns-in-Failed-clause-bytes : goal.returns-in-Failed-clause-bytes
returns-in-Failed-clause-bytes g c = part_sends _ _ _ _ c.in-Failed.ensures.bytes
