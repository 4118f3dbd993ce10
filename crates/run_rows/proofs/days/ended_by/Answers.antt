use denote.Param.Send.{sendable}
use Rattle.run_rows.proofs.Crossing.{door_send, link_send, log_send, panel_send}
use Rattle.run_rows.proofs.recorder.MemRecorder.TheSendSync.{the_send as recorder_send}
use Rattle.run_rows.proofs.days.ended_by.Goals as goal

pub run-requires-send-C : goal.run-requires-send-C
run-requires-send-C g c κs = search (recorder_send, sendable)

pub run-requires-send-J : goal.run-requires-send-J
run-requires-send-J g c κs = search (log_send, sendable)

pub run-requires-send-D : goal.run-requires-send-D
run-requires-send-D g c κs = search (door_send, sendable)

pub run-requires-send-D-Link : goal.run-requires-send-D-Link
run-requires-send-D-Link g c κs = search (link_send, sendable)

pub run-requires-send-P : goal.run-requires-send-P
run-requires-send-P g c κs = search (panel_send, sendable)
