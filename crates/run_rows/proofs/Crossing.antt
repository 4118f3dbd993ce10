-- What the devices in memory need to go to the threads of a service. Each is proved here once: where `run` is called, the search goes over the rows of all its
-- types, and gives up.
use denote.Param.Send.{IsSend, sendable}
use denote.Param.SendFields.{declared_send, variants_send}
use Rattle.std.proofs.Crossing.{crosses}
use Rattle.nx_io.specs.contracts.memory_links.MemLink as MemLink
use Rattle.nx_io.specs.contracts.memory_doors.MemDoor as MemDoor
use Rattle.nx_io.specs.contracts.memory_doors.DoorPlan as DoorPlan
use Rattle.nx_io.specs.contracts.door_history.DoorHistory as DoorHistory
use Rattle.nx_io.proofs.history.History.TheLaws.TheKnot.{crosses as history_crosses}
use Rattle.nx_io.proofs.door_history.DoorLog.TheLaws.TheKnot.{crosses as door_crosses}
use Rattle.authority_ask.specs.contracts.memory.MemPanel as MemPanel
use Rattle.authority_ask.proofs.call_history.PanelLog.TheLaws.TheKnot.{crosses as panel_crosses}
use Rattle.line_log.specs.contracts.memory.MemWire as MemWire
use Rattle.line_log.specs.contracts.memory.MemWireLogWire.TheImpl.{ghosts as wire}
use Rattle.line_log.specs.contracts.line_logs.LineLog as LineLog
use Rattle.line_log.proofs.calls.CallLog.TheLaws.TheKnot.{crosses as call_crosses}

pub link_send : IsSend MemLink.the_row
link_send = search (history_crosses, crosses, declared_send, sendable) depth 60 fits 20000

plan_send : IsSend DoorPlan.the_row
plan_send = search (link_send, crosses, declared_send, sendable) depth 60 fits 20000

door_history_send : IsSend DoorHistory.the_row
door_history_send = search (history_crosses, door_crosses, crosses, declared_send, sendable) depth 60 fits 20000

pub door_send : IsSend MemDoor.the_row
door_send = search (link_send, plan_send, door_history_send, crosses, variants_send, declared_send, sendable) depth 60 fits 20000

pub panel_send : IsSend MemPanel.the_row
panel_send = search (history_crosses, panel_crosses, crosses, declared_send, sendable) depth 60 fits 20000

pub log_send : IsSend (LineLog.the_row MemWire.the_row wire)
log_send = search (history_crosses, call_crosses, crosses, declared_send, sendable) depth 60 fits 20000
