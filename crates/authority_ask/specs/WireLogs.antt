-- The log of the calls of wires, as contracts see it.
use Rattle.std.specs.Prelude.{List, [], ◌∷◌, ◌++◌}
use Rattle.nx_io.specs.Histories.{bytes_of}
use Rattle.authority_ask.specs.WireCalls.{WireCall, connected, disconnected, exchanged, not_connected}
use Rattle.authority_ask.specs.declared.wire_log.LoggedWireCall.{LoggedWireCall}
use Rattle.authority_ask.specs.declared.wire_log.LoggedWireCall.TheVariants as logged
use Rattle.authority_ask.specs.declared.wire_log.WireLog.{WireLog}
use Rattle.authority_ask.specs.declared.wire_log.WireLog.TheVariants.{Start, Then'}

-- a call that was logged
abbrev pub wire_call_of : LoggedWireCall → WireCall
wire_call_of (logged.Connected port address) = connected port (bytes_of address)
wire_call_of (logged.NotConnected port address) = not_connected port (bytes_of address)
wire_call_of (logged.Disconnected port) = disconnected port
wire_call_of (logged.Exchanged port address question given) = exchanged (record { port = port; address = bytes_of address; question = bytes_of question; given = bytes_of given })

-- the calls that were logged, in order
abbrev pub wire_calls_of : WireLog → List WireCall
wire_calls_of Start = []
wire_calls_of (Then' shape before call) = wire_calls_of before ++ wire_call_of call ∷ []
