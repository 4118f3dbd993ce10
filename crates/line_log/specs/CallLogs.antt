-- The log of the calls of a wire, as contracts see it.
use Rattle.std.specs.Prelude.{List, [], ◌∷◌, ◌++◌}
use Rattle.nx_io.specs.Histories.{bytes_of}
use Rattle.line_log.specs.LogCalls.{LogCall, connected, exchanged, not_connected}
use Rattle.line_log.specs.declared.calls.LoggedCall.{LoggedCall}
use Rattle.line_log.specs.declared.calls.LoggedCall.TheVariants as logged
use Rattle.line_log.specs.declared.calls.CallLog.{CallLog}
use Rattle.line_log.specs.declared.calls.CallLog.TheVariants.{Start, Then'}

-- a call that was logged
abbrev pub call_of : LoggedCall → LogCall
call_of (logged.Connected address) = connected (bytes_of address)
call_of (logged.NotConnected address) = not_connected (bytes_of address)
call_of (logged.Exchanged request answer) = exchanged (bytes_of request) (bytes_of answer)

-- the calls that were logged, in order
abbrev pub calls_of : CallLog → List LogCall
calls_of Start = []
calls_of (Then' shape before call) = calls_of before ++ call_of call ∷ []
