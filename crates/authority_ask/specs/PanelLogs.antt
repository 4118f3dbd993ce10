-- The log of a panel's calls, as contracts see it.
use Rattle.nal_term.specs.Trees.{formula_tree}
use Rattle.nx_io.specs.Histories.{bytes_of}
use Rattle.authority_ask.specs.PanelCalls.{PanelCall, PanelHistory, asked, new_history, no_room_to_share, not_reached, not_shared, reached, share_of, shared, with_call}
use Rattle.authority_ask.specs.declared.call_history.LoggedCall.{LoggedCall}
use Rattle.authority_ask.specs.declared.call_history.LoggedCall.TheVariants as logged
use Rattle.authority_ask.specs.declared.call_history.PanelLog.{PanelLog}
use Rattle.authority_ask.specs.declared.call_history.PanelLog.TheVariants.{Start, Share', Then'}

-- a call that was logged; a formula is told by its tree
abbrev pub call_of : LoggedCall → PanelCall
call_of (logged.Reached port address) = reached port (bytes_of address)
call_of (logged.NotReached port address) = not_reached port (bytes_of address)
call_of (logged.Asked port statement answer) = asked (record { port = port; statement = formula_tree statement.value; answer = answer })
call_of logged.Shared = shared
call_of logged.NotShared = not_shared
call_of logged.NoRoomToShare = no_room_to_share

-- the history that was logged
abbrev pub history_of : PanelLog → PanelHistory
history_of Start = new_history
history_of (Share' shape maker) = share_of (history_of maker)
history_of (Then' shape before call) = with_call (history_of before) (call_of call)
