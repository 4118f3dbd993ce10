-- The calls of the wires of a panel.
use Rattle.std.specs.Prelude.{ℕ, List}
use Rattle.nx_io.specs.declared.streams.Reach.{Reach}
use Rattle.nx_io.specs.declared.streams.Reach.TheVariants.{Ready as ReachReady, Failed as ReachFailed}

-- a line that was to be asked: at which port and address, the line, and the bytes that came back for it
pub record Exchange : Type 0 where
  pub port : ℕ
  pub address : List ℕ
  pub question : List ℕ
  pub given : List ℕ

-- a call, and how it went: a port was connected to an address, or could not be; its connection was let go; or one line was exchanged
pub data WireCall : Type 0 where
  connected : ℕ → List ℕ → WireCall
  not_connected : ℕ → List ℕ → WireCall
  disconnected : ℕ → WireCall
  exchanged : Exchange → WireCall

-- a call that connects, by what it answered
abbrev pub connect_call : ℕ → List ℕ → Reach → WireCall
connect_call port address ReachReady = connected port address
connect_call port address ReachFailed = not_connected port address

-- a call that exchanges a line
abbrev pub exchange_call : ℕ → List ℕ → List ℕ → List ℕ → WireCall
exchange_call port address question given = exchanged (record { port = port; address = address; question = question; given = given })
