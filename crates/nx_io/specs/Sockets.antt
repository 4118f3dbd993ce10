-- Links over streams, as contracts see them.
use Rattle.std.specs.Prelude.{ℕ, List, [], Bool, false}
use Rattle.std.specs.declared.option.Option.{Option}
use Rattle.nx_io.specs.Streams.{Grows}

-- a stream, and the bytes that were taken of a link over it and those that the link was sent
pub record Traffic (S : Type 0) : Type 0 where
  pub stream : S
  pub taken : List ℕ
  pub sent : List ℕ

-- Bytes pass in order, and each once: what was taken is a front of what the stream gave, and what the stream was sent is a front
-- of what the link was sent.
pub record InOrder (given written taken sent : List ℕ) : Type 0 where
  pub coming : Grows taken given
  pub going : Grows written sent

-- a link: its stream, which knows whether its peer is admitted, the bytes that were taken and sent, whether it is over, where it came
-- from, and the faults
pub record Socket (S : Type 0) : Type 0 where
  pub stream : S
  pub taken : List ℕ
  pub sent : List ℕ
  pub over : Bool
  pub place : ℕ
  pub toward : Option (List ℕ)
  pub faults : ℕ

-- a link over a stream, over which no byte has passed yet
abbrev pub new_socket : {S : Type 0} → S → ℕ → Option (List ℕ) → Socket S
new_socket stream place toward = record { stream = stream; taken = []; sent = []; over = false; place = place; toward = toward; faults = 0 }
