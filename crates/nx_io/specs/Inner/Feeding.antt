-- How a stream and its queues hang together.
use Rattle.std.specs.Prelude.{◌≡◌, ◌++◌, ℕ, List, Bool, false, true, None, Some}
use Rattle.std.specs.declared.option.Option.{Option}
use Rattle.nx_io.specs.Sockets.{InOrder}
use Rattle.nx_io.specs.Inner.Queues.{BothQueued}

-- While a stream is open, what it gave was taken or waits to be, and what was sent was written or waits to be. Once it is shut there are no
-- queues any more
abbrev pub IsFed : Bool → (given written taken sent : List ℕ) → Option BothQueued → Type 0
IsFed shut given written taken sent (Some queues) = (shut ≡ false) × (given ≡ taken ++ queues.ahead.waiting) × (sent ≡ written ++ queues.behind.waiting)
IsFed shut given written taken sent None = (shut ≡ true) × InOrder given written taken sent
