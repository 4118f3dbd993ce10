-- The draws of a generated load.
use Rattle.std.specs.Prelude.{◌+◌, ◌*◌, ◌%◌, ◌/◌, ◌^◌, ℕ, zero, suc}

-- the state of the generator after the next draw
abbrev pub next : ℕ → ℕ
next x = (x * 6364136223846793005 + 1442695040888963407) % 2 ^ 64

-- the state after this many draws, beginning with a number
abbrev pub state_after : ℕ → ℕ → ℕ
state_after number zero = number
state_after number (suc n) = next (state_after number n)

-- the draw of a state
abbrev pub draw_of : ℕ → ℕ
draw_of x = x / 2 ^ 32

-- the draw at this place, from 0
abbrev pub draw : ℕ → ℕ → ℕ
draw number place = draw_of (state_after number (place + 1))
