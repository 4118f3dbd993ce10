-- Queues of bytes, as contracts see them.
use Rattle.std.specs.Prelude.{ℕ, List}

-- a queue: the bytes that wait, the first one first, and how many more it has room for
pub record Queued : Type 0 where
  pub waiting : List ℕ
  pub room : ℕ

-- the two queues of a link: what came and was not yet taken, and what waits to be written
pub record BothQueued : Type 0 where
  pub ahead : Queued
  pub behind : Queued
