-- A connection to an authority, as contracts see it.
use Rattle.std.specs.Prelude.{◌≡◌, ◌++◌, ℕ, List, Bool}
use Rattle.authority_ask.specs.Exchanges.{answer_line}

-- what was sent over a connection, and what came back
pub record Exchanged : Type 0 where
  pub sent : List ℕ
  pub given : List ℕ

-- one line was sent and had this answer, and nothing more came back
pub record HasAnswered (before now : Exchanged) (question : List ℕ) (affirmed : Bool) : Type 0 where
  pub sent : now.sent ≡ before.sent ++ question
  pub given : now.given ≡ before.given ++ answer_line affirmed
