-- What is sent to an authority and what comes back, byte by byte.
use Rattle.std.specs.Prelude.{◌≡◌, ◌≢◌, ◌≤◌, ◌⊎◌, ℕ, List, [], ◌++◌, length, Bool, true, Contains}
use Rattle.nx_io.specs.Streams.{Rose}
use Rattle.authority_ask.specs.Exchanges.{Answers, answer_line}
use Rattle.authority_ask.specs.declared.conversations.Reply.{Reply}
use Rattle.authority_ask.specs.declared.conversations.Reply.TheVariants.{Line, LineAndMore, Broken}

-- what the bytes that came back are: one line with an answer, such a line and more, or neither
abbrev pub IsReply : List ℕ → Reply → Type 0
IsReply bytes (Line affirmed) = bytes ≡ answer_line affirmed
IsReply bytes (LineAndMore affirmed) = (more : List ℕ) × (bytes ≡ answer_line affirmed ++ more) × (more ≢ [])
IsReply bytes Broken = (affirmed : Bool) → ¬ Answers affirmed bytes

-- why nothing more was read of an answer's line: it is there, or it is too long, or the source was at its end, or failed
abbrev pub HasStopped : List ℕ → Bool → ℕ → ℕ → Type 0
HasStopped bytes over before now = Contains bytes 10 ⊎ ((16 ≤ length bytes) ⊎ ((over ≡ true) ⊎ Rose before now))

-- what was sent and what came back while each question has had its answer: nothing at first, and then one line each
pub data InStep : List ℕ → List ℕ → Type 0 where
  opened : InStep [] []
  answered : {sent given : List ℕ} (question : List ℕ) (affirmed : Bool) → InStep sent given → InStep (sent ++ question) (given ++ answer_line affirmed)
