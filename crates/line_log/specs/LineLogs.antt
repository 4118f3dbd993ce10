-- What was handed to a log line by line, and by which calls it was kept.
use Rattle.std.specs.Prelude.{◌≡◌, ◌≢◌, ◌+◌, ◌∷◌, ◌++◌, [], ℕ, List, Bool, true, false, codes, length}
use Rattle.std.specs.List.{All}
use Rattle.nx_io.specs.Streams.{faults_after_reach, faults_after_write}
use Rattle.nx_io.specs.declared.streams.Put.{Put}
use Rattle.nx_io.specs.declared.streams.Put.TheVariants.{Bytes as PutBytes, Failed as PutFailed}
use Rattle.nx_io.specs.declared.streams.Reach.{Reach}
use Rattle.nx_io.specs.declared.streams.Reach.TheVariants.{Ready as ReachReady, Failed as ReachFailed}
use Rattle.line_log.specs.LogCalls.{LogCall, connect_call, exchanged}
use Rattle.line_log.specs.LogLines.{kept_text, request_text}
use Rattle.line_log.specs.declared.standings.Standing.{Standing}
use Rattle.line_log.specs.declared.standings.Standing.TheVariants.{New, Reached, Failed}

-- ---- A keeper

-- the line that ends a text: a log has no end, so this line is taken, and goes nowhere
abbrev pub end_line : List ℕ
end_line = codes "end" ++ 10 ∷ []

-- a line, with its line feed
pub data IsLine : List ℕ → Type 0 where
  fed : (body : List ℕ) → All (λ byte. byte ≢ 10) body → IsLine (body ++ 10 ∷ [])

-- a keeper: the calls of the wire to it, and how many lines it has answered for
pub record Keeping : Type 0 where
  pub calls : List LogCall
  pub count : ℕ

-- a line was handed to a keeper as the next one, and this was the answer
abbrev pub handed : Bool → List ℕ → List ℕ → Keeping → List LogCall
handed is_change line answer keeper = keeper.calls ++ exchanged (request_text is_change (keeper.count + 1) line) answer ∷ []

-- a line is kept: the keeper answers that it keeps the line of this number, or it is the line that ends a text
pub data Keeps (is_change : Bool) (line : List ℕ) (keeper : Keeping) : Keeping → Type 0 where
  answered : line ≢ end_line → Keeps is_change line keeper (record { calls = handed is_change line (kept_text (keeper.count + 1)) keeper; count = keeper.count + 1 })
  ended : line ≡ end_line → Keeps is_change line keeper keeper

-- a line is not known to be kept: the keeper gives another answer; or for want of memory, or of a number, it isn't handed on at all
pub data Loses (is_change : Bool) (line : List ℕ) (keeper : Keeping) : Keeping → Type 0 where
  refused : {answer : List ℕ} → line ≢ end_line → answer ≢ kept_text (keeper.count + 1)
      → Loses is_change line keeper (record { calls = handed is_change line answer keeper; count = keeper.count })
  stopped : line ≢ end_line → Loses is_change line keeper keeper

-- these bytes are lines, each of which is kept, one after another
pub data AreKept (is_change : Bool) (keeper : Keeping) : List ℕ → Keeping → Type 0 where
  none : AreKept is_change keeper [] keeper
  one_more : {between after : Keeping} (bytes line : List ℕ) → AreKept is_change keeper bytes between → IsLine line → Keeps is_change line between after
      → AreKept is_change keeper (bytes ++ line) after

-- of these bytes nothing is kept: their first line is lost, and none behind it is handed on; or they have no whole line
pub data AreCut (is_change : Bool) (keeper : Keeping) : List ℕ → Keeping → Type 0 where
  lost : {after : Keeping} (line behind : List ℕ) → IsLine line → Loses is_change line keeper after → AreCut is_change keeper (line ++ behind) after
  unfed : {part : List ℕ} → part ≢ [] → All (λ byte. byte ≢ 10) part → AreCut is_change keeper part keeper

-- ---- A log

-- a log: its keeper, whether its opening text was handed to it, how it stands, what was sent, how much of that was synced, and how often it has failed
pub record Logging : Type 0 where
  pub keeper : Keeping
  pub is_opened : Bool
  pub standing : Standing
  pub sent : List ℕ
  pub synced : ℕ
  pub faults : ℕ

-- a log that was asked nothing
abbrev pub new_log : Logging
new_log = record { keeper = record { calls = []; count = 0 }; is_opened = false; standing = New; sent = []; synced = 0; faults = 0 }

-- how a log stands after it was asked to be reached: one that has failed stays so
abbrev pub standing_after : Reach → Standing → Standing
standing_after ReachFailed standing = Failed
standing_after ReachReady New = Reached
standing_after ReachReady Reached = Reached
standing_after ReachReady Failed = Failed

-- a log after it was asked to be reached at an address
abbrev pub after_reach : List ℕ → Reach → Logging → Logging
after_reach address reach log = record log {
  keeper = record { calls = log.keeper.calls ++ connect_call address reach ∷ []; count = log.keeper.count };
  standing = standing_after reach log.standing;
  faults = faults_after_reach reach log.faults;
}

-- what a write answers of which so much was sent: it fails where that is nothing
abbrev pub put_of : List ℕ → Put
put_of [] = PutFailed
put_of (byte ∷ bytes) = PutBytes (length (byte ∷ bytes))

-- A piece is handed to a log, the first one as its opening text, and each later one as changes. It is kept whole; or a front of it is, and the log fails; or the log
-- was not reached, or has failed before, and nothing is handed on.
pub data Handles (log : Logging) (piece : List ℕ) : Put → Logging → Type 0 where
  whole : {after : Keeping} → log.standing ≡ Reached → AreKept log.is_opened log.keeper piece after
      → Handles log piece (put_of piece) (record log { keeper = after; is_opened = true; sent = log.sent ++ piece })
  cut : {rest : List ℕ} {between after : Keeping} (front : List ℕ) → log.standing ≡ Reached → piece ≡ front ++ rest → AreKept log.is_opened log.keeper front between → AreCut log.is_opened between rest after
      → Handles log piece (put_of front) (record log {
        keeper = after;
        is_opened = true;
        standing = Failed;
        sent = log.sent ++ front;
        faults = faults_after_write (put_of front) log.faults;
      })
  out : log.standing ≢ Reached
      → Handles log piece PutFailed (record log { is_opened = true; standing = Failed; faults = faults_after_write PutFailed log.faults })

-- a log that came about by calls of its own alone
pub data IsLog : Logging → Type 0 where
  new : IsLog new_log
  reached : {log : Logging} → IsLog log → (address : List ℕ) (reach : Reach) → IsLog (after_reach address reach log)
  written : {log after : Logging} {piece : List ℕ} {put : Put} → IsLog log → piece ≢ [] → Handles log piece put after → IsLog after
  synced : {log : Logging} → IsLog log → IsLog (record log { synced = length log.sent })
