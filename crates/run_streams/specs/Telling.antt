-- How a text is told.
use Rattle.std.specs.Prelude.{◌≡◌, ℕ, List}
use Rattle.nx_io.specs.Streams.{Sends, SendsPart, one_more}

-- a text that ends a run with a status is written, and the run ends so; or a proper part of it is, since the sink failed; or nothing, for want of memory
pub data Tells (text : List ℕ) (ended : ℕ) (before now : List ℕ) (faults faults_now status : ℕ) : Type 0 where
  whole : status ≡ ended → Sends before now text → faults_now ≡ faults → Tells text ended before now faults faults_now status
  part : status ≡ 5 → SendsPart before now text → faults_now ≡ one_more faults → Tells text ended before now faults faults_now status
  nothing : status ≡ 6 → now ≡ before → faults_now ≡ faults → Tells text ended before now faults faults_now status
