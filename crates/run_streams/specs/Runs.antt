-- What a source and a sink did in a run.
use Rattle.std.specs.Prelude.{◌≡◌, ◌<◌, ℕ, List, length, take, Bool, IsTrue, Option, Some}
use Rattle.nx_io.specs.Streams.{gained}
use Rattle.nx_io.specs.declared.streams.Sink.{Ghosts as SinkGhosts}
use Rattle.nx_io.specs.declared.streams.Source.{Ghosts as SourceGhosts}

-- how many bytes an input has at most
abbrev pub most_bytes : ℕ
most_bytes = 67108864

-- a source in a run: the bytes that it had at the start, where it knew them; those that it gave; whether it is over at
-- the end; and how often it had failed, before and after
pub record SourceRun : Type 0 where
  pub known : Option (List ℕ)
  pub given : List ℕ
  pub over : Bool
  pub faults : ℕ
  pub faults_now : ℕ

-- a sink in a run: the bytes that it took, and how often it had failed, before and after
pub record SinkRun : Type 0 where
  pub sent : List ℕ
  pub faults : ℕ
  pub faults_now : ℕ

-- what a source and a sink did in a run, by what they tell before and after
abbrev pub source_run : {S : Type 0} → SourceGhosts S → S → S → SourceRun
source_run source old new = record {
  known = source.left old;
  given = gained (source.given old) (source.given new);
  over = source.over new;
  faults = source.faults old;
  faults_now = source.faults new;
}

abbrev pub sink_run : {K : Type 0} → SinkGhosts K → K → K → SinkRun
sink_run sink old new = record { sent = gained (sink.sent old) (sink.sent new); faults = sink.faults old; faults_now = sink.faults new }

-- the source is over, and has given all that it had
pub record IsReadWhole (source : SourceRun) : Type 0 where
  pub over : IsTrue source.over
  pub all : (text : List ℕ) → source.known ≡ Some text → text ≡ source.given

-- a proper part of these bytes: a front of them, and not all
abbrev pub IsProperPart : List ℕ → List ℕ → Type 0
IsProperPart part all = (n : ℕ) × (n < length all) × (part ≡ take n all)
