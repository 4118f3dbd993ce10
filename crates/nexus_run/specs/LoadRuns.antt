-- How a run ends that reads nothing and writes the line of a generated load: the status, and what was written.
use Rattle.std.specs.Prelude.{◌≡◌, ◌⊎◌, ℕ, List, []}
use Rattle.nx_io.specs.Streams.{Rose, one_more}
use Rattle.nexus_drill.specs.Drills.{drill_line, totals}
use Rattle.nexus_drill.specs.Loads.{IsCoreLine}
use Rattle.service_drill.specs.Runs.{IsRun}
use Rattle.run_streams.specs.Runs.{IsProperPart, SinkRun}

-- the run ends with this status: a line of the load is written, or a proper part of one, since the sink failed; or there was no memory
pub data EndsLoad (IsLine : List ℕ → Type 0) (sink : SinkRun) (status : ℕ) : Type 0 where
  written : status ≡ 0 → IsLine sink.sent → sink.faults_now ≡ sink.faults → EndsLoad IsLine sink status
  cut_off : (line : List ℕ) → status ≡ 5 → IsLine line → IsProperPart sink.sent line → sink.faults_now ≡ one_more sink.faults → EndsLoad IsLine sink status
  no_memory : status ≡ 6 → sink.sent ≡ [] → sink.faults_now ≡ sink.faults → EndsLoad IsLine sink status

-- where the sink did not fail, the line is written, or there was no memory
abbrev pub IsCompleteLoad : (List ℕ → Type 0) → SinkRun → ℕ → Type 0
IsCompleteLoad IsLine sink status = ¬ Rose sink.faults sink.faults_now → (status ≡ 6) ⊎ ((status ≡ 0) × IsLine sink.sent)

-- a run of a load
pub record RunsLoad (IsLine : List ℕ → Type 0) (sink : SinkRun) (status : ℕ) : Type 0 where
  pub ends : EndsLoad IsLine sink status
  pub complete : IsCompleteLoad IsLine sink status

-- a run of `core`
abbrev pub RunsCore : ℕ → ℕ → SinkRun → ℕ → Type 0
RunsCore number steps sink status = RunsLoad (IsCoreLine number steps) sink status

-- the line of a load that was run in threads: it is that of the draws, and a run of the service came to it
pub record IsDrillLine (number workers calls : ℕ) (line : List ℕ) : Type 0 where
  pub line_is : line ≡ drill_line number workers calls
  pub run : IsRun number workers calls (totals number workers calls)

-- a run of `drill`
abbrev pub RunsDrill : ℕ → ℕ → ℕ → SinkRun → ℕ → Type 0
RunsDrill number workers calls sink status = RunsLoad (IsDrillLine number workers calls) sink status
