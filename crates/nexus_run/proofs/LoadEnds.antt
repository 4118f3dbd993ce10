-- How the ends of a generated load come from those of its parts.
use Rattle.std.proofs.Common.{inl, inr, ℕ, List, arith}
use Rattle.run_streams.specs.Runs.{SinkRun}
use Rattle.nexus_run.specs.LoadRuns.{EndsLoad, IsCompleteLoad, RunsLoad, written, cut_off, no_memory}

load_complete : (IsLine : List ℕ → Type 0) (sink : SinkRun) (status : ℕ) → EndsLoad IsLine sink status → IsCompleteLoad IsLine sink status
load_complete IsLine sink status (written e l f) = λ p. inr (e, l)
load_complete IsLine sink status (cut_off line e l cut f) = λ p. absurd (p (rw f (omega arith)))
load_complete IsLine sink status (no_memory e s f) = λ p. inl e

-- what ends a run of a load is a run of it
pub runs_load : {IsLine : List ℕ → Type 0} {sink : SinkRun} {status : ℕ} → EndsLoad IsLine sink status → RunsLoad IsLine sink status
runs_load {IsLine = IsLine} {sink = sink} {status = status} e = record { ends = e; complete = load_complete IsLine sink status e }
