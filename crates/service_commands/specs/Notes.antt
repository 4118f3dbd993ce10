-- What is told beside a refusal.
use Rattle.std.specs.Prelude.{◌≡◌, Option, None, Some}
use Rattle.nx_io.specs.Streams.{SendsAll, faults_after_reach}
use Rattle.nx_io.specs.declared.streams.Reach.{Reach}
use Rattle.nx_io.specs.declared.streams.Sink.{Ghosts as SinkGhosts}
use Rattle.run_streams.specs.Refusals.{note_text}
use Rattle.run_streams.specs.declared.refusals.InputRefusal.{InputRefusal}
use Rattle.service_commands.specs.Services.{HandsBack}

-- Beside a refusal the sink for records, where there is one, was sent what is wrong with the input: whole, or a proper part of it where the sink failed. Else nothing was
abbrev pub IsNoted : {C : Type 0} → SinkGhosts C → Option InputRefusal → Option C → Option C → Type 0
IsNoted records None before now = now ≡ before
IsNoted records (Some refusal) None now = now ≡ None
IsNoted records (Some refusal) (Some before) now = HandsBack now (λ r. (reach : Reach) × SendsAll reach (records.sent before) (records.sent r) (note_text refusal)
    × (records.faults r ≡ faults_after_reach reach (records.faults before)) × (records.synced r ≡ records.synced before))
