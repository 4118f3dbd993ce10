-- The faults of a source that is read whole.
use Rattle.std.specs.Prelude.{ℕ, Result, Ok, Err}
use Rattle.nx_io.specs.Streams.{one_more}
use Rattle.run_streams.specs.declared.input.ReadError.{ReadError}
use Rattle.run_streams.specs.declared.input.ReadError.TheVariants.{TooLarge, Failed, Memory}

-- how often a source has failed after it was to be read whole
abbrev pub faults_after_reading : {A : Type 0} → Result A ReadError → ℕ → ℕ
faults_after_reading (Ok whole) faults = faults
faults_after_reading (Err TooLarge) faults = faults
faults_after_reading (Err Failed) faults = one_more faults
faults_after_reading (Err Memory) faults = faults
