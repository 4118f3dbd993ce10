-- How the reading of an input ends.
use Rattle.std.specs.Prelude.{ℕ, Result, Ok, Err}
use Rattle.std.specs.declared.alloc.AllocError.{AllocError}
use Rattle.nx_io.specs.Streams.{one_more}
use Rattle.run_streams.specs.declared.flaws.Flaw.{Flaw}
use Rattle.run_streams.specs.declared.refusals.InputRefusal.TheVariants.{WrongLine}
use Rattle.run_streams.specs.Refusals.{Form, IsRefusalOf}
use Rattle.run_streams.specs.Runs.{SourceRun}
use Rattle.run_streams.specs.declared.unread.Unread.{Unread}
use Rattle.run_streams.specs.declared.unread.Unread.TheVariants.{Refused, Failed, Memory}

-- why an input was not read is so
abbrev pub IsUnread : Form → SourceRun → Unread → Type 0
IsUnread form source (Refused outcome) = IsRefusalOf form source outcome
IsUnread form source Failed = Unit {0}
IsUnread form source Memory = Unit {0}

-- how often a source has failed after an input was to be read
abbrev pub faults_after_input : {A : Type 0} → Result A Unread → ℕ → ℕ
faults_after_input (Ok script) faults = faults
faults_after_input (Err (Refused outcome)) faults = faults
faults_after_input (Err Failed) faults = one_more faults
faults_after_input (Err Memory) faults = faults

-- an input in which this line is the lowest that is wrong, where what is wrong with it could be told
abbrev pub wrong_by : ℕ → Result Flaw AllocError → Unread
wrong_by k (Ok flaw) = Refused (WrongLine k flaw)
wrong_by k (Err e) = Memory
