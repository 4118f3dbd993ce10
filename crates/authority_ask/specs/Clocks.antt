-- Clocks, as contracts see them, and the count of their faults.
use Rattle.std.specs.Prelude.{ℕ, Option, Some, None}
use Rattle.nx_io.specs.Streams.{one_more}

-- the count of faults after a call of `now`: one more at None, the same where a time was given
abbrev pub faults_after_now : Option ℕ → ℕ → ℕ
faults_after_now (Some time) faults = faults
faults_after_now None faults = one_more faults

-- a clock in memory: its answer, what it gave last, the calls, and the faults
pub record Ticking : Type 0 where
  pub answer : Option ℕ
  pub given : Option ℕ
  pub calls : ℕ
  pub faults : ℕ

-- the clock of the system: what it gave last, the calls, and the faults
pub record Reading : Type 0 where
  pub given : Option ℕ
  pub calls : ℕ
  pub faults : ℕ
