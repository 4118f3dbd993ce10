-- What is told of recorders.
use Rattle.std.specs.Prelude.{ℕ, List, Option}
use Rattle.nx_io.specs.Streams.{one_more}
use Rattle.nx_io.specs.declared.streams.Shared.{Shared}
use Rattle.nx_io.specs.declared.streams.Shared.TheVariants.{Made as SharedMade, Failed as SharedFailed, NoMemory as SharedNoMemory}

-- a recorder over a writer: what the writer holds, where that is known; the bytes that were sent, and how many of them were synced; how
-- often it failed; and how often it was asked for a share
pub record Recording : Type 0 where
  pub contents : Option (List ℕ)
  pub sent : List ℕ
  pub synced : ℕ
  pub faults : ℕ
  pub shares : ℕ

-- the count of faults after a share was asked for: one more at `Failed`, the same at any other answer
abbrev pub faults_after_share : {A : Type 0} → Shared A → ℕ → ℕ
faults_after_share (SharedMade share) faults = faults
faults_after_share SharedFailed faults = one_more faults
faults_after_share SharedNoMemory faults = faults
