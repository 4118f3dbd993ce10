-- Laws of reading an answer's line into a buffer.
use Rattle.std.proofs.Common.{◌≡◌, ℕ, ◌≤◌, List, ◌++◌, length, take}

-- within the reading of a line: so much of the buffer is filled, by what the source gave, and no read has failed
pub record IsReading (given given_now : List ℕ) (faults faults_now : ℕ) (buffer : List ℕ) (filled : ℕ) : Type 0 where
  pub within : filled ≤ 16
  pub room : length buffer ≡ 16
  pub gave : given_now ≡ given ++ take filled buffer
  pub still : faults_now ≡ faults
