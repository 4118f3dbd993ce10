use Rattle.std.proofs.Common.{◌≡◌, ◌++◌, Bool, List, false, length, ℕ}
use Rattle.nx_io.proofs.buffered.write_out.Given as goal

-- what the stream was sent and what still waits are what they were, and it has neither been shut nor failed
pub record Writing (written waited written_now waits given given_now : List ℕ) (admitted admitted_now : Bool) (faults faults_now : ℕ) : Type 0 where
  pub same : written_now ++ waits ≡ written ++ waited
  pub given_is : given_now ≡ given
  pub admitted_is : admitted_now ≡ admitted
  pub still : faults_now ≡ faults

abbrev pub invariant-loop-stream : goal.invariant-loop-stream
invariant-loop-stream g l = Writing (g.S.Duplex.sent l.fn.stream) l.fn.behind.waiting (g.S.Duplex.sent l.stream) l.behind.waiting (g.S.Duplex.given l.fn.stream) (g.S.Duplex.given l.stream) (g.S.Duplex.admitted l.fn.stream) (g.S.Duplex.admitted l.stream) (g.S.Duplex.faults l.fn.stream) (g.S.Duplex.faults l.stream) × (g.S.Duplex.shut l.stream ≡ false)

abbrev pub decreases-loop-stream : goal.decreases-loop-stream
decreases-loop-stream g l = length l.behind.waiting
