use Rattle.std.proofs.Common.{◌≡◌, ◌↔◌, take, IsTrue}
use Rattle.policy_history.proofs.heads.is_same_secret.Given as goal

abbrev pub invariant-loop-place : goal.invariant-loop-place
invariant-loop-place l = IsTrue l.same ↔ (take l.place l.told ≡ take l.place l.own)
