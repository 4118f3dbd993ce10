-- What holds of each state that a list of entries leads to.
use Rattle.std.specs.Prelude.{◌≡◌, ◌≤◌, length}
use Rattle.std.specs.List.{All}
use Rattle.label_store.specs.LabelRows.{LabelRow}
use Rattle.policy_history.specs.declared.heads.Head.{Head}
use Rattle.policy_history.specs.declared.tallies.Tally.{Tally}
use Rattle.policy_history.specs.States.{State}

-- a principal has added no more than it may
abbrev pub IsWithin : Tally → Type 0
IsWithin t = (t.entries ≤ 4096) × (t.bytes ≤ 524288)

-- no label has a number above that of the last entry, each principal has its tally, none has added more than it may,
-- and there is no more than the journal may have
pub record IsSound (h : Head) (s : State) : Type 0 where
  pub numbers : All (λ (row : LabelRow). row.0 ≤ s.entries) s.labels
  pub tallies : length s.tallies ≡ length h.principals
  pub each : All IsWithin s.tallies
  pub entries_bound : s.entries ≤ 262144
  pub bytes_bound : s.bytes ≤ 33554432
