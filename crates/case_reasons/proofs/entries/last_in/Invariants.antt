use Rattle.std.proofs.Common.{◌≡◌, ◌<◌, ℕ, false, Some}
use Rattle.policy_history.specs.Events.{EntryTree}
use Rattle.policy_history.specs.Values.{entry_trees}
use Rattle.label_holdings.specs.Entries.{entry_at}
use Rattle.case_reasons.specs.Inner.Deeds.{passes}
use Rattle.case_reasons.proofs.entries.last_in.Given as goal

abbrev pub invariant-loop-index : goal.invariant-loop-index
invariant-loop-index l = (m : ℕ) (e : EntryTree) → l.index < m → entry_at (entry_trees l.entries) m ≡ Some e → passes l.deed e ≡ false
