use Rattle.std.proofs.Common.{◌≤◌, ◌<◌, ℕ, length, get_or}
use Rattle.policy_history.specs.Values.{entry_trees}
use Rattle.audit_check.specs.declared.audits.Place.{Place}
use Rattle.audit_check.specs.Beginnings.{IsBeginning}
use Rattle.audit_check.proofs.Ordered.{AreJudged}
use Rattle.audit_check.proofs.audits.lowest_wrong.Given as goal

abbrev pub invariant-loop-place : goal.invariant-loop-place
invariant-loop-place l =
    IsBeginning l.part l.whole (length l.part.entries)
    × ((j : ℕ) (d : Place) → l.place-index ≤ j → j < length l.places → length l.part.entries ≤ (get_or l.places j d).at)
    × AreJudged l.whole.head (entry_trees l.whole.entries) l.records l.places l.place-index l.lowest
