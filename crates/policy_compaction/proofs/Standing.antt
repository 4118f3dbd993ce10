-- Every legal history can be compacted.
use Rattle.std.proofs.Common.{List, refl}
use Rattle.policy_history.specs.declared.heads.Head.{Head}
use Rattle.policy_history.specs.Events.{EntryTree}
use Rattle.policy_history.specs.Machine.{IsLegal, replay}
use Rattle.policy_compaction.specs.Kept.{compacted}
use Rattle.policy_compaction.specs.Standing.{SameStanding}
use Rattle.policy_compaction.specs.Compactions.{CompactionsStand}
use Rattle.policy_compaction.proofs.Again.{compacted_again}
use Rattle.policy_compaction.proofs.Legal.{legal_compacted, no_more, same_labels, same_objects}
use Rattle.policy_compaction.proofs.SameCases.{same_cases}
use Rattle.policy_compaction.proofs.SameStanding.{same_goals, same_ports, same_proofs}

same_standing : (h : Head) (es : List EntryTree) → IsLegal h es → SameStanding (replay h es) (replay h (compacted es))
same_standing h es legal =
    let now = legal_compacted h es legal in
    let objects = same_objects h es legal in
    record {
      objects = objects;
      goals = same_goals h es legal now objects;
      proofs = same_proofs h es legal now objects;
      labels = same_labels h es legal;
      ports = same_ports h es legal now;
    }

pub compactions_stand : CompactionsStand
compactions_stand h es legal =
    let standing = same_standing h es legal in
    record {
      entries = refl;
      legal = legal_compacted h es legal;
      standing = standing;
      cases = same_cases h (replay h es) (replay h (compacted es)) standing;
      fewer = no_more h es legal;
      again = compacted_again es;
    }
