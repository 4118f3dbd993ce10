use Rattle.session_core.proofs.EarnedAlone.{tells_what_is_true_alone}
use Rattle.session_core.proofs.EarnedReplies.{tells_what_is_true}
use Rattle.session_core.proofs.RisingPoints.{tells_in_order, tells_what_lasts}
use Rattle.session_core.proofs.told_laws.told_replies_are_earned.Goals as goal

pub returns : goal.returns
returns c = record { truth = tells_what_is_true; points = tells_in_order; seen = tells_what_lasts; alone = tells_what_is_true_alone }
