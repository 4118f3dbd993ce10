use Rattle.session_core.proofs.Downs.{downs_are_told, downs_are_told_alone}
use Rattle.session_core.proofs.told_laws.downs_are_told.Goals as goal

pub returns : goal.returns
returns c = record { beside = downs_are_told; alone = downs_are_told_alone }
