use Rattle.nal_rules.proofs.Weakened.{weakened}
use Rattle.nal_rules.proofs.laws.more_keeps_derivable.Goals as goal

pub returns : goal.returns
returns c = λ labels more answers others f l a d. weakened l a d
