use Rattle.chain_prover.proofs.Known.{keeps_next}
use Rattle.chain_prover.proofs.facts.Facts.add.Goals as goal

pub returns-clause-keeps : goal.returns-clause-keeps
returns-clause-keeps c = keeps_next c.args.self.now c.add_stating.new.self c.add_granting.new.self c.add_granting.result c.in_ok-add_stating.ensures.keeps c.add_granting.ensures.keeps
