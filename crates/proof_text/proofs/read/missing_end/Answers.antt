use Rattle.std.proofs.Common.{◌<◌, arith}
use Rattle.proof_text.specs.ProofText.IsWrong.{nothing, no_end}
use Rattle.proof_text.proofs.read.missing_end.Goals as goal

pub returns-then-due-eq1-clause-wrong : goal.returns-then-due-eq1-clause-wrong
returns-then-due-eq1-clause-wrong c = nothing c.if-due-eq1.true

pub returns-else-due-eq1-clause-wrong : goal.returns-else-due-eq1-clause-wrong
returns-else-due-eq1-clause-wrong c = let more : 1 < c.args.due = omega arith in no_end more
