use Rattle.proof_check.proofs.Bits.{holds_joined}
use Rattle.proof_check.proofs.line_sets.LineSet.joined.Goals as goal

pub returns : goal.returns
returns c = λ h. holds_joined c.args.self c.args.other h
