use Rattle.proof_check.proofs.Bits.{bit_cleared}
use Rattle.proof_check.proofs.line_sets.without_bit.Goals as goal

pub returns : goal.returns
returns c = λ i within. bit_cleared c.args.word c.args.place i c.requires within
