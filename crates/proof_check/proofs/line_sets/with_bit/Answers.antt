use Rattle.proof_check.proofs.Bits.{bit_set}
use Rattle.proof_check.proofs.line_sets.with_bit.Goals as goal

pub returns : goal.returns
returns c = λ i. bit_set c.args.word c.args.place i c.requires
