use Rattle.std.proofs.Common.{take}
use Rattle.proof_text.specs.ProofText.{BeginsWithNumbers}
use Rattle.proof_text.proofs.parts.numbers.Given as goal

abbrev pub invariant-loop-slot : goal.invariant-loop-slot
invariant-loop-slot l = BeginsWithNumbers l.slot-index l.text (take l.slot-index l.numbers) l.rest
