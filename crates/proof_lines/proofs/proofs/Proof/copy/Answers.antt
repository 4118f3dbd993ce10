use Rattle.proof_lines.proofs.Copies.{copied}
use Rattle.proof_lines.proofs.proofs.Proof.copy.Goals as goal

pub invariant_of-result : goal.invariant_of-result
invariant_of-result c =
    copied _ _ _ (rw c.deref-line-items.ensures.value at c.loop-line.invariant) (rw c.deref-line-items.ensures.value at c.loop-line-test.false) c.self.invariant
