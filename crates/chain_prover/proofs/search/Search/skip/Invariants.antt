use Rattle.chain_prover.specs.Inner.Paths.{AreBelow}
use Rattle.chain_prover.proofs.search.Search.skip.Given as goal

abbrev pub invariant-loop-place : goal.invariant-loop-place
invariant-loop-place l = AreBelow l.self.nodes.items l.place l.lines
