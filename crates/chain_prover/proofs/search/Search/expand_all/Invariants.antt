use Rattle.chain_prover.specs.Inner.Knowing.{labels_of, statement_of, terms_of}
use Rattle.chain_prover.proofs.Expanding.{IsExpanding}
use Rattle.chain_prover.proofs.search.Search.expand_all.Given as goal

abbrev pub invariant-loop-place : goal.invariant-loop-place
invariant-loop-place l = IsExpanding (terms_of l.facts) (labels_of l.facts) (statement_of l.facts) l.fn.self.nodes.items l.self.nodes.items l.self.expanded.items l.lines l.place
