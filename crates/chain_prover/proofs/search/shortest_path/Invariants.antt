use Rattle.nal_term.specs.Trees.{term_tree}
use Rattle.chain_prover.specs.Inner.Knowing.{labels_of, statement_of, terms_of}
use Rattle.chain_prover.specs.Inner.Paths.{AreBelow, AreDone, AreExpandedBelow, AreKnown, AreLinked, IsReached}
use Rattle.chain_prover.proofs.search.shortest_path.Given as goal

abbrev pub invariant-loop-lines : goal.invariant-loop-lines
invariant-loop-lines l =
    AreLinked (labels_of l.facts) (statement_of l.facts) (term_tree l.principal) l.search.nodes.items
    × AreKnown (terms_of l.facts) l.search.nodes.items
    × IsReached l.search.nodes.items (term_tree l.principal) 0
    × AreDone (terms_of l.facts) (labels_of l.facts) (statement_of l.facts) l.search.nodes.items l.search.expanded.items l.lines
    × AreExpandedBelow (labels_of l.facts) (statement_of l.facts) l.search.nodes.items l.lines
    × AreBelow l.search.nodes.items l.from l.lines
