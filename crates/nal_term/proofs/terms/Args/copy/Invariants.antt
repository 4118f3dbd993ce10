use Rattle.std.proofs.Common.{◌≡◌, take}
use Rattle.nal_term.specs.Trees.{term_trees}
use Rattle.nal_term.proofs.terms.Args.copy.Given as goal

abbrev pub invariant-loop-term : goal.invariant-loop-term
invariant-loop-term l = term_trees l.items.items ≡ term_trees (take l.term-index l.term-items)
