use Rattle.std.proofs.Common.{◌≡◌, map, take}
use Rattle.nal_subst.specs.Substitution.{term_with}
use Rattle.nal_term.specs.Trees.{term_tree, term_trees}
use Rattle.nal_subst.proofs.substitutions.args_replaced.Given as goal

abbrev pub invariant-loop-u : goal.invariant-loop-u
invariant-loop-u l = map (λ u. term_with l.x (term_tree l.t) u) (term_trees (take l.u-index l.u-items)) ≡ term_trees l.replaced
