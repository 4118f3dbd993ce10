use Rattle.std.proofs.Common.{ap}
use Rattle.nal_term.specs.Trees.{formula_tree, term_tree}
use Rattle.proof_check.proofs.Shapes.{exists_i_spec, made_where_defined}
use Rattle.proof_check.proofs.substitutions.match_of_some.Goals as goal

pub returns-in-Exists-clause-formed : goal.returns-in-Exists-clause-formed
returns-in-Exists-clause-formed g c =
    let e = c.instance_counted.ensures in
    exists_i_spec _ _ (term_tree c.args.term.now) c.in-Exists.x (formula_tree c.in-Exists.a.value) (ap formula_tree c.in-Exists.is) _ (rw c.deref.ensures at (made_where_defined _ _ _ e.capture e.yes))
