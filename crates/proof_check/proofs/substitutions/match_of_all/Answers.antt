use Rattle.std.proofs.Common.{ap}
use Rattle.nal_term.specs.Trees.{formula_tree, term_tree}
use Rattle.proof_check.proofs.Shapes.{forall_e_spec, made_where_defined}
use Rattle.proof_check.proofs.substitutions.match_of_all.Goals as goal

pub returns-in-Forall-clause-formed : goal.returns-in-Forall-clause-formed
returns-in-Forall-clause-formed g c =
    let e = c.instance_counted.ensures in
    forall_e_spec _ _ (term_tree c.args.term.now) c.in-Forall.x (formula_tree c.in-Forall.a.value) (ap formula_tree c.in-Forall.is) _ (rw c.deref.ensures at (made_where_defined _ _ _ e.capture e.yes))
