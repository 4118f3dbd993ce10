use Rattle.std.proofs.Common.{map}
use Rattle.nal_term.specs.Trees.{formula_tree, term_tree}
use Rattle.proof_lines.specs.Lines.{line_trees}
use Rattle.nal_rules.specs.Asking.{binding_tree}
use Rattle.proof_check.proofs.LineFacts.{not_unbound, unbound_told}
use Rattle.proof_check.proofs.supports.is_unbound.Goals as goal

pub returns-in-Some : goal.returns-in-Some
returns-in-Some c =
    unbound_told (line_trees c.args.proof.now) (map binding_tree c.args.bound.now) c.args.number (term_tree c.in-Some.principal.now) (formula_tree c.in-Some.field-0-1.now)
    c.port_of.result c.is_none.result c.in-Some.ensures.asked c.port_of.ensures c.is_none.ensures

pub returns-in-None : goal.returns-in-None
returns-in-None c = not_unbound (line_trees c.args.proof.now) (map binding_tree c.args.bound.now) c.args.number c.in-None.ensures.none
