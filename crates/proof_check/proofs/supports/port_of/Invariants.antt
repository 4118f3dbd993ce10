use Rattle.std.proofs.Common.{◌≡◌, map, drop}
use Rattle.nal_term.specs.Trees.{term_tree}
use Rattle.nal_rules.specs.Asking.{binding_tree, port_in}
use Rattle.proof_check.proofs.supports.port_of.Given as goal

abbrev pub invariant-loop-binding : goal.invariant-loop-binding
invariant-loop-binding l = port_in (map binding_tree l.bound) (term_tree l.principal) ≡ port_in (map binding_tree (drop l.binding-index l.bound)) (term_tree l.principal)
