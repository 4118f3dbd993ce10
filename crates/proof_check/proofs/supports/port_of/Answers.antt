use Rattle.std.proofs.Common.{◌≡◌, ◌+◌, ◌∷◌, ℕ, List, Option, map, drop, sym, ◌∙◌}
use Rattle.std.proofs.lemmas.List.{at_drop_more}
use Rattle.nal_term.specs.Trees.{term_tree}
use Rattle.nal_rules.specs.Asking.{binding_tree, port_in}
use Rattle.nal_rules.specs.declared.cases.Binding.{Binding}
use Rattle.proof_check.proofs.Lookups.{port_here, port_later, told_same}
use Rattle.proof_check.proofs.supports.port_of.Goals as goal

-- A binding of another principal is passed over.
pub loop-binding-preserved : goal.loop-binding-preserved
loop-binding-preserved c =
    let p = term_tree c.args.principal.now in
    let b = c.binding-item.result in
    let rest = drop (c.loop-binding.binding-index + 1) c.args.bound.now in
    c.loop-binding.invariant
    ∙ at_drop_more (λ (bs : List Binding). port_in (map binding_tree bs) p) c.args.bound.now c.loop-binding.binding-index b c.loop-binding-test.true
    ∙ rw (← c.binding-item.is) (port_later p b rest (told_same p (term_tree b.principal) c.equal_terms.result c.equal_terms.ensures ∙ c.if-equal_terms.false))

-- The first binding of the principal has its port.
pub returns-then-equal_terms : goal.returns-then-equal_terms
returns-then-equal_terms c =
    let p = term_tree c.args.principal.now in
    let b = c.binding-item.result in
    let rest = drop (c.loop-binding.binding-index + 1) c.args.bound.now in
    sym (c.loop-binding.invariant
    ∙ at_drop_more (λ (bs : List Binding). port_in (map binding_tree bs) p) c.args.bound.now c.loop-binding.binding-index b c.loop-binding-test.true
    ∙ rw (← c.binding-item.is) (port_here p b rest (told_same p (term_tree b.principal) c.equal_terms.result c.equal_terms.ensures ∙ c.if-equal_terms.true)))
