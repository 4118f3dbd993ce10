use Rattle.std.proofs.Common.{arith, inl, inr}
use Rattle.std.proofs.lemmas.Grind.{common_steps}
use Rattle.nal_term.specs.Trees.{formula_tree, term_tree}
use Rattle.nal_subst.proofs.Counts.{one_part, room, two_parts}
use Rattle.nal_subst.proofs.captures.+is_captured_counted.Goals as goal

pub returns-then-occurs-clause-most : goal.returns-then-occurs-clause-most
returns-then-occurs-clause-most g t c =
    let r = room (formula_tree c.in-Forall.g.value) (term_tree c.args.t.now) in
    elim c.in-Forall.is [
      | inl e ↦ rw (e, one_part) (grind (arith, common_steps, r.0, r.1, r.2))
      | inr e ↦ rw (e, one_part) (grind (arith, common_steps, r.0, r.1, r.2))
    ]

pub returns-then-is_captured_counted-clause-most :
    goal.returns-then-is_captured_counted-clause-most
returns-then-is_captured_counted-clause-most g t c =
    let left = rw c.deref-in-And.ensures at c.is_captured_counted-in-And.ensures.most in
    elim c.in-And.is [
      | inl e ↦ rw (e, two_parts) (omega arith)
      | inr s ↦ elim s [ inl e ↦ rw (e, two_parts) (omega arith) | inr e ↦ rw (e, two_parts) (omega arith) ]
    ]

pub returns-else-is_captured_counted-clause-most :
    goal.returns-else-is_captured_counted-clause-most
returns-else-is_captured_counted-clause-most g t c =
    let left = rw c.deref-in-And.ensures at c.is_captured_counted-in-And.ensures.most in
    let right = rw c.deref-else-is_captured_counted.ensures at c.is_captured_counted-else-is_captured_counted.ensures.most in
    elim c.in-And.is [
      | inl e ↦ rw (e, two_parts) (omega arith)
      | inr s ↦ elim s [ inl e ↦ rw (e, two_parts) (omega arith) | inr e ↦ rw (e, two_parts) (omega arith) ]
    ]
