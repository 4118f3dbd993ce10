use Rattle.std.proofs.Common.{◌≡◌, arith, rules}
use Rattle.nal_subst.proofs.Counts.{two_parts}
use Rattle.nal_subst.proofs.Answers.{atom_joint}
use Rattle.nal_subst.proofs.instances.+instances.Goals as goal
use Rattle.nal_subst.proofs.instances.+instances.Goals.{instance_counted-in-And-And, instance_counted-in-And-And-2, instance_counted-in-And-And-3}

pub instance_counted-returns-in-Atom-Atom-clause-yes :
    goal.instance_counted-returns-in-Atom-Atom-clause-yes
instance_counted-returns-in-Atom-Atom-clause-yes g t c =
    rw (c.in-Atom-Atom.is-0, c.in-Atom-Atom.is-1)
    (atom_joint c.joint.result c.same_name.result c.args_match.result _ _ _ _
    (rw (c.answer-same.ensures, c.answer.ensures) at c.joint.ensures.yes)
    c.same_name.ensures
    c.args_match.ensures.value)

pub instance_counted-returns-in-And-And-clause-most :
    goal.instance_counted-returns-in-And-And-clause-most
instance_counted-returns-in-And-And-clause-most g t c =
    elim c.in-And-And-1.branch [
      | instance_counted-in-And-And w ↦
          let a_is : c.deref-in-And-And.result.now ≡ w.in-And-And.field-0-0.value = search rules in
          let b_is : c.deref-in-And-And-3.result.now ≡ w.in-And-And.field-1-0.value = search rules in
          let left = rw a_is at c.instance_counted-left.ensures.most in
          let right = rw b_is at c.instance_counted-in-And-And.ensures.most in
          rw (w.in-And-And.is-0, two_parts) (omega arith)
      | instance_counted-in-And-And-2 w ↦
          let a_is : c.deref-in-And-And.result.now ≡ w.in-And-And.field-0-0.value = search rules in
          let b_is : c.deref-in-And-And-3.result.now ≡ w.in-And-And.field-1-0.value = search rules in
          let left = rw a_is at c.instance_counted-left.ensures.most in
          let right = rw b_is at c.instance_counted-in-And-And.ensures.most in
          rw (w.in-And-And.is-0, two_parts) (omega arith)
      | instance_counted-in-And-And-3 w ↦
          let a_is : c.deref-in-And-And.result.now ≡ w.in-And-And.field-0-0.value = search rules in
          let b_is : c.deref-in-And-And-3.result.now ≡ w.in-And-And.field-1-0.value = search rules in
          let left = rw a_is at c.instance_counted-left.ensures.most in
          let right = rw b_is at c.instance_counted-in-And-And.ensures.most in
          rw (w.in-And-And.is-0, two_parts) (omega arith)
    ]
