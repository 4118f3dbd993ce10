use Rattle.nal_term.specs.Trees.{term_tree}
use Rattle.trust_check.specs.Inner.Assumed.{assumptions_in}
use Rattle.trust_check.proofs.Deciding.{names_told, not_both}
use Rattle.trust_check.proofs.valuation.Assumed.+makes_true.Goals.{then-not-is_untrusted-2, else-not-is_untrusted-2}
use Rattle.trust_check.proofs.valuation.Assumed.+makes_true.Goals as goal

pub returns-else-is_untrusted-2 : goal.returns-else-is_untrusted-2
returns-else-is_untrusted-2 t c =
    let on = c.in-SpeaksForOn in
    elim c.if-not-is_untrusted-2.branch [
      | then-not-is_untrusted-2 w ↦ absurd (not_both _ _ w.value-is w.if-not-is_untrusted-2.true c.if-is_untrusted-2.false)
      | else-not-is_untrusted-2 w ↦
          rw on.is (names_told (assumptions_in c.args.self.now) (term_tree on.p) (term_tree on.q) on.scope c.are_loose.result (c.is_untrusted-in-SpeaksForOn.ensures.0 w.if-not-is_untrusted-2.false)
          (λ u. let yes = w.is_untrusted-else-not-is_untrusted-2.ensures.1 u in let no = c.if-is_untrusted-2.false in let is = w.value-is in absurd (cc (yes, no, is)))
          (rw c.as_slice.ensures at c.are_loose.ensures))
    ]
