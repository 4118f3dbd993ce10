use Rattle.std.proofs.Common.{◌≡◌, Bool, false, IsTrue, ◌↔◌, sym, ◌∙◌, subst}
use Rattle.std.proofs.lemmas.List.{length-map}
use Rattle.nal_term.specs.Trees.{formula_tree}
use Rattle.proof_lines.specs.Lines.{line_tree, line_trees}
use Rattle.nal_rules.specs.Faults.{Applies, hypotheses_of}
use Rattle.proof_check.specs.Inner.Sound.{AreEarlier, IsMet}
use Rattle.proof_check.proofs.Reached.{hyps_told, hyps_missing}
use Rattle.proof_check.proofs.Told.{bad_reference}
use Rattle.proof_check.proofs.faults.is_met.Goals as goal

refused : (b : Bool) (P : Type 0) → (IsTrue b ↔ P) → b ≡ false → P → ⊥
refused b P h e p = let t = h.1 p in absurd (cc (t, e))

pub returns-in-NoSuchRef-clause-unmet : goal.returns-in-NoSuchRef-clause-unmet
returns-in-NoSuchRef-clause-unmet g c =
    λ e. subst (λ f. Applies (line_trees c.args.proof.now) (formula_tree c.args.goal.now) c.args.number (line_tree c.args.line.now) f) (sym c.in-NoSuchRef.is) (bad_reference c.args.number c.args.line.now.refs (λ h. refused _ _ c.are_earlier.ensures e (subst (λ refs. AreEarlier c.args.number refs) (sym c.as_slice.ensures.items) h)))

pub returns-in-NotHyp-clause-met : goal.returns-in-NotHyp-clause-met
returns-in-NotHyp-clause-met g c =
    λ e. subst (λ f. IsMet (line_trees c.args.proof.now) (formula_tree c.args.goal.now) c.args.number (line_tree c.args.line.now) f) (sym c.in-NotHyp.is) (hyps_told (line_trees c.args.proof.now) (hypotheses_of c.args.line.now.rule c.args.line.now.refs) (sym c.are_hypotheses.ensures ∙ e))

pub returns-in-NotHyp-clause-unmet : goal.returns-in-NotHyp-clause-unmet
returns-in-NotHyp-clause-unmet g c =
    λ e. subst (λ f. Applies (line_trees c.args.proof.now) (formula_tree c.args.goal.now) c.args.number (line_tree c.args.line.now) f) (sym c.in-NotHyp.is) (hyps_missing (line_trees c.args.proof.now) (hypotheses_of c.args.line.now.rule c.args.line.now.refs) (sym c.are_hypotheses.ensures ∙ e))

pub returns-in-StillOpen-clause-met : goal.returns-in-StillOpen-clause-met
returns-in-StillOpen-clause-met g c =
    λ t. subst (λ f. IsMet (line_trees c.args.proof.now) (formula_tree c.args.goal.now) c.args.number (line_tree c.args.line.now) f) (sym c.in-StillOpen.is) (λ e h r. let last = e ∙ length-map c.args.proof.now line_tree in
    let rests = c.is_closed_where_last.ensures.1 (last, (h, r)) in
    absurd (cc (t, rests)))
