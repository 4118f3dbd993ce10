use Rattle.std.proofs.Common.{◌≤◌, List, length, Bool, refl, sym, subst, ◌∙◌}
use Rattle.proof_lines.specs.Lines.{line_trees}
use Rattle.nal_rules.specs.Asking.{case_tree}
use Rattle.audit_check.proofs.RightAnswers.{answers_by, few_answers, none_decided}
use Rattle.audit_check.proofs.Settled.{without_proof}
use Rattle.audit_check.proofs.right_answers.answers_of.Goals as goal

pub answers_in-requires : goal.answers_in-requires
answers_in-requires c =
    let r = c.requires.right in
    let same = answers_by (case_tree c.args.case.now) r.0 (line_trees c.in-Some.proof) (rw c.in-Some.is refl) c.args.recorded r.1 in
    subst (λ (answers : List Bool). length answers ≤ 16) same (few_answers (case_tree c.args.case.now) r.0 c.args.recorded r.1)

pub returns-in-Some : goal.returns-in-Some
returns-in-Some c =
    λ given right.
    c.answers_in.ensures ∙ sym (answers_by (case_tree c.args.case.now) given (line_trees c.in-Some.proof) (rw c.in-Some.is refl) c.args.recorded right)

pub returns-in-None : goal.returns-in-None
returns-in-None c =
    λ given right.
    c.new.ensures ∙ sym (none_decided (case_tree c.args.case.now) given c.args.recorded (without_proof (case_tree c.args.case.now) (rw c.in-None.is refl)) right)
