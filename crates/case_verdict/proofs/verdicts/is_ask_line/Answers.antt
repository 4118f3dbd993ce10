use Rattle.std.proofs.Common.{◌≡◌, refl, ap, sym, ◌∙◌}
use Rattle.proof_lines.specs.Lines.{LineTree, line_tree}
use Rattle.proof_check.proofs.ForCallers.{no_line, read_line, same_line}
use Rattle.case_verdict.proofs.verdicts.is_ask_line.Goals as goal

pub returns-in-Ask : goal.returns-in-Ask
returns-in-Ask c = ((λ _. (line_tree c.in-Some.line.now, read_line c.args.proof.now c.args.number c.in-Some.line.now c.in-Some.ensures.zero c.in-Some.ensures.value, c.in-Ask.is)), λ _. refl)

pub returns-in_default : goal.returns-in_default
returns-in_default c = (
  (λ t. absurd (cc t)),
  λ m.
      let q : m.0 ≡ line_tree c.in-Some.line.now = same_line (read_line c.args.proof.now c.args.number c.in-Some.line.now c.in-Some.ensures.zero c.in-Some.ensures.value) m.1 in
      absurd (c.in_default.not-Ask (ap (λ (t : LineTree). t.rule) (sym q) ∙ m.2)),
)

pub returns-in-None : goal.returns-in-None
returns-in-None c = ((λ t. absurd (cc t)), λ m. absurd (no_line c.args.proof.now c.args.number m.0 c.in-None.ensures.value m.1))
