use Rattle.std.proofs.Common.{ap, ◌∙◌}
use Rattle.nal_term.specs.Trees.{formula_tree, says, term_tree}
use Rattle.proof_check.proofs.LineFacts.{ask_read, no_ask, no_says}
use Rattle.proof_check.proofs.supports.question.Goals as goal

pub returns-in-Says-clause-asked : goal.returns-in-Says-clause-asked
returns-in-Says-clause-asked c =
    ask_read c.args.proof.now c.args.number c.in_ok-line.line.now (term_tree c.in-Says.principal) (formula_tree c.deref.result.now)
    c.in_ok-line.ensures.zero c.in_ok-line.ensures.value c.in-Ask.is (ap formula_tree c.in-Says.is ∙ rw c.deref.ensures)

pub returns-in_default-formula : goal.returns-in_default-formula
returns-in_default-formula c = record {
  asked = tt;
  none = no_says c.args.proof.now c.args.number c.in_ok-line.line.now c.in_ok-line.ensures.zero c.in_ok-line.ensures.value c.in_default-formula.not-Says;
}

pub returns-in_default : goal.returns-in_default
returns-in_default c = record {
  asked = tt;
  none = no_ask c.args.proof.now c.args.number c.in_ok-line.line.now c.in_ok-line.ensures.zero c.in_ok-line.ensures.value c.in_default.not-Ask;
}
