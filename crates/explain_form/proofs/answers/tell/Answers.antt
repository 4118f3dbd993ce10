use Rattle.std.proofs.Common.{ap, ◌∙◌}
use Rattle.policy_history.specs.declared.heads.Head.{Head}
use Rattle.explain_form.specs.ExplainedTexts.{explained_text}
use Rattle.explain_form.proofs.answers.tell.Goals as goal

pub returns : goal.returns
returns c = record {
  explained = c.in_ok-explained.explained;
  reasons = rw c.as_slice.ensures.answers at c.in_ok-explained.ensures;
  written = c.in_ok-text.ensures ∙ ap (λ (h : Head). explained_text h c.args.question.now.at c.in_ok-explained.explained) c.head.ensures;
  allowed = c.is_allowed-allowed.ensures;
}
