-- What is told of an input of `explain`.
use Rattle.std.specs.Prelude.{◌≡◌, ◌↔◌, ℕ, List, IsTrue, take}
use Rattle.nal_rules.specs.declared.verdicts.Verdict.TheVariants.{Allowed}
use Rattle.policy_history.specs.declared.heads.Head.{Head}
use Rattle.policy_history.specs.Events.{EntryTree}
use Rattle.case_reasons.specs.Explanations.{IsExplained}
use Rattle.case_reasons.specs.declared.explanations.Explained.{Explained}
use Rattle.case_reasons.specs.declared.explanations.Explained.TheVariants.{NoObject, Known}
use Rattle.explain_form.specs.declared.answers.ExplanationText.{ExplanationText}
use Rattle.explain_form.specs.declared.question_lines.Question.{Question}
use Rattle.explain_form.specs.ExplainForm.{ExplainTree, IsExplainForm}
use Rattle.explain_form.specs.ExplainedTexts.{explained_text}

-- the verdict is that the call is allowed
abbrev pub IsAllowed : Explained → Type 0
IsAllowed NoObject = ⊥
IsAllowed (Known x) = x.verdict ≡ Allowed

-- this is told of the question at the end of a history
pub record IsAnswerAt (h : Head) (es : List EntryTree) (q : Question) (told : ExplanationText) : Type 0 where
  pub explained : Explained
  pub reasons : IsExplained h es q.principal q.op q.object q.answers explained
  pub written : told.text ≡ explained_text h q.at explained
  pub allowed : IsTrue told.allowed ↔ IsAllowed explained

-- the text has the form of an input, and this is told of its question when the history had as many entries as it says
pub record IsToldOf (text : List ℕ) (told : ExplanationText) : Type 0 where
  pub form : ExplainTree
  pub formed : IsExplainForm text form
  pub answer : IsAnswerAt form.head (take form.question.at form.entries) form.question told
