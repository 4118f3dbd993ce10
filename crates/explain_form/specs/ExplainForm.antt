-- The input of `explain`: a line, the text of a policy, the line of a question, and a last line.
use Rattle.std.specs.Prelude.{◌≡◌, ◌≢◌, ◌+◌, ℕ, List, [], codes}
use Rattle.policy_history.specs.declared.heads.Head.{Head}
use Rattle.policy_history.specs.Events.{EntryTree}
use Rattle.text_lines.specs.Lines.{first_line, after_line}
use Rattle.journal_text.specs.PolicyFronts.{IsFront, IsWrongFront}
use Rattle.audit_form.specs.AuditForm.{most_session}
use Rattle.explain_form.specs.declared.question_lines.Question.{Question}
use Rattle.explain_form.specs.QuestionLines.{IsQuestionLine}

-- what an input of `explain` holds: a policy, and a question
pub record ExplainTree : Type 0 where
  pub head : Head
  pub entries : List EntryTree
  pub question : Question

-- the first line of an input
abbrev pub header : List ℕ
header = codes "nexus explain 1"

-- behind this policy the text is the line of this question, the line `end`, and nothing more
pub record IsAsked (h : Head) (es : List EntryTree) (text : List ℕ) (q : Question) : Type 0 where
  pub question : IsQuestionLine h es (first_line text) q
  pub end : first_line (after_line text) ≡ codes "end"
  pub last : after_line (after_line text) ≡ []

-- the text holds this: the first line, the text of a policy, and a question
pub record IsExplainForm (text : List ℕ) (form : ExplainTree) : Type 0 where
  pub first : first_line text ≡ header
  pub lines : ℕ
  pub rest : List ℕ
  pub policy : IsFront most_session (after_line text) form.head form.entries lines rest
  pub asked : IsAsked form.head form.entries rest form.question

-- of the text behind this policy, this line is the lowest that is wrong: that of the question, `end`, or one more; a line that is missing
-- is empty
pub data IsWrongAsked (h : Head) (es : List EntryTree) (text : List ℕ) : ℕ → Type 0 where
  question : ((q : Question) → ¬ IsQuestionLine h es (first_line text) q) → IsWrongAsked h es text 1
  end : (q : Question) → IsQuestionLine h es (first_line text) q → first_line (after_line text) ≢ codes "end" → IsWrongAsked h es text 2
  further : (q : Question) → IsQuestionLine h es (first_line text) q → first_line (after_line text) ≡ codes "end" → after_line (after_line text) ≢ []
      → IsWrongAsked h es text 3

-- line k of the text is the lowest that is wrong: the first, one of the policy, or one behind it; where the text ends too early, k is
-- one more than its number of lines
pub data IsWrongLine (text : List ℕ) (k : ℕ) : Type 0 where
  in_front : k ≡ 1 → first_line text ≢ header → IsWrongLine text k
  in_policy : (j : ℕ) → first_line text ≡ header → IsWrongFront most_session (after_line text) j → k ≡ 1 + j → IsWrongLine text k
  in_question : (n j : ℕ) (h : Head) (es : List EntryTree) (rest : List ℕ) → first_line text ≡ header → IsFront most_session (after_line text) h es n rest
      → IsWrongAsked h es rest j → k ≡ 1 + n + j → IsWrongLine text k
