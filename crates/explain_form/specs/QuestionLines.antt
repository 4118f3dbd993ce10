-- The line of a question.
use Rattle.std.specs.Prelude.{◌≡◌, ◌≤◌, ◌<◌, ℕ, List, Some, length}
use Rattle.std.specs.Fmt.{decimal}
use Rattle.nal_term.specs.Names.{IsName}
use Rattle.policy_history.specs.declared.heads.Head.{Head}
use Rattle.policy_history.specs.Events.{EntryTree, numbered}
use Rattle.policy_history.specs.PolicyLines.{spaced}
use Rattle.audit_form.specs.RecordLines.{given_text}
use Rattle.explain_form.specs.declared.question_lines.Question.{Question}
use Rattle.nal_rules.specs.Faults.{most_asks}

-- the line of a question: the point, the principal's name, the operation, the object and the answers
abbrev pub question_text : List ℕ → Question → List ℕ
question_text name q = spaced (decimal q.at) (spaced name (spaced q.op (spaced q.object (given_text q.answers))))

-- the line is that of this question, whose point is one of the journal, and whose principal is one of the head's
pub record IsQuestionLine (h : Head) (es : List EntryTree) (line : List ℕ) (q : Question) : Type 0 where
  pub name : List ℕ
  pub formed : line ≡ question_text name q
  pub principal : numbered h.principals name ≡ Some q.principal
  pub point : q.at ≤ length es
  pub within : q.principal < length h.principals
  pub named : IsName name
  pub op : IsName q.op
  pub object : IsName q.object
  pub few : length q.answers ≤ most_asks
