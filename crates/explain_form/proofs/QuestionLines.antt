-- The line of a question is a call, and behind it the letters of answers that are known.
use Rattle.std.proofs.Common.{◌≡◌, ℕ, List, Bool, sym, ap, ◌∙◌}
use Rattle.policy_history.specs.declared.heads.Head.{Head}
use Rattle.policy_history.specs.Events.{EntryTree}
use Rattle.policy_history.specs.PolicyLines.{spaced}
use Rattle.std.specs.Fmt.{decimal}
use Rattle.audit_check.specs.declared.records.Answers.TheVariants.{Known, Unknown}
use Rattle.audit_form.specs.CallLines.{IsCallLine}
use Rattle.audit_form.specs.Inner.Reading.{IsAnswersText}
use Rattle.audit_form.specs.RecordLines.{given_text}
use Rattle.audit_form.specs.declared.record_lines.Call.{Call}
use Rattle.audit_form.proofs.AnswerLetters.{one_answers}
use Rattle.explain_form.specs.QuestionLines.{IsQuestionLine}
use Rattle.explain_form.specs.declared.question_lines.Question.{Question}

abbrev pub call_of : Question → Call
call_of q = record { at = q.at; principal = q.principal; op = q.op; object = q.object }

pub call_in : (h : Head) (es : List EntryTree) (line : List ℕ) (q : Question) → IsQuestionLine h es line q → IsCallLine h es line (call_of q) (given_text q.answers)
call_in h es line q l = record { name = l.name; formed = l.formed; principal = l.principal; point = l.point; within = l.within; named = l.named; op = l.op; object = l.object }

-- another question of the line has the answers that the rest of the line tells
pub letters_in : (h : Head) (es : List EntryTree) (line : List ℕ) (c : Call) (rest : List ℕ)
    → ((d : Call) (behind : List ℕ) → IsCallLine h es line d behind → (d ≡ c) × (behind ≡ rest)) → (q : Question) → IsQuestionLine h es line q → IsAnswersText rest (Known q.answers)
letters_in h es line c rest only q l = record { formed = sym (only (call_of q) (given_text q.answers) (call_in h es line q l)).1; few = l.few }

-- letters of answers that are not known are those of no question
pub not_unknown : (text : List ℕ) (given : List Bool) → IsAnswersText text Unknown → IsAnswersText text (Known given) → ⊥
not_unknown text given u k = let same : Unknown ≡ Known given = one_answers Unknown (Known given) (sym u.formed ∙ k.formed) in cc

pub question_made : (h : Head) (es : List EntryTree) (line : List ℕ) (c : Call) (rest : List ℕ) (given : List Bool) → IsCallLine h es line c rest → IsAnswersText rest (Known given)
    → IsQuestionLine h es line (record { at = c.at; principal = c.principal; op = c.op; object = c.object; answers = given })
question_made h es line c rest given l a = record {
  name = l.name;
  formed = l.formed ∙ ap (λ (x : List ℕ). spaced (decimal c.at) (spaced l.name (spaced c.op (spaced c.object x)))) a.formed;
  principal = l.principal;
  point = l.point;
  within = l.within;
  named = l.named;
  op = l.op;
  object = l.object;
  few = a.few;
}
