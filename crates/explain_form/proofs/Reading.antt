-- The lines behind the policy, and what the whole input then is.
use Rattle.std.proofs.Common.{◌≡◌, ◌+◌, ℕ, List, subst, arith}
use Rattle.policy_history.specs.declared.heads.Head.{Head}
use Rattle.policy_history.specs.Events.{EntryTree}
use Rattle.text_lines.specs.Lines.{after_line, first_line}
use Rattle.journal_text.specs.PolicyFronts.{IsFront}
use Rattle.audit_form.specs.AuditForm.{most_session}
use Rattle.explain_form.specs.declared.question_lines.Question.{Question}
use Rattle.explain_form.specs.declared.read.ExplainError.{ExplainError}
use Rattle.explain_form.specs.declared.read.ExplainError.TheVariants.{Wrong, Memory}
use Rattle.explain_form.specs.ExplainForm.{ExplainTree, IsAsked, IsExplainForm, header, in_question}
use Rattle.explain_form.specs.Inner.Reading.{IsWrongAfter, IsWrongInput}

pub asked_error : (text : List ℕ) (h : Head) (es : List EntryTree) (n : ℕ) (rest : List ℕ) (e : ExplainError) → first_line text ≡ header → IsFront most_session (after_line text) h es n rest
    → IsWrongAfter h es (n + 1) rest e → IsWrongInput text e
asked_error text h es n rest (Wrong k) first front w =
    let number = w.1 in
    in_question n w.0 h es rest first front w.2 (omega (arith, number))
asked_error text h es n rest Memory first front w = tt

-- an input whose policy is that of another, and whose question is refused, is none
pub other_asked : (text : List ℕ) (h : Head) (es : List EntryTree) (n : ℕ) (rest : List ℕ)
    → ((x : Head) (xs : List EntryTree) (m : ℕ) (r : List ℕ) → IsFront most_session (after_line text) x xs m r → (x ≡ h) × (xs ≡ es) × (m ≡ n) × (r ≡ rest))
    → ((q : Question) → IsAsked h es rest q → ⊥) → (other : ExplainTree) → IsExplainForm text other → ⊥
other_asked text h es n rest only none other f =
    let same = only other.head other.entries f.lines f.rest f.policy in
    none other.question
    (subst (λ (r : List ℕ). IsAsked h es r other.question) same.3
    (subst (λ (xs : List EntryTree). IsAsked h xs f.rest other.question) same.1
    (subst (λ (x : Head). IsAsked x other.entries f.rest other.question) same.0 f.asked)))
