-- An input has one reading: every reading of it comes through each stage at which the reader stands.
use Rattle.std.proofs.Common.{◌≡◌, ◌≢◌, ◌==◌, ◌+◌, arith, ℕ, List, [], length, true, ◌⊎◌, inl, inr, Result, Ok, Err, IfOk, IfErr, refl, sym, ◌∙◌}
use Rattle.nal_term.specs.Trees.{FormulaTree}
use Rattle.nal_term.specs.declared.formulas.Formula.{Formula}
use Rattle.proof_lines.specs.Lines.{LineTree, line_trees}
use Rattle.proof_text.specs.ProofText.{IsProofText}
use Rattle.answer_commands.specs.declared.stages.Progress.{Progress}
use Rattle.answer_commands.specs.declared.stages.Progress.TheVariants.{HeaderDue, SubjectDue, LabelsDue, YesDue, ProofDue}
use Rattle.text_lines.specs.Lines.{first_line, after_line}
use Rattle.answer_commands.specs.CheckForm.{CheckForm, Stage, header_due, proof_due, Follows, Reaches, start, next_line, IsCheckForm}
use Rattle.answer_commands.specs.declared.check_form.Input.{Input}
use Rattle.answer_commands.specs.declared.answering.AnswerError.{AnswerError}
use Rattle.answer_commands.specs.declared.answering.AnswerError.TheVariants.{Memory}
use Rattle.answer_commands.specs.Inner.Forms.{form_of, HoldsProof, stage_of}
use Rattle.answer_commands.proofs.Following.{proof_wrong}
use Rattle.answer_commands.proofs.Inputs.{empty}

-- from this rest and stage on, so many lines lead to the last ones
pub data Leads (last : List ℕ) (end : Stage) : ℕ → List ℕ → Stage → Type 0 where
  there : Leads last end 0 last end
  on : {n : ℕ} {rest : List ℕ} {stage next : Stage} → rest ≢ [] → Follows stage (first_line rest) next → Leads last end n (after_line rest) next
      → Leads last end (n + 1) rest stage

-- what leads on from a stage that is reached leads on from the beginning
pub from_start : {text last : List ℕ} {end : Stage} {k n : ℕ} {rest : List ℕ} {stage : Stage} → Reaches text k rest stage → Leads last end n rest stage
    → (m : ℕ) × (m ≡ k + n) × Leads last end m text header_due
from_start {n = n} start l = (n, omega arith, l)
from_start {n = n} (next_line r some f) l = let h = from_start r (on some f l) in (h.0, omega (arith, h.1), h.2)

-- the rest and the stage can be completed to this form
abbrev pub Completes : List ℕ → Stage → CheckForm → Type 0
Completes rest stage form =
    (last : List ℕ) × (n : ℕ) × Leads last (proof_due form.subject form.labels form.yes form.goal) n rest stage × IsProofText last form.proof

-- every reading of the text comes through this rest and stage
abbrev pub PassesThrough : List ℕ → List ℕ → Stage → Type 0
PassesThrough text rest stage = (form : CheckForm) → IsCheckForm text form → Completes rest stage form

-- every reading begins at the beginning
pub passes_start : (text : List ℕ) → PassesThrough text text header_due
passes_start text form f = let h = from_start f.2 there in (f.1, h.0, h.2, f.3)

-- it is there, or a step leads on
abbrev IsStep : List ℕ → Stage → List ℕ → Stage → Type 0
IsStep last end rest stage =
    ((stage ≡ end) × (rest ≡ last)) ⊎ ((next : Stage) × (rest ≢ []) × Follows stage (first_line rest) next × (n : ℕ) × Leads last end n (after_line rest) next)

step : {last : List ℕ} {end : Stage} {n : ℕ} {rest : List ℕ} {stage : Stage} → Leads last end n rest stage → IsStep last end rest stage
step there = inl (refl, refl)
step (on {n = n} {next = next} some f l) = inr (next, some, f, n, l)

-- before the goal was read the proof is not due
not_due : (p : Progress) → ((x : List ℕ) (ls ys : _) (g : Formula) → p ≡ ProofDue x ls ys g → ⊥)
    → (x : List ℕ) (ls ys : List FormulaTree) (g : FormulaTree) → stage_of p ≡ proof_due x ls ys g → ⊥
not_due HeaderDue h x ls ys g e = cc
not_due SubjectDue h x ls ys g e = cc
not_due (LabelsDue y ms) h x ls ys g e = cc
not_due (YesDue y ms ns) h x ls ys g e = cc
not_due (ProofDue y ms ns f) h x ls ys g e = h y ms ns f refl

-- what comes through a stage before the proof takes a step from there
steps_on : {text rest : List ℕ} (p : Progress) → ((x : List ℕ) (ls ys : _) (g : Formula) → p ≡ ProofDue x ls ys g → ⊥)
    → PassesThrough text rest (stage_of p) → (form : CheckForm) → IsCheckForm text form
    → (next : Stage) × (rest ≢ []) × Follows (stage_of p) (first_line rest) next × Completes (after_line rest) next form
steps_on {rest = rest} p h t form f = from (t form f) (step (t form f).2)
  where
    from : (c : Completes rest (stage_of p) form)
        → IsStep c.0 (proof_due form.subject form.labels form.yes form.goal) rest (stage_of p)
        → (next : Stage) × (rest ≢ []) × Follows (stage_of p) (first_line rest) next × Completes (after_line rest) next form
    from c (inl e) = absurd (not_due p h form.subject form.labels form.yes form.goal e.0)
    from c (inr s) = (s.0, s.1, s.2, (c.0, s.3, s.4, c.3))

-- a text that ends before its proof has no reading
pub ends_early_unread : {text rest : List ℕ} (p : Progress) → ((x : List ℕ) (ls ys : _) (g : Formula) → p ≡ ProofDue x ls ys g → ⊥)
    → PassesThrough text rest (stage_of p) → (length rest == 0) ≡ true → (form : CheckForm) → IsCheckForm text form → ⊥
ends_early_unread p h t e form f = (steps_on p h t form f).1 (empty _ e)

-- nor has one with a line that may not follow
pub line_wrong_unread : {text rest line : List ℕ} (p : Progress) → ((x : List ℕ) (ls ys : _) (g : Formula) → p ≡ ProofDue x ls ys g → ⊥)
    → PassesThrough text rest (stage_of p) → line ≡ first_line rest → ((next : Stage) → Follows (stage_of p) line next → ⊥)
    → (form : CheckForm) → IsCheckForm text form → ⊥
line_wrong_unread p h t e w form f = let s = steps_on p h t form f in w s.0 (rw e s.2)

-- every reading comes through the one stage that follows
pub passes_on : {text rest line other : List ℕ} {next : Stage} (p : Progress) → ((x : List ℕ) (ls ys : _) (g : Formula) → p ≡ ProofDue x ls ys g → ⊥)
    → PassesThrough text rest (stage_of p) → line ≡ first_line rest → other ≡ after_line rest → ((o : Stage) → Follows (stage_of p) line o → o ≡ next)
    → PassesThrough text other next
passes_on p h t e o only form f =
    let s = steps_on p h t form f in
    let same = only s.0 (rw e s.2) in
    rw (o, ← same) s.3

-- where the proof is due, the form has the parts that were read, and its proof is what the rest spells
parts : {text rest x : List ℕ} {ls ys : List FormulaTree} {g : FormulaTree} → PassesThrough text rest (proof_due x ls ys g) → (form : CheckForm) → IsCheckForm text form
    → (proof_due x ls ys g ≡ proof_due form.subject form.labels form.yes form.goal) × IsProofText rest form.proof
parts {rest = rest} {x = x} {ls = ls} {ys = ys} {g = g} t form f = from (t form f) (step (t form f).2)
  where
    from : (c : Completes rest (proof_due x ls ys g) form)
        → IsStep c.0 (proof_due form.subject form.labels form.yes form.goal) rest (proof_due x ls ys g)
        → (proof_due x ls ys g ≡ proof_due form.subject form.labels form.yes form.goal) × IsProofText rest form.proof
    from c (inl e) = (e.0, rw e.1 c.3)
    from c (inr s) = absurd (proof_wrong s.2)

abbrev pub form_with : List ℕ → List FormulaTree → List FormulaTree → FormulaTree → List LineTree → CheckForm
form_with x ls ys g ps = record { subject = x; labels = ls; yes = ys; goal = g; proof = ps }

-- a form is its parts
pub same_form : {x x' : List ℕ} {ls ls' ys ys' : List FormulaTree} {g g' : FormulaTree} {ps ps' : List LineTree} → proof_due x ls ys g ≡ proof_due x' ls' ys' g' → ps ≡ ps'
    → form_with x ls ys g ps ≡ form_with x' ls' ys' g' ps'
same_form d e = cc

-- one form is read
pub proof_only : {text rest x : List ℕ} {ls ys : List FormulaTree} {g : FormulaTree} (result : Result Input AnswerError) → PassesThrough text rest (proof_due x ls ys g)
    → IfOk result (HoldsProof x ls ys g rest) → IfOk result (λ i. (ps : List LineTree) → IsProofText rest ps → ps ≡ line_trees i.proof)
    → IfOk result (λ i. (form : CheckForm) → IsCheckForm text form → form ≡ form_of i)
proof_only (Ok i) t h o = λ form f.
    let p = parts t form f in
    same_form (sym p.0 ∙ rw (h.subject_kept, h.labels_kept, h.yes_kept, h.goal_kept) refl) (o form.proof p.1)
proof_only (Err e) t h o = tt

-- where the rest is no proof's text, no form is read
pub proof_refused : {text rest x : List ℕ} {ls ys : List FormulaTree} {g : FormulaTree} (result : Result Input AnswerError) → PassesThrough text rest (proof_due x ls ys g)
    → IfErr result (λ e. e ≢ Memory → (ps : List LineTree) → IsProofText rest ps → ⊥) → IfErr result (λ e. e ≢ Memory → (form : CheckForm) → IsCheckForm text form → ⊥)
proof_refused (Ok i) t w = tt
proof_refused (Err e) t w = λ n form f. w n form.proof (parts t form f).1
