-- How the lines of an input lead from stage to stage.
use Rattle.std.proofs.Common.{◌≡◌, ◌≢◌, ◌<◌, ◌+◌, ◌==◌, inl, inr, ℕ, List, [], ◌∷◌, length, true, false, Result, Ok, Err, IfErr, refl, subst, sym, arith}
use Rattle.std.proofs.lemmas.Bool.Decides.{Decides-eqb}
use Rattle.nal_term.specs.Trees.{FormulaTree}
use Rattle.nal_term.specs.declared.formulas.Formula.{Formula}
use Rattle.answer_commands.specs.declared.check_form.Input.{Input}
use Rattle.answer_commands.specs.declared.answering.AnswerError.{AnswerError}
use Rattle.answer_commands.specs.declared.answering.AnswerError.TheVariants.{Wrong, Memory}
use Rattle.answer_commands.specs.declared.stages.Progress.{Progress}
use Rattle.answer_commands.specs.declared.stages.Progress.TheVariants.{HeaderDue, SubjectDue, LabelsDue, YesDue, ProofDue}
use Rattle.text_lines.specs.Lines.{first_line, after_line}
use Rattle.run_streams.specs.Refusals.{form_of}
use Rattle.answer_commands.specs.Answers.{IsAnswerError}
use Rattle.answer_commands.specs.Checks.{HasCheckForm}
use Rattle.run_streams.specs.Flaws.{flaw_tree}
use Rattle.input_flaws.specs.LineFlaws.{IsFlawAt}
use Rattle.answer_commands.specs.CheckForm.{CheckForm, IsCheckForm, Stage, proof_due, Follows, Reaches, next_line, IsBeforeProof, IsStuck, IsWrongAt, before_proof, formula_words, in_proof}
use Rattle.answer_commands.specs.Inner.Wrongs.{IsWrongBy}
use Rattle.answer_commands.specs.Inner.Forms.{stage_of, IsWrongProof, IsWrongLine}

-- what is wrong in the proof's text is wrong in the input
pub proof_error : {text rest x : List ℕ} {ls ys : List FormulaTree} {g : FormulaTree} {n : ℕ} (result : Result Input AnswerError)
    → Reaches text n rest (proof_due x ls ys g) → IfErr result (IsWrongProof rest n) → IfErr result (IsWrongLine text)
proof_error (Ok i) r w = w
proof_error (Err (Wrong k flaw)) r w = in_proof w.1 r w.2 w.3 w.4 w.5
proof_error (Err Memory) r w = tt

-- before the goal
before : (p : Progress) → ((x : List ℕ) (ls ys : _) (g : Formula) → p ≡ ProofDue x ls ys g → ⊥) → IsBeforeProof (stage_of p)
before HeaderDue h = tt
before SubjectDue h = tt
before (LabelsDue x ls) h = tt
before (YesDue x ls ys) h = tt
before (ProofDue x ls ys g) h = absurd (h x ls ys g refl)

no_items : (xs : List ℕ) → length xs ≡ 0 → xs ≡ []
no_items [] h = refl
no_items (x ∷ xs) h = absurd (omega arith)

pub empty : (xs : List ℕ) → (length xs == 0) ≡ true → xs ≡ []
empty xs h = no_items xs ((Decides-eqb (length xs) 0).0 h)

-- where no line may stand next, the next is wrong
stuck_wrong : {text rest : List ℕ} {n : ℕ} {stage : Stage} (error : AnswerError) → Reaches text n rest stage → IsBeforeProof stage → IsStuck stage rest
    → IsWrongBy (IsFlawAt formula_words [] text (n + 1)) (n + 1) error → IsWrongLine text error
stuck_wrong {text = text} (Wrong k flaw) r b s by = subst (λ m. IsWrongAt text m (flaw_tree flaw)) (sym by.0) (before_proof r b s by.1)
stuck_wrong Memory r b s by = tt

-- an input that ends before its proof is wrong after its last line
pub ends_early : {text rest : List ℕ} {n : ℕ} (p : Progress) (error : AnswerError) → ((x : List ℕ) (ls ys : _) (g : Formula) → p ≡ ProofDue x ls ys g → ⊥)
    → Reaches text n rest (stage_of p) → (length rest == 0) ≡ true → IsWrongBy (IsFlawAt formula_words [] text (n + 1)) (n + 1) error → IsWrongLine text error
ends_early p error h r e by = stuck_wrong error r (before p h) (inl (empty _ e)) by

-- a line that may not follow is wrong
pub line_wrong : {text rest line : List ℕ} {n : ℕ} (p : Progress) (error : AnswerError) → ((x : List ℕ) (ls ys : _) (g : Formula) → p ≡ ProofDue x ls ys g → ⊥)
    → Reaches text n rest (stage_of p) → line ≡ first_line rest → ((next : Stage) → Follows (stage_of p) line next → ⊥)
    → IsWrongBy (IsFlawAt formula_words [] text (n + 1)) (n + 1) error → IsWrongLine text error
line_wrong p error h r e w by = stuck_wrong error r (before p h) (inr (λ next f. w next (rw e f))) by

pub some_items : (xs : List ℕ) → (length xs == 0) ≡ false → xs ≡ [] → ⊥
some_items xs h q = let t = (Decides-eqb (length xs) 0).1 (rw q refl) in cc

-- a line that may follow leads on
pub line_read : {text rest line other : List ℕ} {n : ℕ} {stage next : Stage} → Reaches text n rest stage → (length rest == 0) ≡ false
    → line ≡ first_line rest → other ≡ after_line rest → Follows stage line next → Reaches text (n + 1) other next
line_read {rest = rest} {next = next} r e l o f = rw o (next_line {next = next} r (λ q. some_items rest e q) (rw (← l) f))

pub some_length : (xs : List ℕ) → (length xs == 0) ≡ false → 0 < length xs
some_length [] h = cc
some_length (x ∷ xs) h = omega arith

-- why an input was not read is why it has no answer
pub answer_error : {text : List ℕ} (error : AnswerError) → IsWrongLine text error → (error ≢ Memory → (form : CheckForm) → IsCheckForm text form → ⊥)
    → IsAnswerError (form_of HasCheckForm IsWrongAt) text error
answer_error (Wrong k flaw) wrong none = (wrong, λ has. none (λ m. cc m) has.0 has.1)
answer_error Memory wrong none = tt
