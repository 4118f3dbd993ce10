-- An input has one outcome.
use Rattle.std.proofs.Common.{◌≡◌, ◌≢◌, ◌≤◌, ◌↔◌, ◌+◌, ◌++◌, inl, inr, ℕ, List, [], ◌∷◌, length, Bool, true, false, IsTrue, refl, sym, ap, subst, ◌∙◌, arith}
use Rattle.std.specs.Prelude.{codes}
use Rattle.std.specs.Fmt.{decimal}
use Rattle.nal_term.specs.Trees.{FormulaTree}
use Rattle.proof_lines.specs.Lines.{LineTree}
use Rattle.nal_rules.specs.declared.verdicts.Verdict.{Verdict}
use Rattle.run_streams.specs.declared.refusals.InputRefusal.{InputRefusal}
use Rattle.run_streams.specs.declared.refusals.InputRefusal.TheVariants.{WrongLine, TooLarge}
use Rattle.run_streams.specs.Flaws.{FlawTree}
use Rattle.run_streams.specs.Refusals.{IsRefusal, refusal_text}
use Rattle.run_streams.specs.Runs.{most_bytes}
use Rattle.text_lines.specs.Lines.{first_line, after_line}
use Rattle.form_lines.specs.Statements.{IsGoal, IsStatement}
use Rattle.answer_commands.specs.CheckForm.{CheckForm, Stage, labels_due, yes_due, proof_due, Follows, header, subject, label, first_yes, next_yes, goal, goal_after_yes, Reaches, IsCheckForm, IsStuck, IsBeforeProof, IsLineOfError, IsLineOfSegment, IsWrongAt, before_proof, in_proof}
use Rattle.answer_commands.specs.CheckVerdicts.{AreAnswers, none, answer, case_of, IsVerdictOn}
use Rattle.answer_commands.specs.Checks.{IsChecked, check_command}
use Rattle.nal_parse.specs.Grammar.{IsFormulaText}
use Rattle.proof_text.specs.ProofText.{IsProofText, IsRefused}
use Rattle.nal_rules.specs.Verdicts.{IsVerdict}
use Rattle.nal_parse.proofs.ForCallers.{one_formula}
use Rattle.nal_rules.proofs.ForCallers.{one_verdict}
use Rattle.proof_text.proofs.ForCallers.{one_proof, one_proof_error}
use Rattle.proof_text.specs.declared.read.ProofError.{ProofError}
use Rattle.proof_text.specs.declared.read.ProofError.TheVariants.{BadHeader, BadLine, BadNumber, TooManyLines, TooLong, Formula, NoEnd, After, Memory}
use Rattle.answer_commands.specs.Laws.{OneOutcome}
use Rattle.answer_commands.proofs.Only.{Leads, there, on, from_start, same_form}
use Rattle.answer_commands.proofs.Following.{same_after_subject, same_after_label, same_after_yes, same_after_goal, label_not_yes, label_not_goal, yes_not_goal, proof_wrong}

-- no line may follow
abbrev IsLast : List ℕ → Stage → Type 0
IsLast rest stage = (next : Stage) → rest ≢ [] → Follows stage (first_line rest) next → ⊥

-- one stage follows
statements_one : {text text' : List ℕ} {f g : FormulaTree} → text ≡ text' → IsStatement text f → IsStatement text' g → f ≡ g
statements_one {text' = text'} {f = f} {g = g} e s t = one_formula text' f g (subst (λ (bytes : List ℕ). IsFormulaText bytes f) e s.spelled) t.spelled

goals_one : {text text' : List ℕ} {f g : FormulaTree} → text ≡ text' → IsGoal text f → IsGoal text' g → f ≡ g
goals_one {text' = text'} {f = f} {g = g} e s t = one_formula text' f g (subst (λ (bytes : List ℕ). IsFormulaText bytes f) e s.spelled) t.spelled

follows_one : {line : List ℕ} {stage a b : Stage} → Follows stage line a → Follows stage line b → a ≡ b
follows_one (header d) (header e) = refl
follows_one (subject d n) (subject e m) = ap (λ x. labels_due x []) (same_after_subject d e)
follows_one (label {x = x} {ls = ls} d r s) (label e q t) = ap (λ f. labels_due x (ls ++ f ∷ [])) (statements_one (same_after_label d e) s t)
follows_one (label d r s) (first_yes e t) = absurd (label_not_yes d e)
follows_one (label d r s) (goal e t) = absurd (label_not_goal d e)
follows_one (first_yes d s) (label e q t) = absurd (label_not_yes e d)
follows_one (first_yes {x = x} {ls = ls} d s) (first_yes e t) = ap (λ f. yes_due x ls (f ∷ [])) (statements_one (same_after_yes d e) s t)
follows_one (first_yes d s) (goal e t) = absurd (yes_not_goal d e)
follows_one (goal d s) (label e q t) = absurd (label_not_goal e d)
follows_one (goal d s) (first_yes e t) = absurd (yes_not_goal e d)
follows_one (goal {x = x} {ls = ls} d s) (goal e t) = ap (λ g. proof_due x ls [] g) (goals_one (same_after_goal d e) s t)
follows_one (next_yes {x = x} {ls = ls} {ys = ys} d r s) (next_yes e q t) = ap (λ f. yes_due x ls (ys ++ f ∷ [])) (statements_one (same_after_yes d e) s t)
follows_one (next_yes d r s) (goal_after_yes e t) = absurd (yes_not_goal d e)
follows_one (goal_after_yes d s) (next_yes e q t) = absurd (yes_not_goal e d)
follows_one (goal_after_yes {x = x} {ls = ls} {ys = ys} d s) (goal_after_yes e t) = ap (λ g. proof_due x ls ys g) (goals_one (same_after_goal d e) s t)

-- the lines lead to one end
ends_one : {last last' : List ℕ} {end end' : Stage} {n m : ℕ} {rest : List ℕ} {stage : Stage} → Leads last end n rest stage → IsLast last end
    → Leads last' end' m rest stage → IsLast last' end' → (n ≡ m) × (last ≡ last') × (end ≡ end')
ends_one there stop there stop' = (refl, refl, refl)
ends_one there stop (on {next = next} some f l) stop' = absurd (stop next some f)
ends_one (on {next = next} some f l) stop there stop' = absurd (stop' next some f)
ends_one {last' = last'} {end' = end'} (on {rest = rest} some f l) stop (on {n = m} some' f' l') stop' =
    let same = follows_one f' f in
    let h = ends_one l stop (subst (λ stage. Leads last' end' m (after_line rest) stage) same l') stop' in
    (ap (λ k. k + 1) h.0, h.1, h.2)

proof_is_last : {rest x : List ℕ} {ls ys : List FormulaTree} {g : FormulaTree} → IsLast rest (proof_due x ls ys g)
proof_is_last next some f = proof_wrong f

stuck_is_last : {rest : List ℕ} {stage : Stage} → IsStuck stage rest → IsLast rest stage
stuck_is_last (inl e) next some f = some e
stuck_is_last (inr stuck) next some f = stuck next f

-- two readings of the beginning of a text that go as far as they can are one
readings_one : {text rest rest' : List ℕ} {stage stage' : Stage} {k j : ℕ} → Reaches text k rest stage → IsLast rest stage → Reaches text j rest' stage' → IsLast rest' stage'
    → (k ≡ j) × (rest ≡ rest') × (stage ≡ stage')
readings_one r stop r' stop' =
    let a = from_start r there in
    let b = from_start r' there in
    let e = ends_one a.2 stop b.2 stop' in
    (omega (arith, a.1, b.1, e.0), e.1, e.2)

-- an input has one form
forms_one : {text : List ℕ} (a b : CheckForm) → IsCheckForm text a → IsCheckForm text b → a ≡ b
forms_one a b f g =
    let e = readings_one f.2 proof_is_last g.2 proof_is_last in
    same_form e.2 (one_proof g.1 a.proof b.proof (subst (λ (rest : List ℕ). IsProofText rest a.proof) e.1 f.3) g.3)

-- a segment begins on one line, and an error is named by one
segment_line_one : (text : List ℕ) (n j k : ℕ) → IsLineOfSegment text n j → IsLineOfSegment text n k → j ≡ k
segment_line_one text n j k (inl a) (inl b) = a.1 ∙ sym b.1
segment_line_one text n j k (inl a) (inr b) = absurd (omega (arith, a.0, b.0))
segment_line_one text n j k (inr a) (inl b) = absurd (omega (arith, a.0, b.0))
segment_line_one text n j k (inr a) (inr b) = a.1 ∙ sym b.1

error_line_one : (text : List ℕ) (error : ProofError) (j k : ℕ) → IsLineOfError text error j → IsLineOfError text error k → j ≡ k
error_line_one text BadHeader j k a b = a ∙ sym b
error_line_one text TooLong j k a b = a ∙ sym b
error_line_one text (BadLine n) j k a b = segment_line_one text n j k a b
error_line_one text (BadNumber n) j k a b = segment_line_one text n j k a b
error_line_one text TooManyLines j k a b = segment_line_one text 257 j k a b
error_line_one text (Formula n e) j k a b = segment_line_one text n j k a b
error_line_one text NoEnd j k a b = a ∙ sym b
error_line_one text After j k a b = segment_line_one text _ j k a b
error_line_one text Memory j k a b = absurd a

wrong_line_one : (text : List ℕ) (a b : ProofError) (j k : ℕ) → IsRefused text a → IsLineOfError text a j → IsRefused text b → IsLineOfError text b k → j ≡ k
wrong_line_one text a b j k r l s m = error_line_one text a j k l (rw (← one_proof_error text a b r s) at m)

-- an input is wrong in one line
wrong_one : {text : List ℕ} {k j : ℕ} {flaw other : FlawTree} → IsWrongAt text k flaw → IsWrongAt text j other → k ≡ j
wrong_one (before_proof r b s f) (before_proof r' b' s' f') = ap (λ n. n + 1) (readings_one r (stuck_is_last s) r' (stuck_is_last s')).0
wrong_one (before_proof r b s f) (in_proof j r' w l e f') = absurd (subst IsBeforeProof (readings_one r (stuck_is_last s) r' proof_is_last).2 b)
wrong_one (in_proof j r w l e f) (before_proof r' b' s' f') = absurd (subst IsBeforeProof (sym (readings_one r proof_is_last r' (stuck_is_last s')).2) b')
wrong_one (in_proof j {rest = rest} {error = error} r w l e f) (in_proof i {rest = rest'} {error = error'} r' w' l' e' f') =
    let h = readings_one r proof_is_last r' proof_is_last in
    let same : j ≡ i = wrong_line_one rest' error error' j i (subst (λ bytes. IsRefused bytes error) h.1 w) (subst (λ bytes. IsLineOfError bytes error j) h.1 l) w' l' in
    omega (arith, e, e', h.0, same)

-- the ask lines have one list of answers
bools_one : {P : Type 0} (a b : Bool) → IsTrue a ↔ P → IsTrue b ↔ P → a ≡ b
bools_one true true p q = refl
bools_one false false p q = refl
bools_one true false p q = let t = q.1 (p.0 refl) in cc
bools_one false true p q = let t = p.1 (q.0 refl) in cc

answers_one : {yes : List FormulaTree} {ls : List LineTree} {bs cs : List Bool} → AreAnswers yes ls bs → AreAnswers yes ls cs → bs ≡ cs
answers_one none none = refl
answers_one (answer {b = a} p h) (answer {b = b} q i) = rw (bools_one a b p q, answers_one h i) refl

verdicts_one : (form : CheckForm) (v w : Verdict) → IsVerdictOn form v → IsVerdictOn form w → v ≡ w
verdicts_one form v w a b = one_verdict _ _ v w a.2 (subst (λ answers. IsVerdict (case_of form) answers w) (answers_one b.1 a.1) b.2)

same_verdict : (text : List ℕ) (a b : Verdict) → IsChecked text a → IsChecked text b → a ≡ b
same_verdict text a b o p =
    let same = forms_one o.0 p.0 o.1 p.1 in
    verdicts_one p.0 a b (subst (λ form. IsVerdictOn form a) same o.2) p.2

same_refusal : (text : List ℕ) (a b : InputRefusal) → IsRefusal check_command.form text a → IsRefusal check_command.form text b → refusal_text a ≡ refusal_text b
same_refusal text TooLarge TooLarge o p = refl
same_refusal text TooLarge (WrongLine k flaw) o p = absurd (omega (arith, o, p.0))
same_refusal text (WrongLine k flaw) TooLarge o p = absurd (omega (arith, p, o.0))
same_refusal text (WrongLine k flaw) (WrongLine j other) o p = ap (λ (n : ℕ). codes "refused line " ++ decimal n ++ 10 ∷ []) (wrong_one o.1 p.1)

never_both : (text : List ℕ) (refusal : InputRefusal) (verdict : Verdict) → length text ≤ most_bytes → IsRefusal check_command.form text refusal → ¬ IsChecked text verdict
never_both text TooLarge verdict small r is = omega (arith, small, r)
never_both text (WrongLine k flaw) verdict small r is = r.2 (is.0, is.1)

-- an input has one outcome
pub one_outcome : OneOutcome
one_outcome = record {
  one_verdict = same_verdict;
  one_refusal = same_refusal;
  not_both = never_both;
}
