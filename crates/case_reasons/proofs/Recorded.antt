-- The record of an explained call.
use Rattle.std.proofs.Common.{◌≡◌, ◌++◌, ℕ, zero, suc, List, [], ◌∷◌, length, filter, take, Bool, false, Option, Some, None, refl, sym, ap, subst, ◌∙◌, length-append, arith}
use Rattle.std.specs.Prelude.{◌↔◌}
use Rattle.nal_term.specs.Trees.{TermTree, FormulaTree}
use Rattle.proof_lines.specs.Lines.{LineTree}
use Rattle.nal_rules.proofs.ForCallers.{one_verdict}
use Rattle.nal_rules.specs.Asking.{Asked, IsAsked, ask_first, asks_for, lines_of}
use Rattle.nal_rules.specs.Faults.{is_ask}
use Rattle.nal_rules.specs.Verdicts.{CaseTree, IsVerdict}
use Rattle.nal_rules.specs.declared.verdicts.Verdict.{Verdict}
use Rattle.object_table.specs.Objects.{number_of}
use Rattle.policy_history.specs.declared.heads.Head.{Head}
use Rattle.policy_history.specs.Events.{EntryTree}
use Rattle.policy_history.specs.Judged.{case_at}
use Rattle.policy_history.specs.Machine.{replay}
use Rattle.policy_history.specs.States.{State}
use Rattle.audit_check.proofs.ForCallers.{all_say, asked_refused}
use Rattle.audit_check.specs.declared.records.Answers.{Answers}
use Rattle.audit_check.specs.declared.records.Answers.TheVariants.{Known as GivenAnswers}
use Rattle.audit_check.specs.declared.records.Record.{Record}
use Rattle.audit_check.specs.declared.records.Recorded.{Recorded}
use Rattle.audit_check.specs.declared.records.Recorded.TheVariants.{NoObject as NoSuchObject, Told, Down}
use Rattle.audit_check.specs.Records.{IsDown, IsRightOf, IsRightOn, yes_before}
use Rattle.case_reasons.specs.declared.explanations.Explained.{Explained}
use Rattle.case_reasons.specs.declared.explanations.Explained.TheVariants.{NoObject, Known}
use Rattle.case_reasons.specs.Explanations.{IsExplained}
use Rattle.case_reasons.specs.Laws.{AreAsked, ExplainedAreRecorded, recorded_of}

told_same : {v w : Verdict} → Told v ≡ Told w → v ≡ w
told_same e = cc

-- an answer that is missing is No
first_same : (bound : List (TermTree × ℕ)) (f : FormulaTree) (affirmed : Bool) (later more : List Asked) → later ≡ more → ask_first bound f affirmed later ≡ ask_first bound f affirmed more
first_same bound f affirmed later more same = ap (ask_first bound f affirmed) same

missing_same : (bound : List (TermTree × ℕ)) (ls : List LineTree) (ys : List Bool) → asks_for bound ls (ys ++ false ∷ []) ≡ asks_for bound ls ys
missing_same bound [] ys = refl
missing_same bound (l ∷ ls) [] = refl
missing_same bound (l ∷ ls) (y ∷ ys) = first_same bound l.formula y (asks_for bound ls (ys ++ false ∷ [])) (asks_for bound ls ys) (missing_same bound ls ys)

module _ (c : CaseTree) (answers : List Bool) (asks : List Asked) (asked : IsAsked c answers asks) (count : length asks ≡ length answers) where
  -- where just as many answers are given as are asked for, no authority was down
  never_down : (k : ℕ) → ¬ IsDown c (GivenAnswers answers) k
  never_down zero d = cc d.ask_line.1
  never_down (suc i) d =
      let ls = lines_of c in
      let before = yes_before ls (suc i) in
      let all : asks ≡ asks_for c.bound (filter is_ask ls) answers = asked.1 d.undecided in
      let more : length (asks_for c.bound (filter is_ask ls) (before ++ false ∷ [])) ≡ length (before ++ false ∷ []) = asked_refused c.bound ls i (all_say c d.undecided) d.ask_line in
      let same : length (asks_for c.bound (filter is_ask ls) (before ++ false ∷ [])) ≡ length asks =
      ap length (missing_same c.bound (filter is_ask ls) before) ∙ ap (λ (ys : List Bool). length (asks_for c.bound (filter is_ask ls) ys)) (sym d.before) ∙ ap length (sym all) in
      let long = length-append before (false ∷ []) in
      let few : length answers ≡ length before = ap length d.before in
      absurd (omega (arith, more, same, count, long, few))

  -- what is right of the case is its verdict
  right_told : (verdict : Verdict) → IsVerdict c answers verdict → (v : Recorded) → IsRightOf c (GivenAnswers answers) v ↔ (v ≡ Told verdict)
  right_told verdict told NoSuchObject = ((λ right. absurd right), λ same. absurd (cc same))
  right_told verdict told (Down k) = ((λ right. absurd (never_down k right)), λ same. absurd (cc same))
  right_told verdict told (Told v) = (
    (λ right. ap Told (one_verdict c answers v verdict (subst (λ (ys : List Bool). IsVerdict c ys v) (sym right.1) right.2.told) told)),
    λ same. (answers, refl, record { asks = asks; asked = asked; all = count; told = subst (IsVerdict c answers) (sym (told_same same)) told }),
  )

-- what is right of a record is so by its parts
right_by_parts : (h : Head) (s : State) (p : ℕ) (op object : List ℕ) (answers : Answers) (n : Option ℕ) (r : Record) → r.principal ≡ p → r.op ≡ op → r.answers ≡ answers
    → (number : ℕ) → n ≡ Some number → IsRightOn h s r n ↔ IsRightOf (case_at h s p op number) answers r.verdict
right_by_parts h s p op object answers n r who which given number is = rw (is, ← who, ← which, ← given) ((λ right. right), λ right. right)

pub explained_are_recorded : ExplainedAreRecorded
explained_are_recorded h all point p op object answers x r explained of asked = rw (of.at, of.object_is) (by x explained (number_of (replay h es).objects object) refl asked)
  where
    es : List EntryTree
    es = take point all

    by : (x : Explained) → IsExplained h es p op object answers x → (n : Option ℕ) → number_of (replay h es).objects object ≡ n → AreAsked h es p op answers n
        → IsRightOn h (replay h es) r (number_of (replay h es).objects object) ↔ (r.verdict ≡ recorded_of x)
    by NoObject none (Some number) is asked = absurd (cc (sym none ∙ is))
    by NoObject none None is asked = rw (is, of.answers_are) ((λ right. right.0), λ same. (same, asked))
    by (Known e) (number, there, explanation) None is asked = absurd (cc (sym there ∙ is))
    by (Known e) (number, there, explanation) (Some m) is asked =
        let same : m ≡ number = cc (sym is ∙ there) in
        let here : (asks : List Asked) × IsAsked (case_at h (replay h es) p op number) answers asks × (length asks ≡ length answers) =
        subst (λ (j : ℕ). (asks : List Asked) × IsAsked (case_at h (replay h es) p op j) answers asks × (length asks ≡ length answers)) same asked in
        let parts = right_by_parts h (replay h es) p op object (GivenAnswers answers) (number_of (replay h es).objects object) r of.principal of.op_is of.answers_are number there in
        let told = right_told (case_at h (replay h es) p op number) answers here.0 here.1 here.2 e.verdict explanation.verdict r.verdict in
        ((λ right. told.0 (parts.0 right)), λ is. parts.1 (told.1 is))
