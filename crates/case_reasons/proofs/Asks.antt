-- What an ask line was answered, by the verdict on its case.
use Rattle.std.proofs.Common.{◌≡◌, ◌<◌, ◌≤◌, ⊎_elim, ℕ, zero, suc, List, [], ◌∷◌, length, filter, Bool, true, false, nat_eq, nat_lt, Option, Some, None, refl, sym, ap, subst, ◌∙◌, arith}
use Rattle.std.specs.Cmp.{unsigned_Decides}
use Rattle.std.specs.List.{slice_get}
use Rattle.std.specs.Prelude.{unwrap_or}
use Rattle.std.proofs.lemmas.Bool.{cases_lt, ltb-true, ltb-false}
use Rattle.nal_term.specs.Trees.{TermTree, FormulaTree, says}
use Rattle.proof_lines.specs.declared.rules.Rule.TheVariants.{Ask}
use Rattle.proof_lines.specs.Lines.{LineTree}
use Rattle.nal_rules.specs.Asking.{Asked, IsAsked, IsDecided, asks_for, lines_of, next_answer}
use Rattle.nal_rules.specs.Faults.{IsSays, is_ask, line_at}
use Rattle.nal_rules.specs.Verdicts.{CaseTree, IsAnsweredNo, IsLowest, IsVerdict, ask_place, cause_number}
use Rattle.nal_rules.proofs.ForCallers.{none_at_all}
use Rattle.nal_rules.specs.declared.verdicts.Cause.{Cause}
use Rattle.nal_rules.specs.declared.verdicts.Cause.TheVariants.{GoalUnset, NoProof, Line, LabelMissing, NotBound, AuthorityNo}
use Rattle.nal_rules.specs.declared.verdicts.Verdict.{Verdict}
use Rattle.nal_rules.specs.declared.verdicts.Verdict.TheVariants.{Allowed, Denied}
use Rattle.case_verdict.proofs.ForCallers.{unaffected}
use Rattle.audit_check.proofs.ForCallers.{AllSay, ask_passes, asked_no, asked_none, asked_yes, all_say, first_no, first_other, first_yes, past, say_later, shift, unpast, unshift}
use Rattle.case_reasons.specs.LineReasons.{IsAnswered, IsNotAsked, port_for}
use Rattle.case_reasons.specs.Inner.Answered.{answer_before, answer_by}

abbrev is_yes : Option Bool → Bool
is_yes None = false
is_yes (Some b) = b

next_is : (ys : List Bool) → next_answer ys ≡ is_yes (slice_get ys 0)
next_is [] = refl
next_is (y ∷ ys) = refl

-- an ask in the list, with this answer
abbrev Stands : List Asked → ℕ → Bool → Type 0
Stands asks place affirmative = (a : Asked) × (slice_get asks place ≡ Some a) × (a.affirmed ≡ affirmative)

module _ (bound : List (TermTree × ℕ)) where
  -- the first statement
  first_stands : (f : FormulaTree) (l : LineTree) (ls : List LineTree) (ys : List Bool) → l.formula ≡ f → IsSays f → Stands (asks_for bound (l ∷ ls) ys) 0 (is_yes (slice_get ys 0))
  first_stands (says p s) l ls ys is say = rw is (record { port = _; statement = s; affirmed = next_answer ys }, refl, next_is ys)
  first_stands _ l ls ys is say = absurd (cc say.2)

  -- a line before which each is answered Yes is asked
  answered_at : (ls : List LineTree) (ys : List Bool) (i : ℕ) (l : LineTree) → AllSay ls → slice_get ls i ≡ Some l → is_ask l ≡ true → ((j : ℕ) → j < suc i → ¬ IsAnsweredNo ls ys j)
      → Stands (asks_for bound (filter is_ask ls) ys) (ask_place ls (suc i)) (is_yes (slice_get ys (ask_place ls (suc i))))
  answered_at [] ys i l say here asks before = absurd (cc here)
  answered_at (x ∷ ls) ys zero l say here asks before =
      let same : x ≡ l = cc here in
      let e : is_ask x ≡ true = ap is_ask same ∙ asks in
      rw e (first_stands x.formula x (filter is_ask ls) ys refl (say.each 0 x refl e))
  answered_at (x ∷ ls) ys (suc i) l say here asks before = of (is_ask x) refl ys before (λ zs. answered_at ls zs i l (say_later x ls say) here asks)
    where
      of : (b : Bool) → is_ask x ≡ b → (ys : List Bool) → ((j : ℕ) → j < suc (suc i) → ¬ IsAnsweredNo (x ∷ ls) ys j)
          → ((zs : List Bool) → ((j : ℕ) → j < suc i → ¬ IsAnsweredNo ls zs j) → Stands (asks_for bound (filter is_ask ls) zs) (ask_place ls (suc i)) (is_yes (slice_get zs (ask_place ls (suc i)))))
          → Stands (asks_for bound (filter is_ask (x ∷ ls)) ys) (ask_place (x ∷ ls) (suc (suc i))) (is_yes (slice_get ys (ask_place (x ∷ ls) (suc (suc i)))))
      of false e ys before rest = rw e (rest ys later)
        where
          later : (j : ℕ) → j < suc i → ¬ IsAnsweredNo ls ys j
          later zero h n = cc n.1
          later (suc j) h n = before (suc (suc j)) (omega (arith, h)) (past x ls ys j e n)
      of true e [] before rest = absurd (before 1 (omega arith) (first_no x ls [] e (λ q. cc q)))
      of true e (false ∷ ys) before rest = absurd (before 1 (omega arith) (first_no x ls (false ∷ ys) e (λ q. cc q)))
      of true e (true ∷ ys) before rest = rw e (behind x.formula refl (say.each 0 x refl e))
        where
          later : (j : ℕ) → j < suc i → ¬ IsAnsweredNo ls ys j
          later zero h n = cc n.1
          later (suc j) h n = before (suc (suc j)) (omega (arith, h)) (shift x ls true ys j e n)

          behind : (f : FormulaTree) → x.formula ≡ f → IsSays f → Stands (asks_for bound (x ∷ filter is_ask ls) (true ∷ ys)) (suc (ask_place ls (suc i))) (is_yes (slice_get ys (ask_place ls (suc i))))
          behind (says p s) is said = rw is (rest ys later)
          behind _ is said = absurd (cc said.2)

  -- a line behind one that is answered No is not
  not_asked_at : (ls : List LineTree) (ys : List Bool) (i r : ℕ) (l : LineTree) → AllSay ls → slice_get ls i ≡ Some l → IsAnsweredNo ls ys (suc r) → r < i → length (asks_for bound (filter is_ask ls) ys) ≤ ask_place ls (suc i)
  not_asked_at [] ys i r l say here refused before = absurd (cc here)
  not_asked_at (x ∷ ls) ys zero r l say here refused before = absurd (omega (arith, before))
  not_asked_at (x ∷ ls) ys (suc i) r l say here refused before = of (is_ask x) refl ys r refused before (λ zs q. not_asked_at ls zs i q l (say_later x ls say) here)
    where
      of : (b : Bool) → is_ask x ≡ b → (ys : List Bool) (r : ℕ) → IsAnsweredNo (x ∷ ls) ys (suc r) → r < suc i
          → ((zs : List Bool) (q : ℕ) → IsAnsweredNo ls zs (suc q) → q < i → length (asks_for bound (filter is_ask ls) zs) ≤ ask_place ls (suc i))
          → length (asks_for bound (filter is_ask (x ∷ ls)) ys) ≤ ask_place (x ∷ ls) (suc (suc i))
      of false e ys zero refused before rest = absurd (first_other x ls ys e refused)
      of false e ys (suc r) refused before rest = rw e (rest ys r (unpast x ls ys r e refused) (omega (arith, before)))
      of true e [] r refused before rest = let one = asked_none bound x ls say e in let more = counted in omega (arith, one, more)
        where
          counted : 1 ≤ ask_place (x ∷ ls) (suc (suc i))
          counted = rw e (omega arith)
      of true e (false ∷ ys) r refused before rest = let one = asked_no bound x ls ys say e in let more = counted in omega (arith, one, more)
        where
          counted : 1 ≤ ask_place (x ∷ ls) (suc (suc i))
          counted = rw e (omega arith)
      of true e (true ∷ ys) zero refused before rest = absurd (first_yes x ls ys refused)
      of true e (true ∷ ys) (suc r) refused before rest =
          let one = asked_yes bound x ls ys say e in
          let later = rest ys r (unshift x ls true ys r e refused) (omega (arith, before)) in
          let more = counted in
          omega (arith, one, later, more)
        where
          counted : ask_place (x ∷ ls) (suc (suc i)) ≡ suc (ask_place ls (suc i))
          counted = rw e refl

yes_where : (o : Option Bool) → ((o ≡ Some true → ⊥) → ⊥) → is_yes o ≡ true
yes_where None n = absurd (n (λ q. cc q))
yes_where (Some true) n = refl
yes_where (Some false) n = absurd (n (λ q. cc q))

no_where : (o : Option Bool) → (o ≡ Some true → ⊥) → is_yes o ≡ false
no_where None n = refl
no_where (Some true) n = absurd (n refl)
no_where (Some false) n = refl

same_some : {A : Type 0} {p q : A} → Some p ≡ Some q → p ≡ q
same_some s = cc

-- a case that is not decided has a proof
has_proof : (c : CaseTree) → (IsDecided c → ⊥) → c.proof ≡ Some (lines_of c)
has_proof c undecided = of c.proof refl
  where
    of : (o : Option (List LineTree)) → c.proof ≡ o → c.proof ≡ Some (lines_of c)
    of None e = absurd (undecided (NoProof, omega arith, λ ls is. absurd (cc (is, e))))
    of (Some ls) e = e ∙ ap Some (sym (ap (λ (p : Option (List LineTree)). unwrap_or p []) e))

-- what denies a case whatever is answered decides it
pub decides : (c : CaseTree) (answers : List Bool) (cause : Cause) → cause_number cause < 6 → IsVerdict c answers (Denied cause) → IsDecided c
decides c answers cause low told = (cause, low, unaffected c answers [] cause low told.0)

module _ (c : CaseTree) (answers : List Bool) (k : ℕ) (l : LineTree) (port : ℕ) (here : line_at (lines_of c) k ≡ Some l) (ask : l.rule ≡ Ask) (bound : port_for c l.formula ≡ Some port) where
  -- what is told of the line, by the answer that the verdict tells of
  abbrev pub IsToldOf : Option Bool → Type 0
  IsToldOf (Some affirmative) = IsAnswered c answers (lines_of c) k l port affirmative
  IsToldOf None = IsNotAsked c answers (lines_of c) k l port

  -- nothing is asked of a case that is decided
  none_asked : IsDecided c → IsNotAsked c answers (lines_of c) k l port
  none_asked decided = record { ask = ask; bound = bound; asks = []; asked = ((λ d. refl), λ undecided. absurd (undecided decided)); place = omega arith }

  module _ (undecided : IsDecided c → ⊥) where
    abbrev asks_are : List Asked
    asks_are = asks_for c.bound (filter is_ask (lines_of c)) answers

    asked_are : IsAsked c answers asks_are
    asked_are = ((λ d. absurd (undecided d)), λ u. refl)

    answered_here : ((j : ℕ) → j < k → ¬ IsAnsweredNo (lines_of c) answers j) → (affirmative : Bool) → is_yes (slice_get answers (ask_place (lines_of c) k)) ≡ affirmative → IsAnswered c answers (lines_of c) k l port affirmative
    answered_here before affirmative is = of k here before is
      where
        of : (k : ℕ) → line_at (lines_of c) k ≡ Some l → ((j : ℕ) → j < k → ¬ IsAnsweredNo (lines_of c) answers j) → is_yes (slice_get answers (ask_place (lines_of c) k)) ≡ affirmative → IsAnswered c answers (lines_of c) k l port affirmative
        of zero at before is = absurd (cc at)
        of (suc i) at before is =
            let a = answered_at c.bound (lines_of c) answers i l (all_say c undecided) at (ask_passes l ask) before in
            record { ask = ask; bound = bound; asks = asks_are; asked = asked_are; ask_line = a.0; place = a.1; answered = a.2 ∙ is }

    affirmed_here : ((j : ℕ) → j < k → ¬ IsAnsweredNo (lines_of c) answers j) → ¬ IsAnsweredNo (lines_of c) answers k → IsAnswered c answers (lines_of c) k l port true
    affirmed_here before unrefused = answered_here before true (yes_where (slice_get answers (ask_place (lines_of c) k)) (λ refused. unrefused (l, here, ask, refused)))

    refused_here : IsLowest (IsAnsweredNo (lines_of c) answers) k → IsAnswered c answers (lines_of c) k l port false
    refused_here lowest =
        answered_here lowest.1 false (no_where (slice_get answers (ask_place (lines_of c) k)) lowest.0.3)

    behind_here : (r : ℕ) → IsAnsweredNo (lines_of c) answers r → r < k → IsNotAsked c answers (lines_of c) k l port
    behind_here r refused before = of k here r refused before
      where
        of : (k : ℕ) → line_at (lines_of c) k ≡ Some l → (r : ℕ) → IsAnsweredNo (lines_of c) answers r → r < k → IsNotAsked c answers (lines_of c) k l port
        of zero at r refused before = absurd (cc at)
        of (suc i) at zero refused before = absurd (cc refused.1)
        of (suc i) at (suc r) refused before =
            record { ask = ask; bound = bound; asks = asks_are; asked = asked_are; place = not_asked_at c.bound (lines_of c) answers i r l (all_say c undecided) at refused (omega (arith, before)) }

  pub told_by : (v : Verdict) → IsVerdict c answers v → IsToldOf (answer_by v k)
  told_by Allowed told = affirmed_here undecided (λ j below. none j) (none k)
    where
      undecided : IsDecided c → ⊥
      undecided d = told d.0 (unaffected c [] answers d.0 d.1 d.2)

      none : (j : ℕ) → ¬ IsAnsweredNo (lines_of c) answers j
      none = none_at_all (IsAnsweredNo (lines_of c) answers) (λ j lowest. told (AuthorityNo j) (lines_of c, has_proof c undecided, lowest))
  told_by (Denied (AuthorityNo r)) told = of (nat_lt k r) refl (nat_eq k r) refl
    where
      undecided : IsDecided c → ⊥
      undecided d = told.1 d.0 d.1 (unaffected c [] answers d.0 d.1 d.2)

      lowest : IsLowest (IsAnsweredNo (lines_of c) answers) r
      lowest =
          let same : told.0.0 ≡ lines_of c = same_some (sym told.0.1 ∙ has_proof c undecided) in
          subst (λ (ls : List LineTree). IsLowest (IsAnsweredNo ls answers) r) same told.0.2

      of : (b : Bool) → nat_lt k r ≡ b → (d : Bool) → nat_eq k r ≡ d → IsToldOf (answer_before r k)
      of true e d f =
          let below : k < r = ltb-true k r e in
          rw e (affirmed_here undecided (λ j h. lowest.1 j (omega (arith, h, below))) (lowest.1 k below))
      of false e true f =
          let same : k ≡ r = (unsigned_Decides k r).0 f in
          rw (e, f) (refused_here undecided (subst (IsLowest (IsAnsweredNo (lines_of c) answers)) (sym same) lowest))
      of false e false f =
          let high : r ≤ k = ltb-false k r e in
          let apart : k ≡ r → ⊥ = λ same. cc (sym f ∙ (unsigned_Decides k r).1 same) in
          rw (e, f) (behind_here undecided r lowest.0 (⊎_elim (λ (below : r < k). below) (λ (other : k ≤ r). absurd (apart (omega (arith, high, other)))) (cases_lt r k)))
  told_by (Denied GoalUnset) told = none_asked (decides c answers GoalUnset (omega arith) told)
  told_by (Denied NoProof) told = none_asked (decides c answers NoProof (omega arith) told)
  told_by (Denied (Line j fault)) told = none_asked (decides c answers (Line j fault) (omega arith) told)
  told_by (Denied (LabelMissing j)) told = none_asked (decides c answers (LabelMissing j) (omega arith) told)
  told_by (Denied (NotBound j)) told = none_asked (decides c answers (NotBound j) (omega arith) told)
