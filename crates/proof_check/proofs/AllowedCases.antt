-- The law of allowed cases.
use Rattle.std.proofs.Common.{◌≡◌, ◌<◌, ℕ, zero, suc, Bool, true, false, List, [], ◌∷◌, length, filter, take, Option, Some, None, unwrap_or, refl, sym, ap, ◌∙◌, subst, arith}
use Rattle.std.specs.List.{All, Contains, slice_get}
use Rattle.std.proofs.lemmas.List.Elements.{All-nil, All-cons}
use Rattle.nal_term.specs.Trees.{TermTree, FormulaTree, says}
use Rattle.proof_lines.specs.declared.rules.Rule.{Rule}
use Rattle.proof_lines.specs.declared.rules.Rule.TheVariants.{Label, Ask}
use Rattle.proof_lines.specs.Lines.{LineTree}
use Rattle.nal_rules.proofs.ForCallers.{none_at_all, not_out, weakened}
use Rattle.nal_rules.specs.Asking.{Asked, IsDecided, ask_first, asks_for, lines_of, port_in}
use Rattle.nal_rules.specs.Faults.{Applies, HasLowestFault, IsFaultless, fault_number, formulas_where, is_ask, is_label, line_at}
use Rattle.nal_rules.specs.Verdicts.{CaseTree, IsAnsweredNo, IsMissingLabel, IsVerdict}
use Rattle.nal_rules.specs.declared.verdicts.Fault.{Fault}
use Rattle.nal_rules.specs.declared.verdicts.Cause.TheVariants.{GoalUnset, NoProof, Line, LabelMissing, NotBound, AuthorityNo}
use Rattle.nal_rules.specs.declared.verdicts.Verdict.TheVariants.{Allowed}
use Rattle.proof_check.proofs.Faultless.{faultless_goal}
use Rattle.proof_check.specs.Laws.{AllowedCasesDerive}

module _ (ls : List LineTree) (goal : FormulaTree) (never : (k : ℕ) (fault : Fault) → HasLowestFault ls goal k fault → ⊥) where
  -- where no line has the lowest fault, none has any
  no_fault : (k : ℕ) → ((j : ℕ) → j < k → IsFaultless ls goal j) → (l : LineTree) → line_at ls k ≡ Some l → (n : ℕ) (fault : Fault) → fault_number fault < n → Applies ls goal k l fault → ⊥
  no_fault k earlier l at zero fault low applies = absurd (omega (arith, low))
  no_fault k earlier l at (suc n) fault low applies =
      never k fault record {
        faulty = record { line = l; stands = at; applies = applies; first = λ other lower there. no_fault k earlier l at n other (omega (arith, low, lower)) there };
        lowest = earlier;
      }

  none_before : (n k : ℕ) → k < n → IsFaultless ls goal k
  none_before zero k below = absurd (omega (arith, below))
  none_before (suc n) k below = λ l at fault applies. no_fault k (λ j lower. none_before n j (omega (arith, below, lower))) l at (suc (fault_number fault)) fault (omega arith) applies

  all_faultless : (k : ℕ) → IsFaultless ls goal k
  all_faultless k = none_before (suc k) k (omega arith)

-- the formula of a line that passes is one of a line's
where_from : (passes : LineTree → Bool) (ls : List LineTree) (f : FormulaTree) → Contains (formulas_where passes ls) f → (i : ℕ) × (l : LineTree) × (slice_get ls i ≡ Some l) × (passes l ≡ true) × (l.formula ≡ f)
where_from passes [] f (i, within, read) = absurd (omega (arith, within))
where_from passes (x ∷ ls) f there = of (passes x) refl (where_from passes ls f)
  where
    later : (i : ℕ) × (l : LineTree) × (slice_get ls i ≡ Some l) × (passes l ≡ true) × (l.formula ≡ f) → (i : ℕ) × (l : LineTree) × (slice_get (x ∷ ls) i ≡ Some l) × (passes l ≡ true) × (l.formula ≡ f)
    later (i, l, at, p, is) = (suc i, l, at, p, is)

    first : passes x ≡ true → Contains (x.formula ∷ formulas_where passes ls) f → (Contains (formulas_where passes ls) f → (i : ℕ) × (l : LineTree) × (slice_get ls i ≡ Some l) × (passes l ≡ true) × (l.formula ≡ f))
        → (i : ℕ) × (l : LineTree) × (slice_get (x ∷ ls) i ≡ Some l) × (passes l ≡ true) × (l.formula ≡ f)
    first e (zero, within, read) rest = (zero, x, refl, e, read)
    first e (suc i, within, read) rest = later (rest (i, omega (arith, within), read))

    of : (b : Bool) → passes x ≡ b → (Contains (formulas_where passes ls) f → (i : ℕ) × (l : LineTree) × (slice_get ls i ≡ Some l) × (passes l ≡ true) × (l.formula ≡ f))
        → (i : ℕ) × (l : LineTree) × (slice_get (x ∷ ls) i ≡ Some l) × (passes l ≡ true) × (l.formula ≡ f)
    of true e rest = first e (rw e at there) rest
    of false e rest = later (rest (rw e at there))

-- a line of a filtered list stands in the whole one, behind as many that pass
unfiltered : (passes : LineTree → Bool) (ls : List LineTree) (i : ℕ) (l : LineTree) → slice_get (filter passes ls) i ≡ Some l → (k : ℕ) × (slice_get ls k ≡ Some l) × (passes l ≡ true) × (length (filter passes (take k ls)) ≡ i)
unfiltered passes [] i l at = absurd (cc at)
unfiltered passes (x ∷ ls) i l at = of (passes x) refl i at (λ j read. unfiltered passes ls j l read)
  where
    of : (b : Bool) → passes x ≡ b → (i : ℕ) → slice_get (filter passes (x ∷ ls)) i ≡ Some l
        → ((j : ℕ) → slice_get (filter passes ls) j ≡ Some l → (k : ℕ) × (slice_get ls k ≡ Some l) × (passes l ≡ true) × (length (filter passes (take k ls)) ≡ j))
        → (k : ℕ) × (slice_get (x ∷ ls) k ≡ Some l) × (passes l ≡ true) × (length (filter passes (take k (x ∷ ls))) ≡ i)
    of true e zero read rest = let h = rw e at read in let same : x ≡ l = cc h in (zero, ap Some same, ap passes (sym same) ∙ e, refl)
    of true e (suc i) read rest = let r = rest i (rw e at read) in (suc r.0, r.1, r.2, rw e (ap suc r.3))
    of false e i read rest = let r = rest i (rw e at read) in (suc r.0, r.1, r.2, rw e r.3)

label_rule : (r : Rule) (l : LineTree) → l.rule ≡ r → is_label l ≡ true → r ≡ Label
label_rule Label l e is = refl
label_rule _ l e is = absurd (cc (rw e at is))

ask_rule : (r : Rule) (l : LineTree) → l.rule ≡ r → is_ask l ≡ true → r ≡ Ask
ask_rule Ask l e is = refl
ask_rule _ l e is = absurd (cc (rw e at is))

-- where each ask line was answered Yes, all that was asked was
all_affirmed : (bound : List (TermTree × ℕ)) (ls : List LineTree) (answers : List Bool) → ((i : ℕ) (l : LineTree) → slice_get ls i ≡ Some l → slice_get answers i ≡ Some true) → All (λ (a : Asked). a.affirmed ≡ true) (asks_for bound ls answers)
all_affirmed bound [] answers each = All-nil (λ (a : Asked). a.affirmed ≡ true)
all_affirmed bound (l ∷ ls) [] each = absurd (cc (each 0 l refl))
all_affirmed bound (l ∷ ls) (b ∷ bs) each =
    let first : Some b ≡ Some true = each 0 l refl in
    let b_is : b ≡ true = cc first in
    one l.formula b b_is (asks_for bound ls bs) (all_affirmed bound ls bs (λ i m at. each (suc i) m at))
  where
    one : (f : FormulaTree) (b : Bool) → b ≡ true → (later : List Asked) → All (λ (a : Asked). a.affirmed ≡ true) later → All (λ (a : Asked). a.affirmed ≡ true) (ask_first bound f b later)
    one (says p s) true e later all = All-cons (λ (a : Asked). a.affirmed ≡ true) (record { port = unwrap_or (port_in bound p) 0; statement = s; affirmed = true }) later refl all
    one (says p s) false e later all = absurd (cc e)
    one _ b e later all = all

module _ (c : CaseTree) (answers : List Bool) (told : IsVerdict c answers Allowed) where
  goal_set : (o : Option FormulaTree) → c.goal ≡ o → (goal : FormulaTree) × (c.goal ≡ Some goal)
  goal_set None e = absurd (told GoalUnset e)
  goal_set (Some goal) e = (goal, e)

  proof_set : (o : Option (List LineTree)) → c.proof ≡ o → (ls : List LineTree) × (c.proof ≡ Some ls)
  proof_set None e = absurd (told NoProof (λ ls is. absurd (cc (is, e))))
  proof_set (Some ls) e = (ls, e)

  module _ (goal : FormulaTree) (ls : List LineTree) (goal_is : c.goal ≡ Some goal) (proof_is : c.proof ≡ Some ls) where
    some_line : ls ≡ [] → ⊥
    some_line none = told NoProof (λ ms is. let both : Some ms ≡ Some ls = sym is ∙ proof_is in let same : ms ≡ ls = cc both in same ∙ none)

    faultless : (k : ℕ) → IsFaultless ls goal k
    faultless = all_faultless ls goal (λ k fault lowest. told (Line k fault) (ls, goal, proof_is, goal_is, lowest))

    none_missing : (k : ℕ) → IsMissingLabel ls c.labels k → ⊥
    none_missing = none_at_all (IsMissingLabel ls c.labels) (λ k lowest. told (LabelMissing k) (ls, proof_is, lowest))

    none_unanswered : (k : ℕ) → IsAnsweredNo ls answers k → ⊥
    none_unanswered = none_at_all (IsAnsweredNo ls answers) (λ k lowest. told (AuthorityNo k) (ls, proof_is, lowest))

    labels_held : (f : FormulaTree) → Contains (formulas_where is_label ls) f → Contains c.labels f
    labels_held f there =
        let w = where_from is_label ls f there in
        not_out c.labels f (λ out. none_missing (suc w.0) (w.1, w.2, label_rule w.1.rule w.1 refl w.3, λ held. out (subst (λ g. Contains c.labels g) w.4 held)))

    answered : (i : ℕ) (l : LineTree) → slice_get (filter is_ask ls) i ≡ Some l → slice_get answers i ≡ Some true
    answered i l at =
        let w = unfiltered is_ask ls i l at in
        each (slice_get answers i) refl (λ no. none_unanswered (suc w.0) (l, w.1, ask_rule l.rule l refl w.2, λ is. no (subst (λ n. slice_get answers n ≡ Some true) w.3 is)))
      where
        each : (o : Option Bool) → slice_get answers i ≡ o → ((slice_get answers i ≡ Some true → ⊥) → ⊥) → slice_get answers i ≡ Some true
        each (Some true) e n = e
        each (Some false) e n = absurd (n (λ is. absurd (cc (is, e))))
        each None e n = absurd (n (λ is. absurd (cc (is, e))))

    undecided : IsDecided c → ⊥
    undecided (GoalUnset, low, has) = told GoalUnset has
    undecided (NoProof, low, has) = told NoProof has
    undecided (Line k fault, low, has) = told (Line k fault) has
    undecided (LabelMissing k, low, has) = told (LabelMissing k) has
    undecided (NotBound k, low, has) = told (NotBound k) has
    undecided (AuthorityNo k, low, has) = absurd (omega (arith, low))

pub allowed_supported : AllowedCasesDerive
allowed_supported c answers asks told asked =
    let g = goal_set c answers told c.goal refl in
    let p = proof_set c answers told c.proof refl in
    let derived = faultless_goal p.0 g.0 (faultless c answers told g.0 p.0 g.1 p.1) (some_line c answers told g.0 p.0 g.1 p.1) in
    let asks_are : asks ≡ asks_for c.bound (filter is_ask (lines_of c)) answers = asked.1 (undecided c answers told g.0 p.0 g.1 p.1) in
    let lines_are : lines_of c ≡ p.0 = ap (λ (o : Option (List LineTree)). unwrap_or o []) p.1 in
    record {
      goal = g.0;
      proof = p.0;
      goal_is = g.1;
      proof_is = p.1;
      derived = weakened (labels_held c answers told g.0 p.0 g.1 p.1) (λ f there. there) derived;
      affirmed = rw (asks_are, lines_are) (all_affirmed c.bound (filter is_ask p.0) answers (answered c answers told g.0 p.0 g.1 p.1));
    }
