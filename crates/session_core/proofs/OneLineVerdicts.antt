-- The verdicts on cases whose proof is one line: a label, a truth, or what an authority is asked.
use Rattle.std.proofs.Common.{◌≡◌, ◌≢◌, ◌≤◌, ◌<◌, inl, inr, ℕ, zero, suc, List, [], ◌∷◌, Contains, Option, Some, None, refl, sym, ap, subst, ◌∙◌, arith, Bool, true}
use Rattle.std.specs.Prelude.{slice_get}
use Rattle.std.proofs.lemmas.Option.{slice_get_within}
use Rattle.nal_term.specs.Trees.{TermTree, FormulaTree, says, verum}
use Rattle.nal_term.specs.Free.{IsClosed}
use Rattle.proof_lines.specs.Lines.{LineTree}
use Rattle.proof_lines.specs.declared.rules.Rule.{Rule}
use Rattle.proof_lines.specs.declared.rules.Rule.TheVariants.{Label, Ask, Hyp, TrueI}
use Rattle.nal_rules.specs.Faults.{Applies, HasFault, RestsOn, fault_number, line_at, itself, through}
use Rattle.nal_rules.specs.Verdicts.{CaseTree, HasCause, IsVerdict, cause_number, ask_place}
use Rattle.nal_rules.specs.declared.verdicts.Fault.{Fault}
use Rattle.nal_rules.specs.declared.verdicts.Fault.TheVariants.{NoSuchRef, NotHyp, WrongShape, Capture, NotFresh, OutOfScope, NotTrue, TooManyAsks, NotAsk, NotClosed, StillOpen, NotGoal}
use Rattle.nal_rules.specs.declared.verdicts.Cause.{Cause}
use Rattle.nal_rules.specs.declared.verdicts.Cause.TheVariants.{GoalUnset, NoProof, Line, LabelMissing, NotBound, AuthorityNo}
use Rattle.nal_rules.specs.declared.verdicts.Verdict.TheVariants.{Allowed, Denied}

-- ---- One line

abbrev pub line : Rule → FormulaTree → LineTree
line rule f = record { rule = rule; refs = []; term = None; formula = f }

none_in : {A : Type 0} (x : A) → Contains [] x → ⊥
none_in x c = omega (arith, c.1)

same : {A : Type 0} (x y : A) → Some x ≡ Some y → x ≡ y
same x y e = cc

only : (x : LineTree) (k : ℕ) (l : LineTree) → line_at (x ∷ []) k ≡ Some l → (k ≡ 1) × (x ≡ l)
only x zero l e = absurd (cc e)
only x (suc zero) l e = (refl, same x l e)
only x (suc (suc k)) l e = let within = slice_get_within (x ∷ []) (suc k) l e in absurd (omega (arith, within))

-- nothing rests on a hypothesis
rests : (x : LineTree) → x.rule ≢ Hyp → {k h : ℕ} → RestsOn (x ∷ []) k h → ⊥
rests x other (itself {k} hyp) = other (ap (λ (l : LineTree). l.rule) (only x k hyp.0 hyp.1).1 ∙ hyp.2)
rests x other (through stands supports earlier below free) = rests x other below

-- a line of a closed label has no fault but that it is not the goal
pub label_fault : (f goal : FormulaTree) → IsClosed f → (fault : Fault) → Applies (line Label f ∷ []) goal 1 (line Label f) fault → (fault ≡ NotGoal) × (f ≢ goal)
label_fault f goal closed NoSuchRef a = absurd (none_in a.0 a.1)
label_fault f goal closed NotHyp a = absurd (none_in a.0 a.1)
label_fault f goal closed WrongShape a = absurd (a [] refl tt)
label_fault f goal closed Capture a = absurd a.2
label_fault f goal closed NotFresh a = absurd a
label_fault f goal closed OutOfScope a = absurd a.2
label_fault f goal closed NotTrue a = absurd (cc a.0)
label_fault f goal closed TooManyAsks a = absurd (cc a.0)
label_fault f goal closed NotAsk a = absurd (cc a.0)
label_fault f goal closed NotClosed a = absurd (a.1 closed)
label_fault f goal closed StillOpen a = absurd (rests (line Label f) (λ e. cc e) a.1.1)
label_fault f goal closed NotGoal a = (refl, a.1)

-- neither has one that says what is true
pub truth_fault : (goal : FormulaTree) (fault : Fault) → Applies (line TrueI verum ∷ []) goal 1 (line TrueI verum) fault → (fault ≡ NotGoal) × (verum ≢ goal)
truth_fault goal NoSuchRef a = absurd (none_in a.0 a.1)
truth_fault goal NotHyp a = absurd (none_in a.0 a.1)
truth_fault goal WrongShape a = absurd (a [] refl refl)
truth_fault goal Capture a = absurd a.2
truth_fault goal NotFresh a = absurd a
truth_fault goal OutOfScope a = absurd a.2
truth_fault goal NotTrue a = absurd (cc a.0)
truth_fault goal TooManyAsks a = absurd (cc a.0)
truth_fault goal NotAsk a = absurd (cc a.0)
truth_fault goal NotClosed (inl label, free) = absurd (cc label)
truth_fault goal NotClosed (inr ask, free) = absurd (cc ask)
truth_fault goal StillOpen a = absurd (rests (line TrueI verum) (λ e. cc e) a.1.1)
truth_fault goal NotGoal a = (refl, a.1)

-- nor has an ask of what a principal says
pub ask_fault : (p : TermTree) (f goal : FormulaTree) → IsClosed (says p f) → (fault : Fault) → Applies (line Ask (says p f) ∷ []) goal 1 (line Ask (says p f)) fault
    → (fault ≡ NotGoal) × (says p f ≢ goal)
ask_fault p f goal closed NoSuchRef a = absurd (none_in a.0 a.1)
ask_fault p f goal closed NotHyp a = absurd (none_in a.0 a.1)
ask_fault p f goal closed WrongShape a = absurd (a [] refl tt)
ask_fault p f goal closed Capture a = absurd a.2
ask_fault p f goal closed NotFresh a = absurd a
ask_fault p f goal closed OutOfScope a = absurd a.2
ask_fault p f goal closed NotTrue a = absurd (cc a.0)
ask_fault p f goal closed TooManyAsks a = absurd (omega (arith, a.1))
ask_fault p f goal closed NotAsk a = absurd (a.1 (p, f, refl))
ask_fault p f goal closed NotClosed a = absurd (a.1 closed)
ask_fault p f goal closed StillOpen a = absurd (rests (line Ask (says p f)) (λ e. cc e) a.1.1)
ask_fault p f goal closed NotGoal a = (refl, a.1)

-- ---- Cases of one line

abbrev pub case : Option FormulaTree → LineTree → List FormulaTree → List (TermTree × ℕ) → CaseTree
case goal x labels bound = record { goal = goal; proof = Some (x ∷ []); labels = labels; bound = bound }

-- the least number of a cause
numbered : (cause : Cause) → 1 ≤ cause_number cause
numbered GoalUnset = omega arith
numbered NoProof = omega arith
numbered (Line k fault) = omega arith
numbered (LabelMissing k) = omega arith
numbered (NotBound k) = omega arith
numbered (AuthorityNo k) = omega arith

-- no goal is set
pub unset_goal : (c : CaseTree) → c.goal ≡ None → IsVerdict c [] (Denied GoalUnset)
unset_goal c none = (none, λ other less has. let least = numbered other in absurd (omega (arith, less, least)))

module _ (x : LineTree) (goal : FormulaTree) (labels : List FormulaTree) (bound : List (TermTree × ℕ)) where
  abbrev here : CaseTree
  here = case (Some goal) x labels bound

  goal_set : HasCause here [] GoalUnset → ⊥
  goal_set e = cc e

  some_line : HasCause here [] NoProof → ⊥
  some_line none = absurd (cc (none (x ∷ []) refl))

  -- a wrong line is this one
  wrong_line : (k : ℕ) (fault : Fault) → HasCause here [] (Line k fault) → (k ≡ 1) × Applies (x ∷ []) goal 1 x fault
  wrong_line k fault (proof, g, proof_is, goal_is, low) =
      let fronted : HasFault (x ∷ []) g k fault = subst (λ (ls : List LineTree). HasFault ls g k fault) (sym (same (x ∷ []) proof proof_is)) low.faulty in
      let has : HasFault (x ∷ []) goal k fault = subst (λ (f : FormulaTree). HasFault (x ∷ []) f k fault) (sym (same goal g goal_is)) fronted in
      let o = only x k has.line has.stands in
      (o.0, subst (λ (l : LineTree). Applies (x ∷ []) goal 1 l fault) (sym o.1) (subst (λ (n : ℕ). Applies (x ∷ []) goal n has.line fault) o.0 has.applies))

  -- a label that is missing is that of this line
  missing_label : (k : ℕ) → HasCause here [] (LabelMissing k) → (k ≡ 1) × (x.rule ≡ Label) × (Contains labels x.formula → ⊥)
  missing_label k (proof, proof_is, ((l, stands, rule, missing), low)) =
      let o = only x k l (subst (λ (ls : List LineTree). line_at ls k ≡ Some l) (sym (same (x ∷ []) proof proof_is)) stands) in
      (o.0, ap (λ (y : LineTree). y.rule) o.1 ∙ rule, λ there. missing (subst (λ (y : LineTree). Contains labels y.formula) o.1 there))

  -- nobody is asked
  module _ (told : x.rule ≢ Ask) where
    no_ask : (proof : List LineTree) (k : ℕ) (l : LineTree) → Some (x ∷ []) ≡ Some proof → line_at proof k ≡ Some l → l.rule ≡ Ask → ⊥
    no_ask proof k l proof_is stands rule =
        let o = only x k l (subst (λ (ls : List LineTree). line_at ls k ≡ Some l) (sym (same (x ∷ []) proof proof_is)) stands) in
        told (ap (λ (y : LineTree). y.rule) o.1 ∙ rule)

    -- the case is allowed where the line has no fault and its label is held
    pub allowed_line : (answers : List Bool) → ((fault : Fault) → ¬ Applies (x ∷ []) goal 1 x fault) → (x.rule ≡ Label → Contains labels x.formula) → IsVerdict here answers Allowed
    allowed_line answers right held GoalUnset has = goal_set has
    allowed_line answers right held NoProof has = some_line has
    allowed_line answers right held (Line k fault) has = right fault (wrong_line k fault has).1
    allowed_line answers right held (LabelMissing k) has = let m = missing_label k has in m.2 (held m.1)
    allowed_line answers right held (NotBound k) (proof, proof_is, ((p, s, (l, stands, rule, says_is), free), low)) = no_ask proof k l proof_is stands rule
    allowed_line answers right held (AuthorityNo k) (proof, proof_is, ((l, stands, rule, unsaid), low)) = no_ask proof k l proof_is stands rule

  -- it is denied where the line has no fault, and its label is not held
  pub missing_line : ((fault : Fault) → ¬ Applies (x ∷ []) goal 1 x fault) → x.rule ≡ Label → ¬ Contains labels x.formula → IsVerdict here [] (Denied (LabelMissing 1))
  missing_line right rule missing = ((x ∷ [], refl, ((x, refl, rule, missing), below)), earlier)
    where
      no_zero : (l : LineTree) → line_at (x ∷ []) 0 ≡ Some l → ⊥
      no_zero l e = cc e

      below : (j : ℕ) → j < 1 → ¬ ((l : LineTree) × (line_at (x ∷ []) j ≡ Some l) × (l.rule ≡ Label) × ¬ Contains labels l.formula)
      below j less (l, stands, rule, out) = let o = only x j l stands in omega (arith, less, o.0)

      earlier : (other : Cause) → cause_number other < 4 → ¬ HasCause here [] other
      earlier GoalUnset less has = goal_set has
      earlier NoProof less has = some_line has
      earlier (Line k fault) less has = right fault (wrong_line k fault has).1
      earlier (LabelMissing k) less has = absurd (omega (arith, less))
      earlier (NotBound k) less has = absurd (omega (arith, less))
      earlier (AuthorityNo k) less has = absurd (omega (arith, less))

  -- and where the line is wrong, whoever holds what
  pub denied_line : (fault : Fault) → Applies (x ∷ []) goal 1 x fault → ((other : Fault) → fault_number other < fault_number fault → ¬ Applies (x ∷ []) goal 1 x other)
      → IsVerdict here [] (Denied (Line 1 fault))
  denied_line fault applies first = ((x ∷ [], goal, refl, refl, record { faulty = record { line = x; stands = refl; applies = applies; first = first }; lowest = below }), earlier)
    where
      below : (j : ℕ) → j < 1 → (l : LineTree) → line_at (x ∷ []) j ≡ Some l → (fault : Fault) → ¬ Applies (x ∷ []) goal j l fault
      below j less l stands fault a = let o = only x j l stands in omega (arith, less, o.0)

      earlier : (other : Cause) → cause_number other < 3 → ¬ HasCause here [] other
      earlier GoalUnset less has = goal_set has
      earlier NoProof less has = some_line has
      earlier (Line k fault) less has = absurd (omega (arith, less))
      earlier (LabelMissing k) less has = absurd (omega (arith, less))
      earlier (NotBound k) less has = absurd (omega (arith, less))
      earlier (AuthorityNo k) less has = absurd (omega (arith, less))

  -- An ask line without a fault whose principal has a port leaves the case to the authority, and it is allowed where that says yes,
  -- and else denied
  module _ (right : (fault : Fault) → ¬ Applies (x ∷ []) goal 1 x fault) (asks : x.rule ≡ Ask) (ported : (t : TermTree) (s : FormulaTree) → x.formula ≡ says t s → (port : ℕ) × Contains bound (t, port)) where
    pub undecided : (answers : List Bool) (cause : Cause) → cause_number cause < 6 → ¬ HasCause here answers cause
    undecided answers GoalUnset less has = goal_set has
    undecided answers NoProof less has = some_line has
    undecided answers (Line k fault) less has = right fault (wrong_line k fault has).1
    undecided answers (LabelMissing k) less has = let m = missing_label k has in absurd (cc (asks, m.1))
    undecided answers (NotBound k) less (proof, proof_is, ((p, s, (l, stands, rule, says_is), free), low)) =
        let o = only x k l (subst (λ (ls : List LineTree). line_at ls k ≡ Some l) (sym (same (x ∷ []) proof proof_is)) stands) in
        let port = ported p s (ap (λ (y : LineTree). y.formula) o.1 ∙ says_is) in
        free port.0 port.1
    undecided answers (AuthorityNo k) less has = omega (arith, less)

    -- the authority that says no is that of this line
    denied_first : (answers : List Bool) (k : ℕ) → HasCause here answers (AuthorityNo k) → ¬ (slice_get answers 0 ≡ Some true)
    denied_first answers k (proof, proof_is, ((l, stands, rule, unsaid), low)) =
        let o = only x k l (subst (λ (ls : List LineTree). line_at ls k ≡ Some l) (sym (same (x ∷ []) proof proof_is)) stands) in
        subst (λ (n : ℕ). ¬ (slice_get answers (ask_place proof n) ≡ Some true)) o.0 unsaid

    pub affirmed_line : (answers : List Bool) → slice_get answers 0 ≡ Some true → IsVerdict here answers Allowed
    affirmed_line answers affirmed GoalUnset has = goal_set has
    affirmed_line answers affirmed NoProof has = some_line has
    affirmed_line answers affirmed (Line k fault) has = undecided answers (Line k fault) (omega arith) has
    affirmed_line answers affirmed (LabelMissing k) has = undecided answers (LabelMissing k) (omega arith) has
    affirmed_line answers affirmed (NotBound k) has = undecided answers (NotBound k) (omega arith) has
    affirmed_line answers affirmed (AuthorityNo k) has = denied_first answers k has affirmed

    pub negated_line : (answers : List Bool) → ¬ (slice_get answers 0 ≡ Some true) → IsVerdict here answers (Denied (AuthorityNo 1))
    negated_line answers negated = ((x ∷ [], refl, ((x, refl, asks, negated), below)), undecided answers)
      where
        below : (j : ℕ) → j < 1 → ¬ ((l : LineTree) × (line_at (x ∷ []) j ≡ Some l) × (l.rule ≡ Ask) × ¬ (slice_get answers (ask_place (x ∷ []) j) ≡ Some true))
        below j less (l, stands, rule, unsaid) = let o = only x j l stands in omega (arith, less, o.0)
