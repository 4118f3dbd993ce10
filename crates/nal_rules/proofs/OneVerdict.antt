-- A line has one fault, a proof one lowest fault, and a case one verdict.
use Rattle.std.proofs.Common.{◌≡◌, ◌<◌, arith, sym, ap, refl, ◌∙◌, ℕ, List, Bool, ◌==◌, Option, Some, None, if◌then◌else◌}
use Rattle.nal_rules.specs.Faults.{fault_number}
use Rattle.nal_rules.specs.Laws.{OneFault, OneLowestFault, OneVerdict}
use Rattle.nal_rules.specs.Verdicts.{CaseTree, HasCause, IsLowest, cause_number}
use Rattle.nal_rules.specs.declared.verdicts.Fault.{Fault}
use Rattle.nal_rules.specs.declared.verdicts.Fault.TheVariants.{NoSuchRef, NotHyp, WrongShape, Capture, NotFresh, OutOfScope, NotTrue, TooManyAsks, NotAsk, NotClosed, StillOpen, NotGoal}
use Rattle.nal_rules.specs.declared.verdicts.Cause.{Cause}
use Rattle.nal_rules.specs.declared.verdicts.Cause.TheVariants.{GoalUnset, NoProof, Line, LabelMissing, NotBound, AuthorityNo}
use Rattle.nal_rules.specs.declared.verdicts.Verdict.TheVariants.{Allowed, Denied}

-- the fault with this number
abbrev fault_of : ℕ → Option Fault
fault_of k = if k == 1 then Some NoSuchRef else (if k == 2 then Some NotHyp else (if k == 3 then Some WrongShape else (if k == 4 then Some Capture else (if k == 5 then Some NotFresh else (if k == 6 then Some OutOfScope else (if k == 7 then Some NotTrue else (if k == 8 then Some TooManyAsks else (if k == 9 then Some NotAsk else (if k == 10 then Some NotClosed else (if k == 11 then Some StillOpen else (if k == 12 then Some NotGoal else None)))))))))))

number_named : (a : Fault) → fault_of (fault_number a) ≡ Some a
number_named NoSuchRef = refl
number_named NotHyp = refl
number_named WrongShape = refl
number_named Capture = refl
number_named NotFresh = refl
number_named OutOfScope = refl
number_named NotTrue = refl
number_named TooManyAsks = refl
number_named NotAsk = refl
number_named NotClosed = refl
number_named StillOpen = refl
number_named NotGoal = refl

number_one : (a b : Fault) → fault_number a ≡ fault_number b → a ≡ b
number_one a b e = let f : Some a ≡ Some b = sym (number_named a) ∙ ap fault_of e ∙ number_named b in cc

-- two numbers of which neither is below the other are one
neither_below : (m n : ℕ) → (m < n → ⊥) → (n < m → ⊥) → m ≡ n
neither_below m n f g = omega (arith, f, g)

pub one_fault : OneFault
one_fault proof goal k a b p q =
    let e : Some p.line ≡ Some q.line = sym p.stands ∙ q.stands in
    let same : p.line ≡ q.line = cc in
    number_one a b (neither_below (fault_number a) (fault_number b) (λ lt. q.first a lt (rw same at p.applies)) (λ lt. p.first b lt (rw (← same) at q.applies)))

pub one_lowest_fault : OneLowestFault
one_lowest_fault proof goal j k a b p q =
    let place : j ≡ k = neither_below j k (λ lt. q.lowest j lt p.faulty.line p.faulty.stands a p.faulty.applies) (λ lt. p.lowest k lt q.faulty.line q.faulty.stands b q.faulty.applies) in
    (place, one_fault proof goal j a b p.faulty (rw (← place) at q.faulty))

-- the first line of which a fact holds is one
lowest_one : (Fact : ℕ → Type 0) (j k : ℕ) → IsLowest Fact j → IsLowest Fact k → j ≡ k
lowest_one Fact j k p q = neither_below j k (λ lt. q.1 j lt p.0) (λ lt. p.1 k lt q.0)

-- a cause of one kind applies in one way
cause_one : (c : CaseTree) (answers : List Bool) (a b : Cause) → HasCause c answers a → HasCause c answers b → cause_number a ≡ cause_number b → a ≡ b
cause_one c answers GoalUnset GoalUnset p q e = refl
cause_one c answers GoalUnset NoProof p q e = absurd (omega (arith, e))
cause_one c answers GoalUnset (Line k2 fault2) p q e = absurd (omega (arith, e))
cause_one c answers GoalUnset (LabelMissing k2) p q e = absurd (omega (arith, e))
cause_one c answers GoalUnset (NotBound k2) p q e = absurd (omega (arith, e))
cause_one c answers GoalUnset (AuthorityNo k2) p q e = absurd (omega (arith, e))
cause_one c answers NoProof GoalUnset p q e = absurd (omega (arith, e))
cause_one c answers NoProof NoProof p q e = refl
cause_one c answers NoProof (Line k2 fault2) p q e = absurd (omega (arith, e))
cause_one c answers NoProof (LabelMissing k2) p q e = absurd (omega (arith, e))
cause_one c answers NoProof (NotBound k2) p q e = absurd (omega (arith, e))
cause_one c answers NoProof (AuthorityNo k2) p q e = absurd (omega (arith, e))
cause_one c answers (Line k fault) GoalUnset p q e = absurd (omega (arith, e))
cause_one c answers (Line k fault) NoProof p q e = absurd (omega (arith, e))
cause_one c answers (Line k fault) (Line k2 fault2) (proof, goal, is, set, p) (proof2, goal2, is2, set2, q) e =
    let f : Some proof ≡ Some proof2 = sym is ∙ is2 in
    let g : Some goal ≡ Some goal2 = sym set ∙ set2 in
    let proofs : proof ≡ proof2 = cc in
    let goals : goal ≡ goal2 = cc in
    let h = one_lowest_fault proof goal k k2 fault fault2 p (rw (← proofs, ← goals) at q) in
    rw (h.0, h.1) refl
cause_one c answers (Line k fault) (LabelMissing k2) p q e = absurd (omega (arith, e))
cause_one c answers (Line k fault) (NotBound k2) p q e = absurd (omega (arith, e))
cause_one c answers (Line k fault) (AuthorityNo k2) p q e = absurd (omega (arith, e))
cause_one c answers (LabelMissing k) GoalUnset p q e = absurd (omega (arith, e))
cause_one c answers (LabelMissing k) NoProof p q e = absurd (omega (arith, e))
cause_one c answers (LabelMissing k) (Line k2 fault2) p q e = absurd (omega (arith, e))
cause_one c answers (LabelMissing k) (LabelMissing k2) (proof, is, p) (proof2, is2, q) e =
    let f : Some proof ≡ Some proof2 = sym is ∙ is2 in
    let proofs : proof ≡ proof2 = cc in
    ap LabelMissing (lowest_one _ k k2 p (rw (← proofs) at q))
cause_one c answers (LabelMissing k) (NotBound k2) p q e = absurd (omega (arith, e))
cause_one c answers (LabelMissing k) (AuthorityNo k2) p q e = absurd (omega (arith, e))
cause_one c answers (NotBound k) GoalUnset p q e = absurd (omega (arith, e))
cause_one c answers (NotBound k) NoProof p q e = absurd (omega (arith, e))
cause_one c answers (NotBound k) (Line k2 fault2) p q e = absurd (omega (arith, e))
cause_one c answers (NotBound k) (LabelMissing k2) p q e = absurd (omega (arith, e))
cause_one c answers (NotBound k) (NotBound k2) (proof, is, p) (proof2, is2, q) e =
    let f : Some proof ≡ Some proof2 = sym is ∙ is2 in
    let proofs : proof ≡ proof2 = cc in
    ap NotBound (lowest_one _ k k2 p (rw (← proofs) at q))
cause_one c answers (NotBound k) (AuthorityNo k2) p q e = absurd (omega (arith, e))
cause_one c answers (AuthorityNo k) GoalUnset p q e = absurd (omega (arith, e))
cause_one c answers (AuthorityNo k) NoProof p q e = absurd (omega (arith, e))
cause_one c answers (AuthorityNo k) (Line k2 fault2) p q e = absurd (omega (arith, e))
cause_one c answers (AuthorityNo k) (LabelMissing k2) p q e = absurd (omega (arith, e))
cause_one c answers (AuthorityNo k) (NotBound k2) p q e = absurd (omega (arith, e))
cause_one c answers (AuthorityNo k) (AuthorityNo k2) (proof, is, p) (proof2, is2, q) e =
    let f : Some proof ≡ Some proof2 = sym is ∙ is2 in
    let proofs : proof ≡ proof2 = cc in
    ap AuthorityNo (lowest_one _ k k2 p (rw (← proofs) at q))

pub one_verdict : OneVerdict
one_verdict c answers Allowed Allowed p q = refl
one_verdict c answers Allowed (Denied b) p q = absurd (p b q.0)
one_verdict c answers (Denied a) Allowed p q = absurd (q a p.0)
one_verdict c answers (Denied a) (Denied b) p q =
    ap Denied (cause_one c answers a b p.0 q.0 (neither_below (cause_number a) (cause_number b) (λ lt. q.1 a lt p.0) (λ lt. p.1 b lt q.0)))
