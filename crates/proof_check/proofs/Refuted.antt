-- A line that is as it has to be for a fault not to apply has not that fault.
use Rattle.std.proofs.Common.{◌≡◌, ℕ, zero, suc, ◌+◌, ◌<◌, ◌≤◌, List, [], ◌∷◌, length, take, MatchOption, Option, Some, None, refl, ⊎_elim, arith}
use Rattle.std.specs.List.{filter}
use Rattle.std.proofs.lemmas.List.Elements.{All-contains}
use Rattle.nal_term.specs.Trees.{FormulaTree}
use Rattle.proof_lines.specs.declared.rules.Rule.{Rule}
use Rattle.proof_lines.specs.declared.rules.Rule.TheVariants.{Label, Ask, Hyp, TrueI, AndI, AndL, AndR, OrL, OrR, OrE, ImpI, ImpE, FalseE, ForallI, ForallE, ExistsI, ExistsE, EqRefl, EqSym, EqTrans, Arith, LtTrans, SaysI, Deduce, SaysJoin, SfRefl, SfTrans, SfSub, SfE, SfOnE, SfWeak, Handoff, HandoffOn}
use Rattle.proof_lines.specs.Lines.{LineTree}
use Rattle.nal_rules.specs.declared.verdicts.Fault.{Fault}
use Rattle.nal_rules.specs.declared.verdicts.Fault.TheVariants.{NoSuchRef, NotHyp, WrongShape, Capture, NotFresh, OutOfScope, NotTrue, TooManyAsks, NotAsk, NotClosed, StillOpen, NotGoal}
use Rattle.nal_rules.specs.Faults.{line_at, is_ask, Applies, IsHyp, IsOutOfScope, fault_number, HasFault, IsFaultless}
use Rattle.proof_check.specs.Inner.Numbered.{fault_at}
use Rattle.proof_check.specs.Inner.Sound.{IsMet, IsSoundAt, IsWithinScope}

scope_refutes : (r : Rule) (premises : List FormulaTree) → IsWithinScope r premises → IsOutOfScope r premises → ⊥
scope_refutes SfOnE [] w o = absurd o
scope_refutes SfOnE (f ∷ []) w o = absurd o
scope_refutes SfOnE (f ∷ g ∷ []) w (p, q, s, a, e, d, n) = n (w p q s a e d)
scope_refutes SfOnE (f ∷ g ∷ x ∷ fs) w o = absurd o
scope_refutes Label premises w o = absurd o
scope_refutes Ask premises w o = absurd o
scope_refutes Hyp premises w o = absurd o
scope_refutes TrueI premises w o = absurd o
scope_refutes AndI premises w o = absurd o
scope_refutes AndL premises w o = absurd o
scope_refutes AndR premises w o = absurd o
scope_refutes OrL premises w o = absurd o
scope_refutes OrR premises w o = absurd o
scope_refutes OrE premises w o = absurd o
scope_refutes ImpI premises w o = absurd o
scope_refutes ImpE premises w o = absurd o
scope_refutes FalseE premises w o = absurd o
scope_refutes ForallI premises w o = absurd o
scope_refutes ForallE premises w o = absurd o
scope_refutes ExistsI premises w o = absurd o
scope_refutes ExistsE premises w o = absurd o
scope_refutes EqRefl premises w o = absurd o
scope_refutes EqSym premises w o = absurd o
scope_refutes EqTrans premises w o = absurd o
scope_refutes Arith premises w o = absurd o
scope_refutes LtTrans premises w o = absurd o
scope_refutes SaysI premises w o = absurd o
scope_refutes Deduce premises w o = absurd o
scope_refutes SaysJoin premises w o = absurd o
scope_refutes SfRefl premises w o = absurd o
scope_refutes SfTrans premises w o = absurd o
scope_refutes SfSub premises w o = absurd o
scope_refutes SfE premises w o = absurd o
scope_refutes SfWeak premises w o = absurd o
scope_refutes Handoff premises w o = absurd o
scope_refutes HandoffOn premises w o = absurd o

-- what has to be so for a fault not to apply refutes it
pub met_refutes : (lines : List LineTree) (goal : FormulaTree) (k : ℕ) (l : LineTree) (fault : Fault) → IsMet lines goal k l fault → Applies lines goal k l fault → ⊥
met_refutes lines goal k l NoSuchRef m (i, held, bad) =
    let bounds : (0 < i) × (i < k) = All-contains (λ i. (0 < i) × (i < k)) l.refs i m held in
    let low : 0 < i = bounds.0 in
    let high : i < k = bounds.1 in
    ⊎_elim (λ (e : i ≡ 0). omega (arith, e)) (λ (e : k ≤ i). omega (arith, e)) bad
met_refutes lines goal k l NotHyp m (h, held, bad) = bad (All-contains (λ i. IsHyp lines i) _ h m held)
met_refutes lines goal k l WrongShape m a = a m.0 m.1 m.2
met_refutes lines goal k l Capture m a = m a
met_refutes lines goal k l NotFresh m a = m a
met_refutes lines goal k l OutOfScope m (premises, e, h) = scope_refutes l.rule premises (m premises e) h
met_refutes lines goal k l NotTrue m a = a.1 (m a.0)
met_refutes lines goal k l TooManyAsks m a =
    let most : length (filter is_ask (take k lines)) ≤ 16 = m a.0 in
    let more : 16 < length (filter is_ask (take k lines)) = a.1 in
    omega (arith, most, more)
met_refutes lines goal k l NotAsk m a = a.1 (m a.0)
met_refutes lines goal k l NotClosed m a = a.1 (m a.0)
met_refutes lines goal k l StillOpen m a = m a.0 a.1.0 a.1.1
met_refutes lines goal k l NotGoal m a = a.1 (m a.0)

-- a line that is as it has to be has no fault
pub sound_faultless : (lines : List LineTree) (goal : FormulaTree) (k : ℕ) → IsSoundAt lines goal k → IsFaultless lines goal k
sound_faultless lines goal k sound l e fault = met_refutes lines goal k l fault (sound l e fault)

-- the place of a fault is below its number by one
pub fault_back : (fault : Fault) (place : ℕ) → fault_number fault ≡ place + 1 → fault_at place ≡ fault
fault_back NoSuchRef place e = let s : place ≡ 0 = omega (arith, e) in rw s refl
fault_back NotHyp place e = let s : place ≡ 1 = omega (arith, e) in rw s refl
fault_back WrongShape place e = let s : place ≡ 2 = omega (arith, e) in rw s refl
fault_back Capture place e = let s : place ≡ 3 = omega (arith, e) in rw s refl
fault_back NotFresh place e = let s : place ≡ 4 = omega (arith, e) in rw s refl
fault_back OutOfScope place e = let s : place ≡ 5 = omega (arith, e) in rw s refl
fault_back NotTrue place e = let s : place ≡ 6 = omega (arith, e) in rw s refl
fault_back TooManyAsks place e = let s : place ≡ 7 = omega (arith, e) in rw s refl
fault_back NotAsk place e = let s : place ≡ 8 = omega (arith, e) in rw s refl
fault_back NotClosed place e = let s : place ≡ 9 = omega (arith, e) in rw s refl
fault_back StillOpen place e = let s : place ≡ 10 = omega (arith, e) in rw s refl
fault_back NotGoal place e = let s : place ≡ 11 = omega (arith, e) in rw s refl

pub few_faults : (fault : Fault) → fault_number fault ≤ 12
few_faults NoSuchRef = omega arith
few_faults NotHyp = omega arith
few_faults WrongShape = omega arith
few_faults Capture = omega arith
few_faults NotFresh = omega arith
few_faults OutOfScope = omega arith
few_faults NotTrue = omega arith
few_faults TooManyAsks = omega arith
few_faults NotAsk = omega arith
few_faults NotClosed = omega arith
few_faults StillOpen = omega arith
few_faults NotGoal = omega arith

pub some_fault : (fault : Fault) → 0 < fault_number fault
some_fault NoSuchRef = omega arith
some_fault NotHyp = omega arith
some_fault WrongShape = omega arith
some_fault Capture = omega arith
some_fault NotFresh = omega arith
some_fault OutOfScope = omega arith
some_fault NotTrue = omega arith
some_fault TooManyAsks = omega arith
some_fault NotAsk = omega arith
some_fault NotClosed = omega arith
some_fault StillOpen = omega arith
some_fault NotGoal = omega arith

-- and the number of the fault at a place above it by one
pub fault_numbered : (place : ℕ) → place < 12 → fault_number (fault_at place) ≡ place + 1
fault_numbered zero h = refl
fault_numbered (suc zero) h = refl
fault_numbered (suc (suc zero)) h = refl
fault_numbered (suc (suc (suc zero))) h = refl
fault_numbered (suc (suc (suc (suc zero)))) h = refl
fault_numbered (suc (suc (suc (suc (suc zero))))) h = refl
fault_numbered (suc (suc (suc (suc (suc (suc zero)))))) h = refl
fault_numbered (suc (suc (suc (suc (suc (suc (suc zero))))))) h = refl
fault_numbered (suc (suc (suc (suc (suc (suc (suc (suc zero)))))))) h = refl
fault_numbered (suc (suc (suc (suc (suc (suc (suc (suc (suc zero))))))))) h = refl
fault_numbered (suc (suc (suc (suc (suc (suc (suc (suc (suc (suc zero)))))))))) h = refl
fault_numbered (suc (suc (suc (suc (suc (suc (suc (suc (suc (suc (suc zero))))))))))) h = refl
fault_numbered (suc (suc (suc (suc (suc (suc (suc (suc (suc (suc (suc (suc place)))))))))))) h = absurd (omega (arith, h))

-- the faults before this one do not apply, and it does
pub first_fault : (lines : List LineTree) (goal : FormulaTree) (k : ℕ) (l : LineTree) → line_at lines k ≡ Some l → (place : ℕ) (fault : Fault) → fault_number fault ≡ place + 1
    → ((other : Fault) → fault_number other ≤ place → IsMet lines goal k l other) → Applies lines goal k l fault → HasFault lines goal k fault
first_fault lines goal k l stands place fault number met applies = record {
  line = l;
  stands = stands;
  applies = applies;
  first = λ other below. met_refutes lines goal k l other (met other (omega (arith, below, number)));
}

-- the first fault of a line, or that none applies to it
pub fault_told : (lines : List LineTree) (goal : FormulaTree) (k : ℕ) (o : Option Fault) → MatchOption o (IsSoundAt lines goal k) (λ fault. HasFault lines goal k fault) → MatchOption o (IsFaultless lines goal k) (λ fault. HasFault lines goal k fault)
fault_told lines goal k None sound = sound_faultless lines goal k sound
fault_told lines goal k (Some fault) has = has
