-- A cause is told by its numbers.
use Rattle.std.proofs.Common.{◌≡◌, ◌==◌, ℕ, Option, Some, None, if◌then◌else◌, refl, sym, ap, ◌∙◌}
use Rattle.std.specs.Option.{option_map}
use Rattle.nal_rules.specs.Faults.{fault_number}
use Rattle.nal_rules.specs.Numbers.{cause_numbers}
use Rattle.nal_rules.specs.declared.verdicts.Cause.{Cause}
use Rattle.nal_rules.specs.declared.verdicts.Cause.TheVariants.{GoalUnset, NoProof, Line, LabelMissing, NotBound, AuthorityNo}
use Rattle.nal_rules.specs.declared.verdicts.Fault.{Fault}
use Rattle.nal_rules.specs.declared.verdicts.Fault.TheVariants.{NoSuchRef, NotHyp, WrongShape, Capture, NotFresh, OutOfScope, NotTrue, TooManyAsks, NotAsk, NotClosed, StillOpen, NotGoal}

-- the fault, and the cause, with these numbers
abbrev fault_of : ℕ → Option Fault
fault_of k = if k == 1 then Some NoSuchRef else (if k == 2 then Some NotHyp else (if k == 3 then Some WrongShape else (if k == 4 then Some Capture else (if k == 5 then Some NotFresh else (if k == 6 then Some OutOfScope else (if k == 7 then Some NotTrue else (if k == 8 then Some TooManyAsks else (if k == 9 then Some NotAsk else (if k == 10 then Some NotClosed else (if k == 11 then Some StillOpen else (if k == 12 then Some NotGoal else None)))))))))))

abbrev cause_of : ℕ × ℕ × ℕ → Option Cause
cause_of (k, line, fault) =
    if k == 1 then Some GoalUnset else (if k == 2 then Some NoProof else (if k == 3 then option_map (Line line) (fault_of fault) else (if k == 4 then Some (LabelMissing line) else (if k == 5 then Some (NotBound line) else (if k == 6 then Some (AuthorityNo line) else None)))))

fault_known : (f : Fault) → fault_of (fault_number f) ≡ Some f
fault_known NoSuchRef = refl
fault_known NotHyp = refl
fault_known WrongShape = refl
fault_known Capture = refl
fault_known NotFresh = refl
fault_known OutOfScope = refl
fault_known NotTrue = refl
fault_known TooManyAsks = refl
fault_known NotAsk = refl
fault_known NotClosed = refl
fault_known StillOpen = refl
fault_known NotGoal = refl

cause_known : (c : Cause) → cause_of (cause_numbers c) ≡ Some c
cause_known GoalUnset = refl
cause_known NoProof = refl
cause_known (Line k f) = ap (option_map (Line k)) (fault_known f)
cause_known (LabelMissing k) = refl
cause_known (NotBound k) = refl
cause_known (AuthorityNo k) = refl

some_same : {c d : Cause} → Some c ≡ Some d → c ≡ d
some_same e = cc

pub one_cause : (c d : Cause) → cause_numbers c ≡ cause_numbers d → c ≡ d
one_cause c d e = some_same (sym (cause_known c) ∙ ap cause_of e ∙ cause_known d)
