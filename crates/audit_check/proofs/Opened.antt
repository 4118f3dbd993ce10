-- A case that no cause decides: none of its proof's lines has a fault, and so each ask line is a statement of a principal.
use Rattle.std.proofs.Common.{◌≡◌, ◌<◌, ℕ, zero, suc, List, [], true, Option, Some, None, unwrap_or, refl, arith}
use Rattle.std.specs.List.{slice_get}
use Rattle.nal_term.specs.Trees.{FormulaTree, says}
use Rattle.proof_lines.specs.Lines.{LineTree}
use Rattle.nal_rules.specs.Asking.{IsDecided, lines_of}
use Rattle.nal_rules.specs.Faults.{Applies, HasLowestFault, IsFaultless, IsSays, fault_number, is_ask, line_at}
use Rattle.nal_rules.specs.Verdicts.{CaseTree}
use Rattle.nal_rules.specs.declared.verdicts.Cause.TheVariants.{GoalUnset, Line}
use Rattle.nal_rules.specs.declared.verdicts.Fault.{Fault}
use Rattle.nal_rules.specs.declared.verdicts.Fault.TheVariants.{NotAsk}
use Rattle.audit_check.proofs.AskLines.{AllSay, passes_ask}

module _ (ls : List LineTree) (goal : FormulaTree) (never : (k : ℕ) (fault : Fault) → HasLowestFault ls goal k fault → ⊥) where
  -- where no line has the lowest fault, none has any
  no_fault : (k : ℕ) → ((j : ℕ) → j < k → IsFaultless ls goal j) → (l : LineTree) → line_at ls k ≡ Some l → (n : ℕ) (fault : Fault) → fault_number fault < n → Applies ls goal k l fault → ⊥
  no_fault k earlier l at zero fault low applies = absurd (omega (arith, low))
  no_fault k earlier l at (suc n) fault low applies =
      never k fault record {
        faulty = record { line = l; stands = at; applies = applies; first = λ other lower there. no_fault k earlier l at n other (omega (arith, low, lower)) there };
        lowest = earlier;
      }

  none_before : (n k : ℕ) → k < n → IsFaultless ls goal k
  none_before zero k below = absurd (omega (arith, below))
  none_before (suc n) k below = λ l at fault applies. no_fault k (λ j lower. none_before n j (omega (arith, below, lower))) l at (suc (fault_number fault)) fault (omega arith) applies

  faultless : (k : ℕ) → IsFaultless ls goal k
  faultless k = none_before (suc k) k (omega arith)

no_statement : (f : FormulaTree) → ((IsSays f → ⊥) → ⊥) → IsSays f
no_statement (says p s) n = (p, s, refl)
no_statement _ n = absurd (n (λ m. cc m.2))

module _ (c : CaseTree) (undecided : IsDecided c → ⊥) where
  goal_set : (o : Option FormulaTree) → c.goal ≡ o → (goal : FormulaTree) × (c.goal ≡ Some goal)
  goal_set None e = absurd (undecided (GoalUnset, omega arith, e))
  goal_set (Some goal) e = (goal, e)

  -- its goal is set, and no line of its proof has a fault
  pub no_faults : (ls : List LineTree) → c.proof ≡ Some ls → (goal : FormulaTree) × ((k : ℕ) → IsFaultless ls goal k)
  no_faults ls e = let g = goal_set c.goal refl in (g.0, faultless ls g.0 (λ k fault lowest. undecided (Line k fault, omega arith, (ls, g.0, e, g.1, lowest))))

  stated : (o : Option (List LineTree)) → c.proof ≡ o → (i : ℕ) (l : LineTree) → slice_get (unwrap_or o []) i ≡ Some l → is_ask l ≡ true → IsSays l.formula
  stated None e i l at asks = absurd (cc at)
  stated (Some ls) e i l at asks = no_statement l.formula (λ n. (no_faults ls e).1 (suc i) l at NotAsk (passes_ask l asks, n))

  pub all_say : AllSay (lines_of c)
  all_say = record { each = stated c.proof refl }
