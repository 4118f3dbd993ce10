-- The faults of a line where no goal is set: the last line is taken for it.
use Rattle.std.proofs.Common.{◌≡◌, ◌<◌, ◌≤◌, ◌-◌, ℕ, zero, suc, List, [], length, MatchOption, Option, Some, None, refl, sym, ap, ◌∙◌, subst, arith}
use Rattle.std.specs.List.{slice_get}
use Rattle.nal_term.specs.Trees.{FormulaTree}
use Rattle.std.specs.Option.{option_map}
use Rattle.std.proofs.lemmas.List.{length-map}
use Rattle.std.proofs.lemmas.Option.{slice_get-map}
use Rattle.proof_lines.specs.declared.lines.Line.{Line}
use Rattle.proof_lines.specs.Lines.{LineTree, line_tree, line_trees}
use Rattle.nal_rules.specs.declared.verdicts.Fault.{Fault}
use Rattle.nal_rules.specs.declared.verdicts.Fault.TheVariants.{NoSuchRef, NotHyp, WrongShape, Capture, NotFresh, OutOfScope, NotTrue, TooManyAsks, NotAsk, NotClosed, StillOpen, NotGoal}
use Rattle.nal_rules.specs.Faults.{Applies, HasFault, IsFaultless, fault_number, line_at}
use Rattle.case_reasons.specs.LineReasons.{HasFaultFor, IsFaultlessFor}

some_same : {A : Type 0} {p q : A} → Some p ≡ Some q → p ≡ q
some_same s = cc

-- only the last fault asks for the goal
any_goal : (proof : List LineTree) (goal other : FormulaTree) (k : ℕ) (l : LineTree) (fault : Fault) → (fault ≡ NotGoal → ⊥) → Applies proof goal k l fault → Applies proof other k l fault
any_goal proof goal other k l NoSuchRef n a = a
any_goal proof goal other k l NotHyp n a = a
any_goal proof goal other k l WrongShape n a = a
any_goal proof goal other k l Capture n a = a
any_goal proof goal other k l NotFresh n a = a
any_goal proof goal other k l OutOfScope n a = a
any_goal proof goal other k l NotTrue n a = a
any_goal proof goal other k l TooManyAsks n a = a
any_goal proof goal other k l NotAsk n a = a
any_goal proof goal other k l NotClosed n a = a
any_goal proof goal other k l StillOpen n a = a
any_goal proof goal other k l NotGoal n a = absurd (n refl)

most : (fault : Fault) → fault_number fault ≤ 12
most NoSuchRef = omega arith
most NotHyp = omega arith
most WrongShape = omega arith
most Capture = omega arith
most NotFresh = omega arith
most OutOfScope = omega arith
most NotTrue = omega arith
most TooManyAsks = omega arith
most NotAsk = omega arith
most NotClosed = omega arith
most StillOpen = omega arith
most NotGoal = omega arith

earlier_other : (other fault : Fault) → fault_number other < fault_number fault → other ≡ NotGoal → ⊥
earlier_other other fault before is = let last : fault_number other ≡ 12 = ap fault_number is in let top = most fault in omega (arith, before, last, top)

-- no line stands in a proof without lines
pub no_line : (k : ℕ) (l : LineTree) → line_at [] k ≡ Some l → ⊥
no_line zero l e = cc e
no_line (suc k) l e = cc e

module _ (proof : List LineTree) (last : LineTree) (is_last : line_at proof (length proof) ≡ Some last) (k : ℕ) where
  -- so that is no fault of it

  not_goal : (fault : Fault) → HasFault proof last.formula k fault → fault ≡ NotGoal → ⊥
  not_goal fault has is =
      let applies : Applies proof last.formula k has.line NotGoal = subst (Applies proof last.formula k has.line) is has.applies in
      let same : has.line ≡ last = some_same (sym has.stands ∙ ap (line_at proof) applies.0 ∙ is_last) in
      applies.1 (ap (λ (l : LineTree). l.formula) same)

  pub fault_any : (o : Option Fault) → MatchOption o (IsFaultless proof last.formula k) (λ fault. HasFault proof last.formula k fault) → MatchOption o (IsFaultlessFor None proof k) (λ fault. HasFaultFor None proof k fault)
  fault_any None faultless = λ goal l fault stands other applies. faultless l stands fault (any_goal proof goal last.formula k l fault other applies)
  fault_any (Some fault) has = (
    not_goal fault has,
    λ goal. record {
      line = has.line;
      stands = has.stands;
      applies = any_goal proof last.formula goal k has.line fault (not_goal fault has) has.applies;
      first = λ other before applies. has.first other before (any_goal proof goal last.formula k has.line other (earlier_other other fault before) applies);
    },
  )

-- the line of the last number
pub last_line : (xs : List Line) (n : ℕ) (l : Line) → n ≡ length xs → (n ≡ 0 → Some l ≡ None) → (0 < n → Some l ≡ slice_get xs (n - 1)) → line_at (line_trees xs) (length (line_trees xs)) ≡ Some (line_tree l)
last_line xs zero l count none some = absurd (cc (none refl))
last_line xs (suc m) l count none some =
    let long : length (line_trees xs) ≡ suc m = length-map xs line_tree ∙ sym count in
    let place : suc m - 1 ≡ m = omega arith in
    ap (line_at (line_trees xs)) long ∙ slice_get-map line_tree xs m ∙ ap (option_map line_tree) (ap (slice_get xs) (sym place) ∙ sym (some (omega arith)))
