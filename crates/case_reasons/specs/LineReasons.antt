-- On what the lines of a proof rest.
use Rattle.std.specs.Prelude.{◌≡◌, ◌≢◌, ◌≤◌, ◌+◌, ℕ, List, Bool, false, Option, Some, None, length, slice_get}
use Rattle.nal_term.specs.Trees.{FormulaTree, says}
use Rattle.proof_lines.specs.declared.rules.Rule.TheVariants.{Label, Ask}
use Rattle.proof_lines.specs.Lines.{LineTree}
use Rattle.nal_rules.specs.Asking.{Asked, IsAsked, port_in}
use Rattle.nal_rules.specs.Faults.{Applies, HasFault, IsFaultless, line_at}
use Rattle.nal_rules.specs.Verdicts.{CaseTree, ask_place}
use Rattle.nal_rules.specs.declared.verdicts.Fault.{Fault}
use Rattle.nal_rules.specs.declared.verdicts.Fault.TheVariants.{NotGoal}
use Rattle.label_store.specs.LabelRows.{is_held}
use Rattle.policy_history.specs.declared.heads.Head.{Head}
use Rattle.policy_history.specs.Events.{EntryTree}
use Rattle.policy_history.specs.Machine.{replay}
use Rattle.label_holdings.specs.Holdings.{IsHeldBy}
use Rattle.case_reasons.specs.declared.lines.LineReason.{LineReason}
use Rattle.case_reasons.specs.declared.lines.LineReason.TheVariants.{Faulty, Held, Missing, Answered, NotAsked, NotBound, Derived}

-- the fault is the first that applies to line k; where no goal is set, this is whatever the goal were, and no fault is that it is not the goal
abbrev pub HasFaultFor : Option FormulaTree → List LineTree → ℕ → Fault → Type 0
HasFaultFor (Some goal) proof k fault = HasFault proof goal k fault
HasFaultFor None proof k fault = (fault ≢ NotGoal) × ((goal : FormulaTree) → HasFault proof goal k fault)

-- no fault applies to line k; where no goal is set, none but that it is not the goal
abbrev pub IsFaultlessFor : Option FormulaTree → List LineTree → ℕ → Type 0
IsFaultlessFor (Some goal) proof k = IsFaultless proof goal k
IsFaultlessFor None proof k = (goal : FormulaTree) (l : LineTree) (fault : Fault) → line_at proof k ≡ Some l → fault ≢ NotGoal → ¬ Applies proof goal k l fault

-- the port of the authority that an ask line asks
abbrev pub port_for : CaseTree → FormulaTree → Option ℕ
port_for c (says t s) = port_in c.bound t
port_for c _ = None

-- the line asks, and what is asked when the case is judged with these answers has, in its place, an ask of this port with this answer
pub record IsAnswered (c : CaseTree) (answers : List Bool) (proof : List LineTree) (k : ℕ) (l : LineTree) (port : ℕ) (answer : Bool) : Type 0 where
  pub ask : l.rule ≡ Ask
  pub bound : port_for c l.formula ≡ Some port
  pub asks : List Asked
  pub asked : IsAsked c answers asks
  pub ask_line : Asked
  pub place : slice_get asks (ask_place proof k) ≡ Some ask_line
  pub answered : ask_line.affirmed ≡ answer

-- the line asks, and what is asked then ends before it
pub record IsNotAsked (c : CaseTree) (answers : List Bool) (proof : List LineTree) (k : ℕ) (l : LineTree) (port : ℕ) : Type 0 where
  pub ask : l.rule ≡ Ask
  pub bound : port_for c l.formula ≡ Some port
  pub asks : List Asked
  pub asked : IsAsked c answers asks
  pub place : length asks ≤ ask_place proof k

-- `StandsBy h es p c answers proof k l reason`: line k, which is `l` and has no fault, rests on this
abbrev pub StandsBy : Head → List EntryTree → ℕ → CaseTree → List Bool → List LineTree → ℕ → LineTree → LineReason → Type 0
StandsBy h es p c answers proof k l (Faulty fault) = ⊥
StandsBy h es p c answers proof k l (Held by) = (l.rule ≡ Label) × IsHeldBy h es p l.formula by
StandsBy h es p c answers proof k l Missing = (l.rule ≡ Label) × (is_held (replay h es).labels p l.formula ≡ false)
StandsBy h es p c answers proof k l (Answered port answer) = IsAnswered c answers proof k l port answer
StandsBy h es p c answers proof k l (NotAsked port) = IsNotAsked c answers proof k l port
StandsBy h es p c answers proof k l NotBound = (l.rule ≡ Ask) × (port_for c l.formula ≡ None)
StandsBy h es p c answers proof k l Derived = (l.rule ≢ Label) × (l.rule ≢ Ask)

-- why line k, which is `l`, stands or not: its fault, whatever its rule; else what it rests on
abbrev pub IsLineReason : Head → List EntryTree → ℕ → CaseTree → List Bool → List LineTree → ℕ → LineTree → LineReason → Type 0
IsLineReason h es p c answers proof k l (Faulty fault) = HasFaultFor c.goal proof k fault
IsLineReason h es p c answers proof k l reason = IsFaultlessFor c.goal proof k × StandsBy h es p c answers proof k l reason

-- one for each line, in their order
pub record AreLineReasons (h : Head) (es : List EntryTree) (p : ℕ) (c : CaseTree) (answers : List Bool) (proof : List LineTree) (reasons : List LineReason) : Type 0 where
  pub count : length reasons ≡ length proof
  pub each : (i : ℕ) (l : LineTree) (reason : LineReason) → slice_get proof i ≡ Some l → slice_get reasons i ≡ Some reason → IsLineReason h es p c answers proof (i + 1) l reason
