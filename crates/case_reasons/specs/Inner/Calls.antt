-- A call, and how it was judged, in the words of the definitions.
use Rattle.std.specs.Prelude.{◌≡◌, ℕ, List, Bool, Option, Some}
use Rattle.nal_term.specs.Trees.{FormulaTree}
use Rattle.proof_lines.specs.Lines.{LineTree}
use Rattle.nal_rules.specs.Asking.{case_tree, lines_of}
use Rattle.nal_rules.specs.Verdicts.{CaseTree, IsVerdict}
use Rattle.object_table.specs.Objects.{number_of}
use Rattle.policy_history.specs.Events.{EntryTree}
use Rattle.policy_history.specs.Judged.{case_at, goal_for, proof_for}
use Rattle.policy_history.specs.States.{State}
use Rattle.policy_history.specs.Values.{entry_trees, state_after}
use Rattle.label_holdings.specs.Tenures.{AreTenures}
use Rattle.label_holdings.specs.declared.label_tenures.Tenure.{Tenure}
use Rattle.case_reasons.specs.declared.explanations.Call.{Call}
use Rattle.case_reasons.specs.declared.explanations.Explanation.{Explanation}
use Rattle.case_reasons.specs.declared.explanations.GoalReason.{GoalReason}
use Rattle.case_reasons.specs.declared.explanations.ObjectReason.{ObjectReason}
use Rattle.case_reasons.specs.declared.explanations.ProofReason.{ProofReason}
use Rattle.case_reasons.specs.declared.lines.Judged.{Judged}
use Rattle.case_reasons.specs.declared.lines.LineReason.{LineReason}
use Rattle.case_reasons.specs.Explanations.{IsExplanation}
use Rattle.case_reasons.specs.LineReasons.{AreLineReasons, IsLineReason, StandsBy}
use Rattle.case_reasons.specs.Origins.{IsGoalReason, IsObjectReason, IsRegisteredBy}
use Rattle.case_reasons.specs.Inner.Answered.{IsLabelReason}

-- ---- A call that was judged

abbrev pub history_of : Judged → List EntryTree
history_of j = entry_trees j.journal.now.entries

abbrev pub case_of : Judged → CaseTree
case_of j = case_tree j.case.now

-- it has this verdict
abbrev pub IsTold : Judged → Type 0
IsTold j = IsVerdict (case_of j) j.answers.now j.verdict

abbrev pub HasTenures : Judged → List Tenure → Type 0
HasTenures j tenures = AreTenures j.journal.now.head (history_of j) tenures

-- its proof is this
abbrev pub HasProof : Judged → List LineTree → Type 0
HasProof j proof = (case_of j).proof ≡ Some proof

-- the reasons of a proof's lines, of one of them, of one without a fault, and of a label line's formula
abbrev pub HasReasons : Judged → List LineTree → List LineReason → Type 0
HasReasons j proof reasons = AreLineReasons j.journal.now.head (history_of j) j.principal (case_of j) j.answers.now proof reasons

abbrev pub HasReason : Judged → List LineTree → ℕ → LineTree → LineReason → Type 0
HasReason j proof k l reason = IsLineReason j.journal.now.head (history_of j) j.principal (case_of j) j.answers.now proof k l reason

abbrev pub HasGround : Judged → ℕ → LineTree → LineReason → Type 0
HasGround j k l reason = StandsBy j.journal.now.head (history_of j) j.principal (case_of j) j.answers.now (lines_of (case_of j)) k l reason

abbrev pub HasLabelReason : Judged → FormulaTree → LineReason → Type 0
HasLabelReason j f reason = IsLabelReason j.journal.now.head (history_of j) j.principal f reason

-- ---- A call of an object that is there

abbrev pub entries_of : Call → List EntryTree
entries_of c = entry_trees c.journal.now.entries

abbrev pub state_of : Call → State
state_of c = state_after c.journal.now

-- the object has this number
abbrev pub IsThere : Call → Type 0
IsThere c = number_of (state_of c).objects c.object.now ≡ Some c.number

abbrev pub goal_of_call : Call → Option FormulaTree
goal_of_call c = goal_for c.journal.now.head (state_of c) c.principal c.op.now c.number

abbrev pub proof_of_call : Call → Option (List LineTree)
proof_of_call c = proof_for (state_of c) c.principal c.op.now c.number

abbrev pub case_of_call : Call → CaseTree
case_of_call c = case_at c.journal.now.head (state_of c) c.principal c.op.now c.number

-- where its object, its goal and its proof come from, and why it has its verdict
abbrev pub IsObjectOf : Call → ObjectReason → Type 0
IsObjectOf c r = IsObjectReason c.journal.now.head (entries_of c) c.object.now c.number r

abbrev pub IsGoalOf : Call → Option GoalReason → Type 0
IsGoalOf c r = IsGoalReason c.journal.now.head (entries_of c) c.principal c.op.now c.object.now c.number r

abbrev pub IsProofOf : Call → ProofReason → Type 0
IsProofOf c r = IsRegisteredBy c.journal.now.head (entries_of c) c.principal c.op.now c.object.now c.number r

abbrev pub IsExplanationOf : Call → List Bool → Explanation → Type 0
IsExplanationOf c answers x = IsExplanation c.journal.now.head (entries_of c) c.principal c.op.now c.object.now answers c.number x
