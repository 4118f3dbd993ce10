-- What one line of a proof adds to a case.
use Rattle.std.specs.Prelude.{◌&&◌, ℕ, List, [], ◌∷◌, if◌then◌else◌}
use Rattle.nal_term.specs.Trees.{TermTree, FormulaTree}
use Rattle.proof_lines.specs.Lines.{LineTree}
use Rattle.nal_rules.specs.Faults.{is_ask, is_label}
use Rattle.goal_store.specs.GoalRows.{PortRow}
use Rattle.label_store.specs.LabelRows.{LabelRow, is_held}
use Rattle.policy_history.specs.Judged.{binding_for}

-- its formula, if it is a label line and the formula is held
abbrev pub label_of_line : List LabelRow → ℕ → LineTree → List FormulaTree
label_of_line rows p l = if is_label l && is_held rows p l.formula then l.formula ∷ [] else []

-- the binding of its principal, if it is an ask line and the principal has one
abbrev pub bindings_of_line : List PortRow → LineTree → List (TermTree × ℕ)
bindings_of_line rows l = if is_ask l then binding_for rows l.formula else []
