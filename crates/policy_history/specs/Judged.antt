-- What the guard judges at a point of the history, which verdicts last, and which entries touch what they rest on.
use Rattle.std.specs.Prelude.{◌≡◌, ◌≤◌, ◌+◌, ◌%◌, ℕ, List, [], ◌∷◌, ◌++◌, filter, length, Option, Some, None, option_map, option_and_then, unwrap_or, codes, slice_get}
use Rattle.std.specs.List.{flat_map}
use Rattle.nal_term.specs.Trees.{TermTree, FormulaTree, name, says}
use Rattle.nal_subst.specs.Substitution.{formula_with}
use Rattle.proof_lines.specs.Lines.{LineTree}
use Rattle.nal_rules.specs.Faults.{is_ask, is_label, formulas_where}
use Rattle.nal_rules.specs.Verdicts.{CaseTree, IsVerdict}
use Rattle.nal_rules.specs.Asking.{lines_of}
use Rattle.nal_rules.specs.declared.verdicts.Cause.TheVariants.{GoalUnset, NoProof, Line}
use Rattle.nal_rules.specs.declared.verdicts.Verdict.{Verdict}
use Rattle.nal_rules.specs.declared.verdicts.Verdict.TheVariants.{Allowed, Denied}
use Rattle.object_table.specs.Objects.{number_of}
use Rattle.goal_store.specs.GoalRows.{PortRow, goal_of, port_of}
use Rattle.proof_store.specs.Cases.{CaseRow, proof_of, number_of as case_number}
use Rattle.label_store.specs.LabelRows.{LabelRow, is_held}
use Rattle.policy_history.specs.declared.heads.Head.{Head}
use Rattle.policy_history.specs.Events.{EventTree, EntryTree, transfer, delete, set_goal, clear_goal, set_proof, clear_proof, name_of}
use Rattle.policy_history.specs.States.{State}
use Rattle.policy_history.specs.Machine.{replay}

-- the goal of an operation on an object for a subject: its name stands in place of `?subject`
abbrev pub goal_for : Head → State → ℕ → List ℕ → ℕ → Option FormulaTree
goal_for h s p op object = option_and_then (formula_with (codes "subject") (name (name_of h.principals p))) (goal_of s.goals op object)

-- the proof that is registered for a subject, an operation and an object
abbrev pub proof_for : State → ℕ → List ℕ → ℕ → Option (List LineTree)
proof_for s p op object = option_and_then (proof_of s.cases) (case_number s.cases p op object)

-- the formulas of label lines that a subject holds, in the order of the lines
abbrev pub labels_for : List LabelRow → ℕ → List LineTree → List FormulaTree
labels_for rows p ls = filter (is_held rows p) (formulas_where is_label ls)

-- the binding of the principal of a statement, where it has one
abbrev pub binding_for : List PortRow → FormulaTree → List (TermTree × ℕ)
binding_for rows (says t f) = bound_to t (port_of rows t)
  where
    bound_to : TermTree → Option ℕ → List (TermTree × ℕ)
    bound_to t None = []
    bound_to t (Some port) = (t, port) ∷ []
binding_for rows _ = []

-- the bindings of the principals of ask lines, in the order of the lines, one for each that has one
abbrev pub bindings_for : List PortRow → List LineTree → List (TermTree × ℕ)
bindings_for rows ls = flat_map (binding_for rows) (formulas_where is_ask ls)

-- what is judged when a subject asks for an operation on an object
abbrev pub case_at : Head → State → ℕ → List ℕ → ℕ → CaseTree
case_at h s p op object = record {
  goal = goal_for h s p op object;
  proof = proof_for s p op object;
  labels = labels_for s.labels p (unwrap_or (proof_for s p op object) []);
  bound = bindings_for s.ports (unwrap_or (proof_for s p op object) []);
}

-- the verdict rests on the goal, the proof and the subject's labels alone, and on no more labels that are not held
abbrev pub IsLasting : CaseTree → Verdict → Type 0
IsLasting c Allowed = filter is_ask (lines_of c) ≡ []
IsLasting c (Denied GoalUnset) = Unit {0}
IsLasting c (Denied NoProof) = Unit {0}
IsLasting c (Denied (Line k fault)) = Unit {0}
IsLasting c _ = ⊥

-- the case of a row of the proofs
abbrev pub case_of_row : Head → State → CaseRow → CaseTree
case_of_row h s row = case_at h s row.0 row.1 row.2

-- in this state, the case with this number has this verdict, without an answer of any authority
pub record IsRightIn (h : Head) (s : State) (k : ℕ) (verdict : Verdict) : Type 0 where
  pub row : CaseRow
  pub stands : slice_get s.cases k ≡ Some row
  pub lasting : IsLasting (case_of_row h s row) verdict
  pub told : IsVerdict (case_of_row h s row) [] verdict

-- the same at the end of a history
abbrev pub IsRight : Head → List EntryTree → ℕ → Verdict → Type 0
IsRight h es k verdict = IsRightIn h (replay h es) k verdict

-- how many regions all objects share, and how many all principals
abbrev pub region_count : ℕ
region_count = 256

-- the region of an object, and of what a principal holds, which is also that of others
abbrev pub object_region : ℕ → ℕ
object_region n = n % region_count

abbrev pub store_region : ℕ → ℕ
store_region p = region_count + p % region_count

-- the region that an event of principal p touches: a change of a goal or a proof that of the object, a label that is
-- given away or deleted that of its holder, and nothing else any
abbrev pub region_in : State → ℕ → EventTree → Option ℕ
region_in s p (transfer k to) = Some (store_region p)
region_in s p (delete k) = Some (store_region p)
region_in s p (set_goal op object g) = option_map object_region (number_of s.objects object)
region_in s p (clear_goal op object) = option_map object_region (number_of s.objects object)
region_in s p (set_proof op object ls) = option_map object_region (number_of s.objects object)
region_in s p (clear_proof op object) = option_map object_region (number_of s.objects object)
region_in s p _ = None

-- the entry that follows the history touches the region
abbrev pub Touches : Head → List EntryTree → EntryTree → ℕ → Type 0
Touches h es e region = region_in (replay h es) e.principal e.event ≡ Some region

-- no entry behind the first `from` touches the region
abbrev pub IsUntouched : Head → List EntryTree → ℕ → ℕ → Type 0
IsUntouched h es from region =
    (before : List EntryTree) (e : EntryTree) (later : List EntryTree) → es ≡ before ++ e ∷ later → from ≤ length before → ¬ Touches h before e region

-- the case with this number is of this object and this subject
pub record IsHome (h : Head) (es : List EntryTree) (case object subject : ℕ) : Type 0 where
  pub row : CaseRow
  pub stands : slice_get (replay h es).cases case ≡ Some row
  pub object_is : row.2 ≡ object
  pub subject_is : row.0 ≡ subject
