-- The plain values of what the reader has read.
use Rattle.std.specs.Prelude.{◌≡◌, ◌<◌, ℕ, List, All, length, map}
use Rattle.nal_term.specs.Free.{IsClosed}
use Rattle.nal_term.specs.Trees.{TermTree, FormulaTree, formula_tree, says}
use Rattle.form_lines.specs.Statements.{IsStatement}
use Rattle.prove_form.specs.declared.answers.ProveError.{ProveError}
use Rattle.prove_form.specs.declared.answers.ProveError.TheVariants.{Wrong, Memory}
use Rattle.prove_form.specs.declared.givens.Givens as read
use Rattle.prove_form.specs.declared.givens.ProveForm as read_form
use Rattle.prove_form.specs.declared.progress.ProveProgress.{ProveProgress}
use Rattle.prove_form.specs.declared.progress.ProveProgress.TheVariants.{HeaderDue, SubjectDue, GoalDue, EndDue, Ended}
use Rattle.prove_form.specs.ProveForm.{Givens, ProveForm, Stage, header_due, subject_due, goal_due, end_due, ended, form_with, with_label, IsSaidGoal, IsWrongLine}

-- the plain value of what is given
abbrev pub givens_tree : read.Givens → Givens
givens_tree g = record { subject = g.subject; labels = map formula_tree g.labels.items }

-- the plain value of what was read
abbrev pub form_tree : read_form.ProveForm → ProveForm
form_tree form = form_with (givens_tree form.givens) (formula_tree form.goal)

-- the stage that the reader's progress is
abbrev pub stage_of : ProveProgress → Stage
stage_of HeaderDue = header_due
stage_of SubjectDue = subject_due
stage_of (GoalDue g) = goal_due (givens_tree g)
stage_of (EndDue form) = end_due (form_tree form)
stage_of (Ended form) = ended (form_tree form)

-- the stage to which the text of a label leads
pub record IsAfterLabel (g : Givens) (text : List ℕ) (next : Stage) : Type 0 where
  pub room : length g.labels < 256
  pub label : FormulaTree
  pub formed : IsStatement text label
  pub next_is : next ≡ goal_due (with_label g label)

-- the stage to which the text of the goal leads
pub record IsAfterGoal (g : Givens) (text : List ℕ) (next : Stage) : Type 0 where
  pub goal : FormulaTree
  pub formed : IsSaidGoal text goal
  pub next_is : next ≡ end_due (form_with g goal)

-- the labels are closed, and the goal is what somebody says
pub record IsSaid (form : ProveForm) : Type 0 where
  pub closed : All IsClosed form.givens.labels
  pub said : (p : TermTree) × (s : FormulaTree) × (form.goal ≡ says p s)

-- the line that is told is the lowest that is wrong
abbrev pub IsWrongInput : List ℕ → ProveError → Type 0
IsWrongInput text (Wrong k) = IsWrongLine text k
IsWrongInput text Memory = Unit {0}
