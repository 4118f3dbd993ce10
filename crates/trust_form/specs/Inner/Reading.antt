-- The plain values of what the reader has read.
use Rattle.std.specs.Prelude.{◌≡◌, ℕ, List, map}
use Rattle.nal_term.specs.Names.{IsName}
use Rattle.nal_term.specs.Trees.{TermTree, FormulaTree, term_trees, formula_tree}
use Rattle.form_lines.specs.Statements.{IsGoal, IsStatement}
use Rattle.trust_form.specs.declared.answers.TrustError.{TrustError}
use Rattle.trust_form.specs.declared.answers.TrustError.TheVariants.{Wrong, Memory}
use Rattle.trust_form.specs.declared.givens.Givens as read
use Rattle.trust_form.specs.declared.givens.TrustForm as read_form
use Rattle.trust_form.specs.declared.progress.TrustProgress.{TrustProgress}
use Rattle.trust_form.specs.declared.progress.TrustProgress.TheVariants.{HeaderDue, SubjectDue, GoalDue, EndDue, Ended}
use Rattle.trust_form.specs.declared.words.Word.{Word}
use Rattle.trust_form.specs.declared.words.Word.TheVariants.{Label, Untrusted, Loose, Fact, Goal}
use Rattle.trust_form.specs.TrustForm.{Givens, TrustForm, Stage, header_due, subject_due, goal_due, end_due, ended, form_with, with_label, with_untrusted, with_loose, with_fact, IsPrincipal, IsFact, IsWrongLine}

-- the plain value of what is given
abbrev pub givens_tree : read.Givens → Givens
givens_tree g = record {
  subject = g.subject;
  labels = map formula_tree g.labels.items;
  untrusted = term_trees g.untrusted.items;
  loose = g.loose.items;
  facts = map formula_tree g.facts.items;
}

-- the plain value of what was read
abbrev pub form_tree : read_form.TrustForm → TrustForm
form_tree form = form_with (givens_tree form.givens) (formula_tree form.goal)

-- the stage that the reader's progress is
abbrev pub stage_of : TrustProgress → Stage
stage_of HeaderDue = header_due
stage_of SubjectDue = subject_due
stage_of (GoalDue g) = goal_due (givens_tree g)
stage_of (EndDue form) = end_due (form_tree form)
stage_of (Ended form) = ended (form_tree form)

-- what the text behind a word adds to the givens
abbrev pub Adds : Word → Givens → List ℕ → Givens → Type 0
Adds Label g text next = (f : FormulaTree) × IsStatement text f × (next ≡ with_label g f)
Adds Untrusted g text next = (p : TermTree) × IsPrincipal text p × (next ≡ with_untrusted g p)
Adds Loose g text next = IsName text × (next ≡ with_loose g text)
Adds Fact g text next = (f : FormulaTree) × IsFact text f × (next ≡ with_fact g f)
Adds Goal g text next = ⊥

-- the stage to which the text behind a word leads
abbrev pub IsAfter : Word → Givens → List ℕ → Stage → Type 0
IsAfter Goal g text next = (f : FormulaTree) × IsGoal text f × (next ≡ end_due (form_with g f))
IsAfter word g text next = (h : Givens) × Adds word g text h × (next ≡ goal_due h)

-- the line that is told is the lowest that is wrong
abbrev pub IsWrongInput : List ℕ → TrustError → Type 0
IsWrongInput text (Wrong k) = IsWrongLine text k
IsWrongInput text Memory = Unit {0}
