-- What the readers of parts of an input answer.
use Rattle.std.specs.Prelude.{◌≡◌, ◌+◌, ℕ, List}
use Rattle.policy_history.specs.declared.heads.Head.{Head}
use Rattle.policy_history.specs.Events.{EntryTree}
use Rattle.policy_history.specs.Values.{entry_trees}
use Rattle.explain_form.specs.declared.read.ExplainForm as read
use Rattle.explain_form.specs.declared.read.ExplainError.{ExplainError}
use Rattle.explain_form.specs.declared.read.ExplainError.TheVariants.{Wrong, Memory}
use Rattle.explain_form.specs.ExplainForm.{ExplainTree, IsWrongAsked, IsWrongLine}

-- the plain value of what was read
abbrev pub form_tree : read.ExplainForm → ExplainTree
form_tree form = record { head = form.journal.head; entries = entry_trees form.journal.entries; question = form.question }

-- the line that is told is the lowest that is wrong
abbrev pub IsWrongInput : List ℕ → ExplainError → Type 0
IsWrongInput text (Wrong k) = IsWrongLine text k
IsWrongInput text Memory = Unit {0}

-- the line that is told is the lowest that is wrong of a text behind a policy, so many lines standing before it
abbrev pub IsWrongAfter : Head → List EntryTree → ℕ → List ℕ → ExplainError → Type 0
IsWrongAfter h es before text (Wrong k) = (j : ℕ) × (k ≡ before + j) × IsWrongAsked h es text j
IsWrongAfter h es before text Memory = Unit {0}
