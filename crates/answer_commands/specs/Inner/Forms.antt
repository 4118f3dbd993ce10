-- The plain values of what the program reads of an input.
use Rattle.std.specs.Prelude.{◌≡◌, ◌+◌, ℕ, List, map}
use Rattle.nal_term.specs.Trees.{FormulaTree, formula_tree}
use Rattle.run_streams.specs.Flaws.{flaw_tree}
use Rattle.input_flaws.specs.ProofFlaws.{IsProofFlaw}
use Rattle.answer_commands.specs.declared.keys.FormulaKey.{FormulaKey}
use Rattle.proof_lines.specs.Lines.{line_trees}
use Rattle.proof_text.specs.ProofText.{IsProofText, IsRefused}
use Rattle.proof_text.specs.declared.read.ProofError.{ProofError}
use Rattle.answer_commands.specs.declared.check_form.Input.{Input}
use Rattle.answer_commands.specs.declared.answering.AnswerError.{AnswerError}
use Rattle.answer_commands.specs.declared.answering.AnswerError.TheVariants.{Wrong, Memory}
use Rattle.answer_commands.specs.declared.stages.Progress.{Progress}
use Rattle.answer_commands.specs.declared.stages.Progress.TheVariants.{HeaderDue, SubjectDue, LabelsDue, YesDue, ProofDue}
use Rattle.answer_commands.specs.CheckForm.{CheckForm, Stage, header_due, subject_due, labels_due, yes_due, proof_due, IsWrongAt, IsLineOfError}

-- the formula of a key
abbrev pub tree_of : FormulaKey → FormulaTree
tree_of key = formula_tree key.formula.value

-- the formulas of keys
abbrev pub formula_trees : List FormulaKey → List FormulaTree
formula_trees keys = map tree_of keys

-- the stage that the program's progress is
abbrev pub stage_of : Progress → Stage
stage_of HeaderDue = header_due
stage_of SubjectDue = subject_due
stage_of (LabelsDue x ls) = labels_due x (formula_trees ls.items)
stage_of (YesDue x ls ys) = yes_due x (formula_trees ls.items) (formula_trees ys.items)
stage_of (ProofDue x ls ys g) = proof_due x (formula_trees ls.items) (formula_trees ys.items) (formula_tree g)

-- the plain value of what was read
abbrev pub form_of : Input → CheckForm
form_of i = record {
  subject = i.subject;
  labels = formula_trees i.labels.items;
  yes = formula_trees i.yes.items;
  goal = formula_tree i.goal;
  proof = line_trees i.proof;
}

-- what was read holds these parts, and the text after them is its proof
pub record HoldsProof (subject : List ℕ) (labels yes : List FormulaTree) (goal : FormulaTree) (rest : List ℕ) (i : Input) : Type 0 where
  pub subject_kept : i.subject ≡ subject
  pub labels_kept : formula_trees i.labels.items ≡ labels
  pub yes_kept : formula_trees i.yes.items ≡ yes
  pub goal_kept : formula_tree i.goal ≡ goal
  pub proof_read : IsProofText rest (line_trees i.proof)

-- the text after the goal is wrong in the line that is told, `lines` standing before it, and this is wrong with it
abbrev pub IsWrongProof : List ℕ → ℕ → AnswerError → Type 0
IsWrongProof rest lines (Wrong k flaw) =
    (error : ProofError) × (j : ℕ) × IsRefused rest error × IsLineOfError rest error j × (k ≡ lines + j) × IsProofFlaw rest error (flaw_tree flaw)
IsWrongProof rest lines Memory = Unit {0}

-- the line that is told is the lowest that is wrong, and this is wrong with it
abbrev pub IsWrongLine : List ℕ → AnswerError → Type 0
IsWrongLine text (Wrong k flaw) = IsWrongAt text k (flaw_tree flaw)
IsWrongLine text Memory = Unit {0}
