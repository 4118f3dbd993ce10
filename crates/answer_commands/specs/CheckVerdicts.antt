-- The verdict on what an input of `check` holds.
use Rattle.std.specs.Prelude.{◌≡◌, ◌↔◌, ◌∷◌, [], ℕ, List, filter, Bool, IsTrue, Contains, Some, codes}
use Rattle.std.specs.List.{flat_map, All}
use Rattle.nal_term.specs.Trees.{TermTree, FormulaTree, says}
use Rattle.nal_term.specs.Trees as tree
use Rattle.nal_subst.specs.Substitution.{formula_with}
use Rattle.proof_lines.specs.Lines.{LineTree}
use Rattle.nal_rules.specs.Faults.{is_ask}
use Rattle.nal_rules.specs.Derivation.{Derives}
use Rattle.nal_rules.specs.Verdicts.{CaseTree, IsVerdict}
use Rattle.nal_rules.specs.declared.verdicts.Verdict.{Verdict}
use Rattle.nal_rules.specs.declared.verdicts.Verdict.TheVariants.{Allowed, Denied}
use Rattle.answer_commands.specs.CheckForm.{CheckForm}

-- the principal of a formula `P says S`, bound to some port
abbrev pub bound_for : FormulaTree → List (TermTree × ℕ)
bound_for (says p s) = (p, 0) ∷ []
bound_for _ = []

-- what is judged: the goal with the subject's name in place of `?subject`; every principal of the proof counts
-- as bound
abbrev pub case_of : CheckForm → CaseTree
case_of form = record {
  goal = formula_with (codes "subject") (tree.name form.subject) form.goal;
  proof = Some form.proof;
  labels = form.labels;
  bound = flat_map (λ l. bound_for l.formula) form.proof;
}

-- the answers to these ask lines: Yes exactly where the formula is one of the yes formulas
pub data AreAnswers (affirmed : List FormulaTree) : List LineTree → List Bool → Type 0 where
  none : AreAnswers affirmed [] []
  answer : {l : LineTree} {ls : List LineTree} {b : Bool} {bs : List Bool} → IsTrue b ↔ Contains affirmed l.formula → AreAnswers affirmed ls bs → AreAnswers affirmed (l ∷ ls) (b ∷ bs)

-- the verdict on what the input holds
abbrev pub IsVerdictOn : CheckForm → Verdict → Type 0
IsVerdictOn form verdict = (answers : List Bool) × AreAnswers form.yes (filter is_ask form.proof) answers × IsVerdict (case_of form) answers verdict

-- what `allowed` rests on: the goal is derived from labels that are held and from yes formulas
pub record IsJustified (form : CheckForm) : Type 0 where
  pub goal : FormulaTree
  pub labels : List FormulaTree
  pub answers : List FormulaTree
  pub formed : formula_with (codes "subject") (tree.name form.subject) form.goal ≡ Some goal
  pub held : All (Contains form.labels) labels
  pub affirmed : All (Contains form.yes) answers
  pub derived : Derives labels answers goal

-- the verdict is justified where it is that the input is allowed
abbrev pub IsJustifiedIfAllowed : CheckForm → Verdict → Type 0
IsJustifiedIfAllowed form Allowed = IsJustified form
IsJustifiedIfAllowed form (Denied cause) = Unit {0}
