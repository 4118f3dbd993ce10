-- The formulas that stand in the lines of an input.
use Rattle.std.specs.Prelude.{◌≡◌, ℕ, List, codes}
use Rattle.nal_term.specs.Trees.{TermTree, FormulaTree, says}
use Rattle.nal_term.specs.Free.{IsClosed, IsClosedBut}
use Rattle.nal_parse.specs.Grammar.{IsFormulaText}

-- the text of a label or of a yes formula: a closed formula `P says S`
pub record IsStatement (text : List ℕ) (f : FormulaTree) : Type 0 where
  pub spelled : IsFormulaText text f
  pub closed : IsClosed f
  pub said : (p : TermTree) × (s : FormulaTree) × (f ≡ says p s)

-- the text of a goal: a formula whose only free variable is `?subject`
pub record IsGoal (text : List ℕ) (f : FormulaTree) : Type 0 where
  pub spelled : IsFormulaText text f
  pub closed : IsClosedBut (codes "subject") f
