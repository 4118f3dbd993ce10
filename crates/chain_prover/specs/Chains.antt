-- Chains of delegations, and the proofs that they give.
use Rattle.std.specs.Prelude.{◌≡◌, ◌≤◌, ◌+◌, ◌++◌, ◌∷◌, [], ℕ, List, None, Contains, length}
use Rattle.nal_term.specs.Trees.{TermTree, subprincipal, FormulaTree, says, speaks_for, speaks_for_on}
use Rattle.proof_lines.specs.declared.rules.Rule.{Rule}
use Rattle.proof_lines.specs.declared.rules.Rule.TheVariants.{Label, SfSub, SfE, SfOnE, Handoff, HandoffOn}
use Rattle.proof_lines.specs.Lines.{LineTree}
use Rattle.nal_rules.specs.Scope.{IsInScope}

-- how a chain goes on from one principal to the next
pub data Step : Type 0 where
  -- to this principal, which says that the one before speaks for it
  delegation : TermTree → Step
  -- to this principal, which says so on these names
  restricted : TermTree → List (List ℕ) → Step
  -- to the subprincipal of this name
  part : List ℕ → Step

-- a chain: its first principal, and then step by step the further ones
pub data Chain : Type 0 where
  start : TermTree → Chain
  onward : Chain → Step → Chain

-- the principal to which a step leads from this one
abbrev pub next : TermTree → Step → TermTree
next x (delegation y) = y
next x (restricted y names) = y
next x (part n) = subprincipal x n

-- the last principal of a chain
abbrev pub last_of : Chain → TermTree
last_of (start a) = a
last_of (onward c s) = next (last_of c) s

-- the labels let a statement go from the principal on by the step
abbrev pub IsStep : List FormulaTree → FormulaTree → TermTree → Step → Type 0
IsStep labels f x (delegation y) = Contains labels (says y (speaks_for x y))
IsStep labels f x (restricted y names) = Contains labels (says y (speaks_for_on x y names)) × IsInScope names f
IsStep labels f x (part n) = Unit {0}

-- the first principal of the chain states it by a label, and the labels let each step be taken
abbrev pub IsChain : List FormulaTree → FormulaTree → Chain → Type 0
IsChain labels f (start a) = Contains labels (says a f)
IsChain labels f (onward c s) = IsChain labels f c × IsStep labels f (last_of c) s

-- a line of this rule, with these references and this formula
abbrev pub line : Rule → List ℕ → FormulaTree → LineTree
line rule refs f = record { rule = rule; refs = refs; term = None; formula = f }

-- the lines of a step from `x`, where line k is the last one before, in which `x` states it
abbrev pub step_lines : FormulaTree → ℕ → TermTree → Step → List LineTree
step_lines f k x (delegation y) =
    line Label [] (says y (speaks_for x y)) ∷ line Handoff ((k + 1) ∷ []) (speaks_for x y) ∷ line SfE ((k + 2) ∷ k ∷ []) (says y f) ∷ []
step_lines f k x (restricted y names) =
    line Label [] (says y (speaks_for_on x y names)) ∷ line HandoffOn ((k + 1) ∷ []) (speaks_for_on x y names) ∷ line SfOnE ((k + 2) ∷ k ∷ []) (says y f) ∷ []
step_lines f k x (part n) =
    line SfSub [] (speaks_for x (subprincipal x n)) ∷ line SfE ((k + 1) ∷ k ∷ []) (says (subprincipal x n) f) ∷ []

-- the lines of the proof that a chain gives
abbrev pub chain_lines : FormulaTree → Chain → List LineTree
chain_lines f (start a) = line Label [] (says a f) ∷ []
chain_lines f (onward c s) = chain_lines f c ++ step_lines f (length (chain_lines f c)) (last_of c) s

-- the lines are the proof of a chain from the labels to the goal, and are at most 256
pub record IsChainProof (labels : List FormulaTree) (goal : FormulaTree) (lines : List LineTree) : Type 0 where
  pub chain : Chain
  pub statement : FormulaTree
  pub stands : IsChain labels statement chain
  pub reaches : goal ≡ says (last_of chain) statement
  pub lines_are : lines ≡ chain_lines statement chain
  pub bound : length lines ≤ 256
