-- What is known of principals while a chain is looked for, from the goal's principal back.
use Rattle.std.specs.Prelude.{◌≡◌, ◌≤◌, ◌<◌, ◌+◌, ◌++◌, ℕ, List, All, Bool, true, Option, None, Some, Contains, length, slice_get}
use Rattle.std.specs.Option.{MatchOption}
use Rattle.nal_term.specs.declared.terms.Term.{Term}
use Rattle.std.specs.Borrow.{Bor}
use Rattle.nal_term.specs.Trees.{TermTree, FormulaTree, says, speaks_for, speaks_for_on, subprincipal, term_tree}
use Rattle.proof_lines.specs.Lines.{LineTree}
use Rattle.nal_rules.specs.Scope.{IsInScope}
use Rattle.chain_prover.specs.declared.paths.Node.{Node}
use Rattle.chain_prover.specs.declared.paths.Lead.{Lead}
use Rattle.chain_prover.specs.declared.paths.Lead.TheVariants.{Goal, Grant, Part}
use Rattle.chain_prover.specs.Inner.Numbers.{IsNumber, size_of}
use Rattle.chain_prover.specs.Chains.{Step, delegation, restricted, part, next, Chain, last_of, IsStep, IsChain, chain_lines}

-- the step to the one who grants it, on all or on some names
abbrev pub grant_step : TermTree → Option (Bor (List (List ℕ))) → Step
grant_step y None = delegation y
grant_step y (Some names) = restricted y names.now

-- the label lets a statement go from the principal on by the step
abbrev pub Grants : FormulaTree → FormulaTree → TermTree → Step → Type 0
Grants f label x (delegation y) = label ≡ says y (speaks_for x y)
Grants f label x (restricted y names) = (label ≡ says y (speaks_for_on x y names)) × IsInScope names f
Grants f label x (part n) = ⊥

-- how many lines a step has
abbrev pub step_count : Step → ℕ
step_count (delegation y) = 3
step_count (restricted y names) = 3
step_count (part n) = 2

-- a node is of this principal, and its lines are so many
abbrev pub IsReached : List Node → TermTree → ℕ → Type 0
IsReached nodes x k = (i : ℕ) × (n : Node) × (slice_get nodes i ≡ Some n) × (term_tree n.principal.now ≡ x) × (n.lines ≡ k)

-- or fewer
abbrev pub IsReachedWithin : List Node → TermTree → ℕ → Type 0
IsReachedWithin nodes x k = (j : ℕ) × (j ≤ k) × IsReached nodes x j

-- how a node of the principal `x` with k lines leads on to the goal's principal `b`
abbrev pub IsLead : List FormulaTree → FormulaTree → TermTree → List Node → TermTree → ℕ → Lead → Type 0
IsLead labels f b nodes x k Goal = (x ≡ b) × (k ≡ 0)
IsLead labels f b nodes x k (Grant scope j) = (m : Node) × (slice_get nodes j ≡ Some m) × IsStep labels f x (grant_step (term_tree m.principal.now) scope) × (k ≡ m.lines + 3)
IsLead labels f b nodes x k (Part j) = (m : Node) × (slice_get nodes j ≡ Some m) × ((n : List ℕ) × (term_tree m.principal.now ≡ subprincipal x n)) × (k ≡ m.lines + 2)

-- each node leads on to the goal's principal
abbrev pub AreLinked : List FormulaTree → FormulaTree → TermTree → List Node → Type 0
AreLinked labels f b nodes = (i : ℕ) (n : Node) → slice_get nodes i ≡ Some n → IsLead labels f b nodes (term_tree n.principal.now) n.lines n.lead

-- a node has the size and the number of its principal
abbrev pub IsKnown : List (Bor Term) → Node → Type 0
IsKnown terms n = (n.size ≡ size_of (term_tree n.principal.now)) × MatchOption n.number ((i : ℕ) → ¬ IsNumber terms i (term_tree n.principal.now)) (λ i. IsNumber terms i (term_tree n.principal.now))

-- each node has
abbrev pub AreKnown : List (Bor Term) → List Node → Type 0
AreKnown terms nodes = (i : ℕ) (n : Node) → slice_get nodes i ≡ Some n → IsKnown terms n

-- the principal, from which k lines lead on, does not state it by a label, and there are nodes of all from which a step
-- leads to it
pub record IsExpanded (labels : List FormulaTree) (f : FormulaTree) (nodes : List Node) (y : TermTree) (k : ℕ) : Type 0 where
  pub unsaid : Contains labels (says y f) → ⊥
  pub stepped : (x : TermTree) (s : Step) → IsStep labels f x s → next x s ≡ y → IsReachedWithin nodes x (k + step_count s)

-- each node with fewer than n lines is expanded
abbrev pub AreExpandedBelow : List FormulaTree → FormulaTree → List Node → ℕ → Type 0
AreExpandedBelow labels f nodes n = (y : TermTree) (k : ℕ) → IsReached nodes y k → k < n → IsExpanded labels f nodes y k

-- the principal is expanded with at most n lines
abbrev pub IsExpandedWithin : List FormulaTree → FormulaTree → List Node → TermTree → ℕ → Type 0
IsExpandedWithin labels f nodes y n = (k : ℕ) × (k ≤ n) × IsExpanded labels f nodes y k

-- the principals that are marked are expanded with at most n lines, and there are as many marks as numbers
pub record AreDone (terms : List (Bor Term)) (labels : List FormulaTree) (f : FormulaTree) (nodes : List Node) (marks : List Bool) (n : ℕ) : Type 0 where
  pub right : (i : ℕ) (y : TermTree) → IsNumber terms i y → slice_get marks i ≡ Some true → IsExpandedWithin labels f nodes y n
  pub count : length marks ≡ length terms

-- nodes with more than n lines were added, each of which leads on
pub record Extends (terms : List (Bor Term)) (labels : List FormulaTree) (f : FormulaTree) (before after : List Node) (n : ℕ) : Type 0 where
  pub added : List Node
  pub after_is : after ≡ before ++ added
  pub above : All (λ m. n < m.lines) added
  pub linked : (b : TermTree) → AreLinked labels f b before → AreLinked labels f b after
  pub known : AreKnown terms before → AreKnown terms after

-- the nodes before this place have fewer than n lines
pub record AreBelow (nodes : List Node) (place n : ℕ) : Type 0 where
  pub within : place ≤ length nodes
  pub fewer : (i : ℕ) (m : Node) → i < place → slice_get nodes i ≡ Some m → m.lines < n

-- every chain to the principal has more than n lines
abbrev pub NeedsMore : List FormulaTree → FormulaTree → TermTree → ℕ → Type 0
NeedsMore labels f b n = (c : Chain) → IsChain labels f c → last_of c ≡ b → n < length (chain_lines f c)

-- the node at this place is of one who states it by a label, and has n lines
abbrev pub IsFound : List FormulaTree → FormulaTree → List Node → ℕ → ℕ → Type 0
IsFound labels f nodes place n = (m : Node) × (slice_get nodes place ≡ Some m) × (m.lines ≡ n) × Contains labels (says (term_tree m.principal.now) f)

-- the nodes lead on to the principal, from the one at this place by n lines
pub record IsPath (labels : List FormulaTree) (f : FormulaTree) (b : TermTree) (nodes : List Node) (place : ℕ) (n : ℕ) : Type 0 where
  pub linked : AreLinked labels f b nodes
  pub found : IsFound labels f nodes place n

-- so that the proof has at most 256 lines, and no proof of a chain to the principal has fewer
pub record IsShortestPath (labels : List FormulaTree) (f : FormulaTree) (b : TermTree) (nodes : List Node) (place : ℕ) (n : ℕ) : Type 0 where
  pub path : IsPath labels f b nodes place n
  pub bound : n < 256
  pub least : NeedsMore labels f b n

-- the lines are the proof of a chain to the principal, and are n + 1
pub record IsProofAlong (labels : List FormulaTree) (f : FormulaTree) (b : TermTree) (lines : List LineTree) (n : ℕ) : Type 0 where
  pub chain : Chain
  pub stands : IsChain labels f chain
  pub last : last_of chain ≡ b
  pub lines_are : lines ≡ chain_lines f chain
  pub count : length lines ≡ n + 1

-- the formula that `x` speaks for `y`, on all or on some names
abbrev pub delegation_tree : TermTree → TermTree → Option (Bor (List (List ℕ))) → FormulaTree
delegation_tree x y None = speaks_for x y
delegation_tree x y (Some names) = speaks_for_on x y names.now
