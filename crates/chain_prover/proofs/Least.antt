-- No chain has fewer lines than the search has looked at.
use Rattle.std.proofs.Common.{◌≡◌, ◌<◌, ◌≤◌, ◌+◌, ◌⊎◌, inl, inr, ℕ, List, length, refl, subst, sym, arith, length-append}
use Rattle.std.proofs.lemmas.Bool.{cases_lt}
use Rattle.nal_term.specs.Trees.{TermTree, FormulaTree}
use Rattle.chain_prover.specs.declared.paths.Node.{Node}
use Rattle.chain_prover.specs.Chains.{Step, delegation, restricted, part, Chain, start, onward, next, last_of, IsChain, step_lines, chain_lines}
use Rattle.chain_prover.specs.Inner.Paths.{AreExpandedBelow, IsReached, IsReachedWithin, NeedsMore, step_count}

-- how many lines a step adds
pub step_length : (f : FormulaTree) (k : ℕ) (x : TermTree) (s : Step) → length (step_lines f k x s) ≡ step_count s
step_length f k x (delegation y) = refl
step_length f k x (restricted y names) = refl
step_length f k x (part n) = refl

pub onward_length : (f : FormulaTree) (c : Chain) (s : Step) → length (chain_lines f (onward c s)) ≡ length (chain_lines f c) + step_count s
onward_length f c s =
    omega (arith, length-append (chain_lines f c) (step_lines f (length (chain_lines f c)) (last_of c) s), step_length f (length (chain_lines f c)) (last_of c) s)

-- a chain has a line
pub some_line : (f : FormulaTree) (c : Chain) → 0 < length (chain_lines f c)
some_line f (start a) = omega arith
some_line f (onward c s) = omega (arith, onward_length f c s, some_line f c)

module _ (labels : List FormulaTree) (f : FormulaTree) (nodes : List Node) (n : ℕ) (expanded : AreExpandedBelow labels f nodes n) where
  more_lines : (c : Chain) → IsChain labels f c → (k : ℕ) → IsReached nodes (last_of c) k → n < length (chain_lines f c) + k
  more_lines (start a) said k reached = of (cases_lt k n)
    where
      of : (k < n) ⊎ (n ≤ k) → n < 1 + k
      of (inl less) = absurd ((expanded a k reached less).unsaid said)
      of (inr most) = omega (arith, most)
  more_lines (onward c s) (stands, step) k reached = of (more_lines c stands) (cases_lt k n)
    where
      below : ((j : ℕ) → IsReached nodes (last_of c) j → n < length (chain_lines f c) + j) → IsReachedWithin nodes (last_of c) (k + step_count s) → n < length (chain_lines f (onward c s)) + k
      below before (j, most, h) = omega (arith, before j h, most, onward_length f c s)

      of : ((j : ℕ) → IsReached nodes (last_of c) j → n < length (chain_lines f c) + j) → (k < n) ⊎ (n ≤ k) → n < length (chain_lines f (onward c s)) + k
      of before (inl less) = below before ((expanded (next (last_of c) s) k reached less).stepped (last_of c) s step refl)
      of before (inr most) = omega (arith, most, some_line f (onward c s))

  -- where the goal's principal has a node without lines, and all nodes with fewer than n lines are expanded
  pub needs_more : (b : TermTree) → IsReached nodes b 0 → NeedsMore labels f b n
  needs_more b reached c stands last =
      let more = more_lines c stands 0 (subst (λ x. IsReached nodes x 0) (sym last) reached) in omega (arith, more)
