-- The proof along a path, line by line.
use Rattle.std.proofs.Common.{◌≡◌, ◌<◌, ◌≤◌, ◌+◌, ◌-◌, ℕ, List, [], ◌∷◌, ◌++◌, Option, None, Some, length, get_or, refl, sym, ap, ◌∙◌, subst, arith, length-append}
use Rattle.std.specs.List.{Contains, slice_get}
use Rattle.std.specs.Borrow.{Bor}
use Rattle.std.proofs.lemmas.List.{length-map}
use Rattle.std.proofs.lemmas.Option.{get_or_from_slice_get, slice_get_within}
use Rattle.nal_term.specs.Trees.{TermTree, FormulaTree, subprincipal, says, term_tree}
use Rattle.proof_lines.specs.declared.rules.Rule.TheVariants.{Label}
use Rattle.proof_lines.specs.Lines.{LineTree, line_tree, line_trees}
use Rattle.proof_lines.specs.declared.lines.Line.{Line}
use Rattle.chain_prover.specs.declared.paths.Node.{Node}
use Rattle.chain_prover.specs.declared.paths.Lead.{Lead}
use Rattle.chain_prover.specs.declared.paths.Lead.TheVariants.{Goal, Grant, Part}
use Rattle.chain_prover.specs.Chains.{Step, delegation, restricted, part, Chain, start, onward, next, last_of, IsStep, IsChain, line, step_lines, chain_lines}
use Rattle.chain_prover.specs.Inner.Paths.{IsLead, IsPath, IsProofAlong, grant_step, step_count}
use Rattle.chain_prover.proofs.Least.{onward_length, step_length}

-- a step brings the end nearer
some_count : (s : Step) → 0 < step_count s
some_count (delegation y) = omega arith
some_count (restricted y names) = omega arith
some_count (part n) = omega arith

pub smaller : (before after : List Line) (f : FormulaTree) (k : ℕ) (x : TermTree) (s : Step) → line_trees after ≡ line_trees before ++ step_lines f k x s → length before < 256
    → 256 - length after < 256 - length before
smaller before after f k x s e room =
    omega (arith, ap length e, length-map after line_tree, length-map before line_tree, length-append (line_trees before) (step_lines f k x s), step_length f k x s, some_count s, room)

-- the lines are those of a chain to the node at the place, from which the others of the path lead on
pub record IsAlong (labels : List FormulaTree) (f : FormulaTree) (nodes : List Node) (place : ℕ) (lines : List LineTree) (n : ℕ) : Type 0 where
  pub chain : Chain
  pub stands : IsChain labels f chain
  pub node : Node
  pub at : slice_get nodes place ≡ Some node
  pub last : last_of chain ≡ term_tree node.principal.now
  pub lines_are : lines ≡ chain_lines f chain
  pub count : length lines + node.lines ≡ n + 1

grant_next : (x y : TermTree) (scope : Option (Bor (List (List ℕ)))) → next x (grant_step y scope) ≡ y
grant_next x y None = refl
grant_next x y (Some names) = refl

grant_count : (y : TermTree) (scope : Option (Bor (List (List ℕ)))) → step_count (grant_step y scope) ≡ 3
grant_count y None = refl
grant_count y (Some names) = refl

-- what was read at a place stands there
pub node_is : (nodes : List Node) (place : ℕ) (m o : Node) → slice_get nodes place ≡ Some m → o ≡ get_or nodes place o → o ≡ m
node_is nodes place m o at read = read ∙ get_or_from_slice_get nodes place m o at

module _ (labels : List FormulaTree) (f : FormulaTree) (b : TermTree) (nodes : List Node) (first n : ℕ) (path : IsPath labels f b nodes first n) where
  -- the first line
  pub begun : (o : Node) → o ≡ get_or nodes first o → IsAlong labels f nodes first (line Label [] (says (term_tree o.principal.now) f) ∷ []) n
  begun o read = let (m, at, lines, said) = path.found in let same = node_is nodes first m o at read in record {
    chain = start (term_tree o.principal.now);
    stands = subst (λ (m : Node). Contains labels (says (term_tree m.principal.now) f)) (sym same) said;
    node = m;
    at = at;
    last = ap (λ (m : Node). term_tree m.principal.now) same;
    lines_are = refl;
    count = omega (arith, lines);
  }

  -- `o` is what was read at the place
  module _ (place : ℕ) (lines : List LineTree) (along : IsAlong labels f nodes place lines n) (o : Node) (read : o ≡ get_or nodes place o) where
    same : o ≡ along.node
    same = read ∙ get_or_from_slice_get nodes place along.node o along.at

    stands_at : slice_get nodes place ≡ Some o
    stands_at = along.at ∙ ap (λ (m : Node). Some m) (sym same)

    count_is : length lines + o.lines ≡ n + 1
    count_is = omega (arith, along.count, ap (λ (m : Node). m.lines) same)

    last_is : last_of along.chain ≡ term_tree o.principal.now
    last_is = along.last ∙ ap (λ (m : Node). term_tree m.principal.now) (sym same)

    leads : (lead : Lead) → o.lead ≡ lead → IsLead labels f b nodes (term_tree o.principal.now) o.lines lead
    leads lead e = subst (λ lead. IsLead labels f b nodes (term_tree o.principal.now) o.lines lead) e (path.linked place o stands_at)

    -- the chain and a step that its last principal can take
    stepped : (s : Step) (place' : ℕ) (m : Node) → slice_get nodes place' ≡ Some m → IsStep labels f (term_tree o.principal.now) s → next (term_tree o.principal.now) s ≡ term_tree m.principal.now
        → o.lines ≡ m.lines + step_count s → IsAlong labels f nodes place' (lines ++ step_lines f (length lines) (term_tree o.principal.now) s) n
    stepped s place' m at step to count = record {
      chain = onward along.chain s;
      stands = (along.stands, subst (λ x. IsStep labels f x s) (sym last_is) step);
      node = m;
      at = at;
      last = ap (λ x. next x s) last_is ∙ to;
      lines_are = added;
      count = omega (arith, ap length added, onward_length f along.chain s, ap length along.lines_are, count_is, count);
    }
      where
        added : lines ++ step_lines f (length lines) (term_tree o.principal.now) s ≡ chain_lines f (onward along.chain s)
        added = rw (along.lines_are, ← last_is) refl

    -- by a grant
    pub granted : (scope : Option (Bor (List (List ℕ)))) (j : ℕ) (y : Node) → o.lead ≡ Grant scope j → y ≡ get_or nodes j y
        → IsAlong labels f nodes j (lines ++ step_lines f (length lines) (term_tree o.principal.now) (grant_step (term_tree y.principal.now) scope)) n
    granted scope j y e read_next =
        let (m, at, step, count) = leads (Grant scope j) e in
        let more : o.lines ≡ m.lines + step_count (grant_step (term_tree m.principal.now) scope) = omega (arith, count, grant_count (term_tree m.principal.now) scope) in
        subst (λ (y : Node). IsAlong labels f nodes j (lines ++ step_lines f (length lines) (term_tree o.principal.now) (grant_step (term_tree y.principal.now) scope)) n) (sym (node_is nodes j m y at read_next))
        (stepped (grant_step (term_tree m.principal.now) scope) j m at step (grant_next (term_tree o.principal.now) (term_tree m.principal.now) scope) more)

    pub granted_within : (scope : Option (Bor (List (List ℕ)))) (j : ℕ) → o.lead ≡ Grant scope j → (j < length nodes) × (length lines + 2 ≤ n)
    granted_within scope j e = let (m, at, step, count) = leads (Grant scope j) e in (slice_get_within nodes j m at, omega (arith, count, count_is))

    -- to a subprincipal
    pub parted : (j : ℕ) (y : Node) (lines' : List LineTree) → o.lead ≡ Part j → y ≡ get_or nodes j y
        → ((p : List ℕ) → term_tree y.principal.now ≡ subprincipal (term_tree o.principal.now) p → lines' ≡ lines ++ step_lines f (length lines) (term_tree o.principal.now) (part p))
        → IsAlong labels f nodes j lines' n
    parted j y lines' e read_next added =
        let (m, at, (p, whole), count) = leads (Part j) e in
        let is = ap (λ (m : Node). term_tree m.principal.now) (node_is nodes j m y at read_next) in
        subst (λ ls. IsAlong labels f nodes j ls n) (sym (added p (is ∙ whole))) (stepped (part p) j m at tt (sym whole) count)

    pub parted_whole : (j : ℕ) (y : Node) → o.lead ≡ Part j → y ≡ get_or nodes j y → (p : List ℕ) × (term_tree y.principal.now ≡ subprincipal (term_tree o.principal.now) p)
    parted_whole j y e read_next =
        let (m, at, (p, whole), count) = leads (Part j) e in
        (p, ap (λ (m : Node). term_tree m.principal.now) (node_is nodes j m y at read_next) ∙ whole)

    pub parted_within : (j : ℕ) → o.lead ≡ Part j → (j < length nodes) × (length lines + 1 ≤ n)
    parted_within j e = let (m, at, whole, count) = leads (Part j) e in (slice_get_within nodes j m at, omega (arith, count, count_is))

    -- at the end
    pub arrived : o.lead ≡ Goal → IsProofAlong labels f b lines n
    arrived e = let (last, none) = leads Goal e in
        record { chain = along.chain; stands = along.stands; last = last_is ∙ last; lines_are = along.lines_are; count = omega (arith, count_is, none) }
