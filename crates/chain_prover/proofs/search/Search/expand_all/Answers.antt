use Rattle.std.proofs.Common.{◌≡◌, ℕ, Some, arith}
use Rattle.std.specs.List.{slice_get}
use Rattle.nal_term.specs.Trees.{term_tree}
use Rattle.chain_prover.specs.Inner.Numbers.{IsNumber}
use Rattle.chain_prover.specs.Inner.Knowing.{labels_of, statement_of, terms_of}
use Rattle.chain_prover.specs.Inner.Paths.{IsKnown}
use Rattle.chain_prover.proofs.Expanding.{all_expanded, gone_on, node_at, passed, passed_again}
use Rattle.chain_prover.proofs.Growing.{extends_none}
use Rattle.chain_prover.proofs.Numbering.{number_within}
use Rattle.chain_prover.proofs.search.Search.expand_all.Goals.{After-index-node, then-node-lines+then-not-is_expanded+else-states+in_ok-expand, else-node-lines, else-node-lines-via-then-node-lines+else-not-is_expanded, else-node-lines-via-else-node-lines}
use Rattle.chain_prover.proofs.search.Search.expand_all.Goals as goal

at : (c : After-index-node) → slice_get c.loop-place.self.nodes.items c.loop-place.place ≡ Some c.index-node.result.now
at c =
    let facts = c.args.facts.now in
    node_at (terms_of facts) (labels_of facts) (statement_of facts) c.args.self.now.nodes.items c.args.lines c.loop-place.self.nodes.items c.loop-place.place c.index-node.result.now c.loop-place.invariant.extends (omega arith) c.index-node.ensures

known : (c : After-index-node) → IsKnown (terms_of c.args.facts.now) c.index-node.result.now
known c = c.loop-place.invariant.extends.known c.requires.known c.loop-place.place c.index-node.result.now (at c)

number : (c : After-index-node) → (i : ℕ) → c.index-node.result.now.number ≡ Some i → IsNumber (terms_of c.args.facts.now) i (term_tree c.index-node.result.now.principal.now)
number c i is = rw is at (known c).1

pub is_expanded-requires : goal.is_expanded-requires
is_expanded-requires c = λ i is.
    let w = number_within (terms_of c.args.facts.now) i (term_tree c.index-node.result.now.principal.now) (number (goal.at.is_expanded-requires c).After-index-node i is) in
    let s = c.loop-place.invariant.done.count in
    omega (arith, w, s)

pub states-requires-clause-known : goal.states-requires-clause-known
states-requires-clause-known c = known (goal.at.states-requires-clause-known c).After-index-node

pub expand-requires-clause-known : goal.expand-requires-clause-known
expand-requires-clause-known c = known (goal.at.expand-requires-clause-known c).After-index-node

pub expand-requires-clause-stands : goal.expand-requires-clause-stands
expand-requires-clause-stands c = at (goal.at.expand-requires-clause-stands c).After-index-node

pub returns-then-states-clause-found : goal.returns-then-states-clause-found
returns-then-states-clause-found c = (c.index-node.result.now, at (goal.at.returns-then-states-clause-found c).After-index-node, c.if-node-lines.true, c.states.ensures.0 c.if-states.true)

pub loop-place-init : goal.loop-place-init
loop-place-init c =
    let facts = c.args.facts.now in
    record {
      extends = extends_none (terms_of facts) (labels_of facts) (statement_of facts) c.args.lines c.args.self.now.nodes.items;
      done = c.requires.done;
      below = c.requires.expanded;
      here = λ i m less there lines. let f = c.requires.passed.fewer i m less there in absurd (omega (arith, f, lines));
    }

pub loop-place-preserved : goal.loop-place-preserved
loop-place-preserved c =
    let facts = c.args.facts.now in
    let terms = terms_of facts in
    let labels = labels_of facts in
    let f = statement_of facts in
    let before = c.args.self.now.nodes.items in
    let now = c.loop-place.self.nodes.items in
    let marks = c.loop-place.self.expanded.items in
    let node = c.index-node.result.now in
    let d = (goal.at.loop-place-preserved c).After-index-node in
    elim c.if-node-lines.branch [
      | then-node-lines+then-not-is_expanded+else-states+in_ok-expand w ↦
          let h = w.in_ok-expand.ensures in
          rw w.self-is (gone_on terms labels f before c.args.lines now marks c.loop-place.place node (at d) c.loop-place.invariant w.expand.new.self.nodes.items w.expand.new.self.expanded.items w.if-node-lines.true h.extends h.done h.expanded)
      | else-node-lines w ↦ elim w.else-node-lines.branch [
        | else-node-lines-via-then-node-lines+else-not-is_expanded v ↦
            let t = v.if-not-is_expanded.false in
            let (i, is, mark) = v.is_expanded.ensures (cc t) in
            rw w.self-is (passed_again terms labels f before c.args.lines now marks c.loop-place.place node (at d) c.loop-place.invariant v.if-node-lines.true
            (c.loop-place.invariant.done.right i (term_tree node.principal.now) (number d i is) mark))
        | else-node-lines-via-else-node-lines v ↦ rw w.self-is (passed terms labels f before c.args.lines now marks c.loop-place.place node (at d) c.loop-place.invariant v.if-node-lines.false)
      ]
    ]

pub returns-clause-found : goal.returns-clause-found
returns-clause-found c =
    let facts = c.args.facts.now in
    all_expanded (terms_of facts) (labels_of facts) (statement_of facts) c.args.self.now.nodes.items c.args.lines c.loop-place.self.nodes.items c.loop-place.self.expanded.items
    c.loop-place.place (omega arith) c.loop-place.invariant
