use Rattle.std.proofs.Common.{arith}
use Rattle.nal_term.specs.Trees.{term_tree}
use Rattle.chain_prover.specs.Inner.Knowing.{labels_of, statement_of, terms_of}
use Rattle.chain_prover.proofs.Expanding.{done_more}
use Rattle.chain_prover.proofs.Growing.{passed_after, reached_after}
use Rattle.chain_prover.proofs.Least.{needs_more}
use Rattle.chain_prover.proofs.search.shortest_path.Goals as goal

pub loop-lines-init : goal.loop-lines-init
loop-lines-init c =
    let facts = c.args.facts.now in
    (c.in_ok-search.ensures.linked (labels_of facts) (statement_of facts), c.in_ok-search.ensures.known, c.in_ok-search.ensures.goal, c.in_ok-search.ensures.done, λ y k reached less. absurd (omega (arith, less)), record { within = omega arith; fewer = λ i m less at. absurd (omega (arith, less)) })

pub returns-in-Some : goal.returns-in-Some
returns-in-Some c =
    let facts = c.args.facts.now in
    let labels = labels_of facts in
    let f = statement_of facts in
    let b = term_tree c.args.principal.now in
    let n = c.loop-lines.lines in
    let h = c.in_ok-first.ensures in
    let found = rw c.in-Some.is at h.found in (
      n,
      record {
        path = record { linked = h.extends.linked b c.loop-lines.invariant.0; found = found };
        bound = omega arith;
        least = needs_more labels f c.expand_all.new.self.nodes.items n h.expanded b (reached_after (terms_of facts) labels f n c.loop-lines.search.nodes.items c.expand_all.new.self.nodes.items h.extends b 0 c.loop-lines.invariant.2);
      },
    )

pub loop-lines-preserved : goal.loop-lines-preserved
loop-lines-preserved c =
    let facts = c.args.facts.now in
    let labels = labels_of facts in
    let f = statement_of facts in
    let b = term_tree c.args.principal.now in
    let n = c.loop-lines.lines in
    let h = c.in_ok-first.ensures in (
      h.extends.linked b c.loop-lines.invariant.0,
      h.extends.known c.loop-lines.invariant.1,
      reached_after (terms_of facts) labels f n c.loop-lines.search.nodes.items c.expand_all.new.self.nodes.items h.extends b 0 c.loop-lines.invariant.2,
      done_more (terms_of facts) labels f c.expand_all.new.self.nodes.items c.expand_all.new.self.expanded.items n h.done,
      rw c.in_default.is at h.found,
      passed_after (terms_of facts) labels f n c.loop-lines.search.nodes.items c.expand_all.new.self.nodes.items h.extends c.skip-from.result c.skip-from.ensures,
    )

pub returns : goal.returns
returns c =
    (needs_more (labels_of c.args.facts.now) (statement_of c.args.facts.now) c.loop-lines.search.nodes.items 256
    (λ y k reached less. c.loop-lines.invariant.4 y k reached (omega (arith, less, c.loop-lines-test.false))) (term_tree c.args.principal.now) c.loop-lines.invariant.2)
