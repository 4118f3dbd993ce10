use Rattle.std.proofs.Common.{◌+◌, arith}
use Rattle.nal_term.specs.Trees.{term_tree}
use Rattle.chain_prover.specs.Inner.Numbers.{IsNumber}
use Rattle.chain_prover.specs.Inner.Knowing.{labels_of, statement_of, terms_of}
use Rattle.chain_prover.specs.Inner.Paths.{AreDone, IsExpanded}
use Rattle.chain_prover.proofs.Growing.{done_after, done_marked, extends_twice, stands_after, within_after}
use Rattle.chain_prover.proofs.Expanding.{all_speakers, no_speakers, stepped}
use Rattle.chain_prover.proofs.Numbering.{number_within}
use Rattle.chain_prover.proofs.search.Search.expand.Goals.{In_ok-add_speakers}
use Rattle.chain_prover.proofs.search.Search.expand.Goals as goal

pub returns-in_default-clause-done : goal.returns-in_default-clause-done
returns-in_default-clause-done c =
    let facts = c.args.facts.now in
    rw c.in_ok-add_whole.ensures.expanded (done_after (terms_of facts) (labels_of facts) (statement_of facts) c.args.node.lines c.args.self.now.nodes.items c.add_whole.new.self.nodes.items
    c.in_ok-add_whole.ensures.extends c.args.self.now.expanded.items c.requires.done)

pub returns-in_default-clause-expanded : goal.returns-in_default-clause-expanded
returns-in_default-clause-expanded c =
    let facts = c.args.facts.now in
    let y = term_tree c.args.node.principal.now in
    let nodes = c.add_whole.new.self.nodes.items in
    record {
      unsaid = c.requires.unsaid;
      stepped = stepped facts c.requires.facts nodes y c.args.node.lines c.in_ok-add_whole.ensures.reached (no_speakers facts c.requires.facts nodes y c.args.node.lines (rw c.in_default.is at c.requires.known.1));
    }

pub add_speakers-requires-clause-stands : goal.add_speakers-requires-clause-stands
add_speakers-requires-clause-stands c =
    let facts = c.args.facts.now in
    stands_after (terms_of facts) (labels_of facts) (statement_of facts) c.args.node.lines c.args.self.now.nodes.items c.add_whole.new.self.nodes.items c.in_ok-add_whole.ensures.extends
    c.args.place c.args.node c.requires.stands

number : (c : In_ok-add_speakers) → IsNumber (terms_of c.args.facts.now) c.in-Some.number (term_tree c.args.node.principal.now)
number c = rw c.in-Some.is at c.requires.known.1

done : (c : In_ok-add_speakers) → AreDone (terms_of c.args.facts.now) (labels_of c.args.facts.now) (statement_of c.args.facts.now) c.add_speakers.new.self.nodes.items c.add_speakers.new.self.expanded.items c.args.node.lines
done c =
    let facts = c.args.facts.now in
    rw c.in_ok-add_speakers.ensures.expanded (done_after (terms_of facts) (labels_of facts) (statement_of facts) c.args.node.lines c.add_whole.new.self.nodes.items c.add_speakers.new.self.nodes.items
    c.in_ok-add_speakers.ensures.extends c.add_whole.new.self.expanded.items (rw c.in_ok-add_whole.ensures.expanded (done_after (terms_of facts) (labels_of facts) (statement_of facts) c.args.node.lines c.args.self.now.nodes.items c.add_whole.new.self.nodes.items c.in_ok-add_whole.ensures.extends c.args.self.now.expanded.items c.requires.done)))

expanded : (c : In_ok-add_speakers) → IsExpanded (labels_of c.args.facts.now) (statement_of c.args.facts.now) c.add_speakers.new.self.nodes.items (term_tree c.args.node.principal.now) c.args.node.lines
expanded c =
    let facts = c.args.facts.now in
    let y = term_tree c.args.node.principal.now in
    let n = c.args.node.lines in
    let between = c.add_whole.new.self.nodes.items in
    let nodes = c.add_speakers.new.self.nodes.items in
    record {
      unsaid = c.requires.unsaid;
      stepped = stepped facts c.requires.facts nodes y n
          (λ x m is. within_after (terms_of facts) (labels_of facts) (statement_of facts) n between nodes c.in_ok-add_speakers.ensures.extends x (n + 2) (c.in_ok-add_whole.ensures.reached x m is))
          (all_speakers facts c.requires.facts nodes y n c.in-Some.number (number c) c.in_ok-add_speakers.ensures.reached);
    }

pub index_mut-requires : goal.index_mut-requires
index_mut-requires c =
    let d = (goal.at.index_mut-requires c).In_ok-add_speakers in
    let w = number_within (terms_of c.args.facts.now) c.in-Some.number (term_tree c.args.node.principal.now) (number d) in
    let s = (done d).count in
    omega (arith, w, s)

pub returns-clause-extends : goal.returns-clause-extends
returns-clause-extends c =
    let facts = c.args.facts.now in
    extends_twice (terms_of facts) (labels_of facts) (statement_of facts) c.args.node.lines c.args.self.now.nodes.items c.add_whole.new.self.nodes.items c.add_speakers.new.self.nodes.items
    c.in_ok-add_whole.ensures.extends c.in_ok-add_speakers.ensures.extends

pub returns-clause-done : goal.returns-clause-done
returns-clause-done c =
    let facts = c.args.facts.now in
    let d = (goal.at.returns-clause-done c).In_ok-add_speakers in
    done_marked (terms_of facts) (labels_of facts) (statement_of facts) c.args.node.lines c.add_speakers.new.self.nodes.items c.add_speakers.new.self.expanded.items c.in-Some.number
    (term_tree c.args.node.principal.now) (done d) (number d) (expanded d)

pub returns-clause-expanded : goal.returns-clause-expanded
returns-clause-expanded c = expanded (goal.at.returns-clause-expanded c).In_ok-add_speakers
