use Rattle.std.proofs.Common.{refl, length, arith}
use Rattle.std.proofs.lemmas.Option.{slice_get_read}
use Rattle.nal_term.specs.Trees.{term_tree}
use Rattle.chain_prover.specs.Inner.Knowing.{terms_of}
use Rattle.chain_prover.proofs.Expanding.{states_none, states_told}
use Rattle.chain_prover.proofs.Numbering.{number_within}
use Rattle.chain_prover.proofs.search.states.Goals as goal

pub returns-in-Some : goal.returns-in-Some
returns-in-Some c =
    let facts = c.args.facts.now in
    let number = rw c.in-Some.is at c.requires.known.1 in
    let w = number_within (terms_of facts) c.in-Some.number (term_tree c.args.node.principal.now) number in
    let s = c.requires.facts.right.stating_count in
    let read = slice_get_read facts.stating.items (length facts.stating.items) c.in-Some.number c.index.result.now refl (omega (arith, w, s)) c.index.ensures in
    states_told facts c.requires.facts c.in-Some.number (term_tree c.args.node.principal.now) number c.index.result.now read

pub returns-in-None : goal.returns-in-None
returns-in-None c = states_none c.args.facts.now c.requires.facts (term_tree c.args.node.principal.now) (rw c.in-None.is at c.requires.known.1)
