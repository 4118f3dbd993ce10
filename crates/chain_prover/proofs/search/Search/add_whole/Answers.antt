use Rattle.std.proofs.Common.{◌≡◌, ◌+◌, ℕ, refl, ap, ◌∙◌, arith}
use Rattle.std.specs.Option.{MatchOption}
use Rattle.nal_term.specs.Trees.{subprincipal, term_tree}
use Rattle.chain_prover.specs.Inner.Numbers.{IsNumber, size_of}
use Rattle.chain_prover.specs.Inner.Knowing.{labels_of, statement_of, terms_of}
use Rattle.chain_prover.proofs.Growing.{extends_push}
use Rattle.chain_prover.proofs.Expanding.{last_reached, one_whole}
use Rattle.chain_prover.proofs.search.Search.add_whole.Goals.{In_ok-push}
use Rattle.chain_prover.proofs.search.Search.add_whole.Goals as goal

whole : (c : In_ok-push) → term_tree c.args.node.principal.now ≡ subprincipal (term_tree c.deref-in-Sub.result.now) c.in-Sub.field-1
whole c = ap term_tree c.in-Sub.is ∙ rw c.deref-in-Sub.ensures refl

size_told : (c : In_ok-push) → c.size_above-size.result ≡ size_of (term_tree c.deref-in-Sub.result.now)
size_told c = rw c.deref-in-Sub.ensures (rw c.deref.ensures at c.size_above-size.ensures)

number_told : (c : In_ok-push) → MatchOption c.find.result ((i : ℕ) → IsNumber (terms_of c.args.facts.now) i (term_tree c.deref-in-Sub.result.now) → ⊥) (λ i. IsNumber (terms_of c.args.facts.now) i (term_tree c.deref-in-Sub.result.now))
number_told c = rw c.deref-in-Sub.ensures (rw c.deref-in-Sub-2.ensures at c.find.ensures)

pub returns-in_ok-push-clause-extends : goal.returns-in_ok-push-clause-extends
returns-in_ok-push-clause-extends c =
    let facts = c.args.facts.now in
    rw c.in_ok-push.ensures.items (extends_push (terms_of facts) (labels_of facts) (statement_of facts) c.args.node.lines c.args.self.now.nodes.items _ (omega arith) (size_told c, number_told c)
    (λ b. (c.args.node, c.requires.stands, (c.in-Sub.field-1, whole c), refl)))

pub returns-in_ok-push-clause-reached : goal.returns-in_ok-push-clause-reached
returns-in_ok-push-clause-reached c = λ x n is.
    rw c.in_ok-push.ensures.items (last_reached c.args.self.now.nodes.items _ x (c.args.node.lines + 2)
    (one_whole (term_tree c.args.node.principal.now) (term_tree c.deref-in-Sub.result.now) x c.in-Sub.field-1 n (whole c) is) refl)
