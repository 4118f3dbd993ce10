use Rattle.std.proofs.Common.{◌≡◌, ◌∙◌, Some, true, false, replicate, length, refl, ap, subst}
use Rattle.std.specs.List.{slice_get}
use Rattle.std.proofs.lemmas.List.{length-replicate}
use Rattle.chain_prover.specs.Inner.Knowing.{terms_of}
use Rattle.chain_prover.proofs.Growing.{known_first, not_marked}
use Rattle.chain_prover.proofs.search.Search.new.Goals as goal

pub returns-clause-known : goal.returns-clause-known
returns-clause-known c = rw (c.in_ok-push.ensures.items, c.new-nodes.ensures.items) (known_first (terms_of c.args.facts.now) _ (c.term_size-size.ensures, c.find.ensures))

pub returns-clause-goal : goal.returns-clause-goal
returns-clause-goal c = rw (c.in_ok-push.ensures.items, c.new-nodes.ensures.items) (0, _, refl, refl, refl)

pub returns-clause-done : goal.returns-clause-done
returns-clause-done c =
    let same : c.in_ok-expanded.expanded.items ≡ replicate c.count.result false = c.in_ok-expanded.ensures.items_if_clones_equal (λ y e. e) in
    let l = length-replicate c.count.result false in
    record {
      right = λ i y n s. absurd (not_marked c.count.result i (subst (λ ms. slice_get ms i ≡ Some true) same s));
      count = ap length same ∙ l ∙ c.count.ensures;
    }
