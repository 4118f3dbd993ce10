use Rattle.std.proofs.Common.{◌≡◌, ◌+◌, ◌∙◌, Some, true, refl, sym, subst, length, below_more, arith}
use Rattle.std.specs.List.{slice_get}
use Rattle.std.proofs.lemmas.Option.{same_Some, slice_get_read, slice_get_within}
use Rattle.chain_prover.specs.Inner.Knowing.{labels_of, statement_of, terms_of}
use Rattle.chain_prover.proofs.Growing.{extends_twice, within_after}
use Rattle.chain_prover.proofs.search.Search.add_speakers.Goals as goal

pub returns-then-not-index-clause-reached : goal.returns-then-not-index-clause-reached
returns-then-not-index-clause-reached c = λ j d at is x number.
    let facts = c.args.facts.now in
    let r = c.requires.facts.right.delegations j d at in
    let mark = subst (λ i. slice_get facts.granting.items i ≡ Some true) is r.marked in
    let w = slice_get_within facts.granting.items c.args.number true mark in
    let read = slice_get_read facts.granting.items (length facts.granting.items) c.args.number c.index.result.now refl w c.index.ensures in
    let t : c.index.result.now ≡ true = same_Some c.index.result.now true (sym read ∙ mark) in
    let n = c.if-not-index.true in
    absurd (cc (t, n))

pub loop-delegation-preserved : goal.loop-delegation-preserved
loop-delegation-preserved c =
    let facts = c.args.facts.now in
    let n = c.args.node.lines in
    let before = c.args.self.now.nodes.items in
    let now = c.loop-delegation.self.nodes.items in
    let after = c.add_speaker.new.self.nodes.items in
    let e = c.in_ok-add_speaker.ensures.extends in (
      extends_twice (terms_of facts) (labels_of facts) (statement_of facts) n before now after c.loop-delegation.invariant.0 e,
      c.in_ok-add_speaker.ensures.expanded ∙ c.loop-delegation.invariant.1,
      below_more _ _ (λ j less d at is x number. within_after (terms_of facts) (labels_of facts) (statement_of facts) n now after e x (n + 3) (c.loop-delegation.invariant.2 j less d at is x number))
          c.in_ok-add_speaker.ensures.reached,
    )

pub returns-clause-reached : goal.returns-clause-reached
returns-clause-reached c = λ j d at.
    let w = slice_get_within c.args.facts.now.delegations.items j d at in
    c.loop-delegation.invariant.2 j (omega (arith, w, c.loop-delegation-test.false)) d at
