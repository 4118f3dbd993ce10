use Rattle.std.proofs.Common.{◌≡◌, ◌+◌, Some, refl, sym, ◌∙◌, subst, length, arith}
use Rattle.std.specs.List.{slice_get}
use Rattle.std.proofs.lemmas.Option.{same_Some, slice_get_read}
use Rattle.nal_term.specs.Trees.{term_tree}
use Rattle.chain_prover.specs.Inner.Numbers.{IsNumber}
use Rattle.chain_prover.specs.Inner.Knowing.{IsRightDelegation, labels_of, statement_of, terms_of}
use Rattle.chain_prover.proofs.Growing.{extends_push}
use Rattle.chain_prover.proofs.Expanding.{delegation_step, last_reached}
use Rattle.chain_prover.proofs.Numbering.{number_of_read, number_within}
use Rattle.chain_prover.proofs.search.Search.add_speaker.Goals.{In_ok-push}
use Rattle.chain_prover.proofs.search.Search.add_speaker.Goals as goal

pub index-speaker-requires : goal.index-speaker-requires
index-speaker-requires c =
    let facts = c.args.facts.now in
    let at = slice_get_read facts.delegations.items (length facts.delegations.items) c.args.delegation c.index-made.result.now refl c.requires.delegation c.index-made.ensures in
    let r = c.requires.facts.right.delegations c.args.delegation c.index-made.result.now at in
    let w = number_within (terms_of facts) c.index-made.result.now.speaker r.speaker r.speaker_is in
    omega (arith, w)

made_at : (c : In_ok-push) → slice_get c.args.facts.now.delegations.items c.args.delegation ≡ Some c.index-made.result.now
made_at c = slice_get_read c.args.facts.now.delegations.items (length c.args.facts.now.delegations.items) c.args.delegation c.index-made.result.now refl c.requires.delegation c.index-made.ensures

right : (c : In_ok-push) → IsRightDelegation c.args.facts.now c.index-made.result.now
right c = c.requires.facts.right.delegations c.args.delegation c.index-made.result.now (made_at c)

speaker_at : (c : In_ok-push) → slice_get (terms_of c.args.facts.now) c.index-made.result.now.speaker ≡ Some c.index-speaker.result.now
speaker_at c =
    let terms = terms_of c.args.facts.now in
    let w = number_within terms c.index-made.result.now.speaker (right c).speaker (right c).speaker_is in
    slice_get_read terms (length terms) c.index-made.result.now.speaker c.index-speaker.result.now refl w c.index-speaker.ensures

pub returns-clause-extends : goal.returns-clause-extends
returns-clause-extends c =
    let d = (goal.at.returns-clause-extends c).In_ok-push in
    let facts = c.args.facts.now in
    let speaker = c.index-speaker.result.now in
    let owner : c.index-made.result.now.owner ≡ c.args.number = omega (arith, c.if-made-number.false) in
    let step = delegation_step facts c.index-made.result.now (right d) c.args.number (term_tree c.args.node.principal.now) (term_tree speaker.now) owner c.requires.number (speaker, speaker_at d, refl) in
    rw c.in_ok-push.ensures.items (extends_push (terms_of facts) (labels_of facts) (statement_of facts) c.args.node.lines c.args.self.now.nodes.items _ (omega arith)
    (c.term_size.ensures, (speaker, speaker_at d, refl)) (λ b. (c.args.node, c.requires.stands, step, refl)))

pub returns-clause-reached : goal.returns-clause-reached
returns-clause-reached c = λ d at is x number.
    let e = (goal.at.returns-clause-reached c).In_ok-push in
    let terms = terms_of c.args.facts.now in
    let same : d ≡ c.index-made.result.now = same_Some d c.index-made.result.now (sym at ∙ made_at e) in
    let speaker = number_of_read terms c.index-made.result.now.speaker c.index-speaker.result.now x (speaker_at e) (subst (λ d. IsNumber terms d.speaker x) same number) in
    rw c.in_ok-push.ensures.items (last_reached c.args.self.now.nodes.items _ x (c.args.node.lines + 3) speaker refl)
