use Rattle.std.proofs.Common.{true, refl, arith}
use Rattle.std.specs.Vec.{with_item}
use Rattle.nal_term.specs.Trees.{term_tree}
use Rattle.chain_prover.specs.declared.facts.Facts.{Facts}
use Rattle.chain_prover.specs.declared.facts.Delegation.{Delegation}
use Rattle.chain_prover.specs.Inner.Numbers.{IsNumber}
use Rattle.chain_prover.specs.Inner.Knowing.{Keeps, terms_of}
use Rattle.chain_prover.proofs.Known.{delegation_told, keeps_delegating, keeps_twice, right_delegating, step_after}
use Rattle.chain_prover.proofs.Numbering.{number_within}
use Rattle.chain_prover.proofs.facts.Facts.add_delegation.Goals.{In_ok-push, In_ok-speaker}
use Rattle.chain_prover.proofs.facts.Facts.add_delegation.Goals as goal

owner : (c : In_ok-speaker) → IsNumber (terms_of c.number-2.new.self) c.in_ok-owner.owner (term_tree c.args.owner.now)
owner c = c.in_ok-speaker.ensures.keeps.number c.in_ok-owner.owner (term_tree c.args.owner.now) c.in_ok-owner.ensures.number

kept : (c : In_ok-speaker) → Keeps c.args.self.now c.number-2.new.self
kept c = keeps_twice c.args.self.now c.number.new.self c.number-2.new.self c.in_ok-owner.ensures.keeps c.in_ok-speaker.ensures.keeps

abbrev added : (c : In_ok-speaker) → Delegation
added c = record { owner = c.in_ok-owner.owner; speaker = c.in_ok-speaker.speaker; scope = c.args.grant.scope }

-- what is known when it was added
abbrev known : In_ok-push → Facts
known c =
    let before = c.number-2.new.self in
    record { labels = before.labels; statement = before.statement; principals = before.principals; stating = before.stating; granting = with_item before.granting c.in_ok-owner.owner true; delegations = c.push.new.self }

pub index_mut-requires : goal.index_mut-requires
index_mut-requires c =
    let w = number_within (terms_of c.number-2.new.self) c.in_ok-owner.owner (term_tree c.args.owner.now) (owner (goal.at.index_mut-requires c).In_ok-speaker) in
    let s = c.in_ok-speaker.ensures.right.granting_count in
    omega (arith, w, s)

pub returns-clause-right : goal.returns-clause-right
returns-clause-right c =
    let d = (goal.at.returns-clause-right c).In_ok-speaker in
    right_delegating c.number-2.new.self _ (added d) (term_tree c.args.owner.now) (term_tree c.args.grant.speaker.now) (owner d) c.in_ok-speaker.ensures.number refl refl refl refl refl c.in_ok-push.ensures.items
    c.in_ok-speaker.ensures.right (step_after c.args.self.now c.number-2.new.self (kept d) _ _ c.requires.step)

pub returns-clause-keeps : goal.returns-clause-keeps
returns-clause-keeps c =
    let d = (goal.at.returns-clause-keeps c).In_ok-speaker in
    keeps_twice c.args.self.now c.number-2.new.self _ (kept d)
    (keeps_delegating c.number-2.new.self _ (added d) (term_tree c.args.owner.now) (term_tree c.args.grant.speaker.now) (owner d) c.in_ok-speaker.ensures.number refl refl refl refl refl c.in_ok-push.ensures.items)

pub returns-clause-delegates : goal.returns-clause-delegates
returns-clause-delegates c =
    let d = (goal.at.returns-clause-delegates c).In_ok-speaker in
    delegation_told c.number-2.new.self (known (goal.at.returns-clause-delegates c).In_ok-push) (added d) (term_tree c.args.owner.now) (term_tree c.args.grant.speaker.now) (owner d) c.in_ok-speaker.ensures.number refl refl refl refl refl c.in_ok-push.ensures.items
