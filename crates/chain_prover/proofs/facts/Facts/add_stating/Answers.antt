use Rattle.std.proofs.Common.{◌≡◌, true, refl, sym, subst, ◌∙◌}
use Rattle.std.specs.List.{Contains}
use Rattle.std.specs.Vec.{with_item}
use Rattle.nal_term.specs.Trees.{formula_tree, says, term_tree}
use Rattle.chain_prover.specs.declared.facts.Facts.{Facts}
use Rattle.chain_prover.specs.Inner.Knowing.{labels_of, statement_of}
use Rattle.chain_prover.proofs.Known.{among_after, keeps_stating, keeps_twice, right_stating, stating_told}
use Rattle.chain_prover.proofs.facts.Facts.add_stating.Goals.{In_ok-number}
use Rattle.chain_prover.proofs.facts.Facts.add_stating.Goals as goal

among : (c : In_ok-number) → Contains (labels_of c.number.new.self) (says (term_tree c.args.owner.now) (statement_of c.number.new.self))
among c =
    let k = c.in_ok-number.ensures.keeps in
    let e = c.if-not-equal.false in
    let same : formula_tree c.args.said.now ≡ statement_of c.number.new.self = c.equal.ensures.0 (cc e) ∙ sym k.statement in
    subst (λ g. Contains (labels_of c.number.new.self) (says (term_tree c.args.owner.now) g)) same (among_after c.args.self.now c.number.new.self k _ c.requires.among)

-- what is known when the mark was made
abbrev marked : In_ok-number → Facts
marked c =
    let known = c.number.new.self in
    record { labels = known.labels; statement = known.statement; principals = known.principals; stating = with_item known.stating c.in_ok-number.number true; granting = known.granting; delegations = known.delegations }

pub returns-clause-right : goal.returns-clause-right
returns-clause-right c =
    let d = (goal.at.returns-clause-right c).In_ok-number in
    right_stating c.number.new.self (marked d) c.in_ok-number.number (term_tree c.args.owner.now) c.in_ok-number.ensures.number refl refl refl refl refl refl c.in_ok-number.ensures.right (among d)

pub returns-clause-keeps : goal.returns-clause-keeps
returns-clause-keeps c =
    let d = (goal.at.returns-clause-keeps c).In_ok-number in
    keeps_twice c.args.self.now c.number.new.self (marked d) c.in_ok-number.ensures.keeps
    (keeps_stating c.number.new.self (marked d) c.in_ok-number.number (term_tree c.args.owner.now) c.in_ok-number.ensures.number refl refl refl refl refl refl)

pub returns-clause-states : goal.returns-clause-states
returns-clause-states c = λ same.
    let d = (goal.at.returns-clause-states c).In_ok-number in
    stating_told c.number.new.self (marked d) c.in_ok-number.number (term_tree c.args.owner.now) c.in_ok-number.ensures.number refl refl refl refl refl refl c.in_ok-number.ensures.right
