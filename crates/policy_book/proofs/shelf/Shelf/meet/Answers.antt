use Rattle.std.proofs.Common.{◌≡◌, List, ap, subst}
use Rattle.policy_history.specs.declared.events.Entry.{Entry}
use Rattle.policy_history.specs.declared.heads.Head.{Head}
use Rattle.verdict_words.specs.Values.{Identity}
use Rattle.policy_book.specs.Access.{HasMet}
use Rattle.policy_book.proofs.Accessing.{has_met}
use Rattle.policy_book.proofs.shelf.Shelf.meet.Goals as goal

pub returns-clause-met : goal.returns-clause-met
returns-clause-met g c =
    let seated = c.self.inside.seated in
    let same : seated.board ≡ c.args.board.now = cc (c.self.invariant.0, c.requires.board) in
    subst (λ (es : List Entry). HasMet c.args.board.now es c.args.pass c.meet.result) (ap (λ v. v.seated.entries) c.self.view_is)
    (subst (λ (b : Identity Entry Head). HasMet b seated.entries c.args.pass c.meet.result) same
    (has_met seated.board _ _ _ _ _ _ c.meet.ensures.pass c.meet.ensures.met c.meet.ensures.known))
