use Rattle.std.proofs.Common.{subst}
use Rattle.policy_history.specs.declared.events.Entry.{Entry}
use Rattle.policy_history.specs.declared.heads.Head.{Head}
use Rattle.verdict_words.specs.Values.{Identity}
use Rattle.policy_book.specs.Access.{HasMet}
use Rattle.policy_book.proofs.Accessing.{has_met}
use Rattle.policy_book.proofs.visits.refuse.Goals as goal

pub returns-clause-met : goal.returns-clause-met
returns-clause-met c =
    subst (λ (b : Identity Entry Head). HasMet b c.args.seated.now.entries c.args.pass c.meet.result) c.requires.board
    (has_met c.args.seated.now.board _ _ _ _ _ _ c.meet.ensures.pass c.meet.ensures.met c.meet.ensures.known)
