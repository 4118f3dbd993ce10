use Rattle.authority_ask.proofs.ForCallers.{only_nothing, since_nothing}
use Rattle.std.proofs.lemmas.List.{length-map}
use Rattle.policy_history.specs.Events.{entry_tree}
use Rattle.journal_text.specs.RequestEvents.{IsChange}
use Rattle.session_core.proofs.Answering.{by_call, by_change, by_see, change_grows, is_change}
use Rattle.session_core.proofs.answers.serve.Goals as goal

pub returns-in-Call-clause-outcome : goal.returns-in-Call-clause-outcome
returns-in-Call-clause-outcome g c = rw c.in-Call.is (by_call _ _ _ _ c.in-Call.op c.in-Call.object c.in-Call.arg _ _ c.call.ensures.outcome)

pub returns-in-See-clause-outcome : goal.returns-in-See-clause-outcome
returns-in-See-clause-outcome g c =
    rw c.in-See.is (by_see _ _ _ _ c.in-See.number _ _ (since_nothing (g.P.Panel.history c.args.panel.now)) (rw (c.count.ensures.count, ← length-map c.args.journal.now.entries entry_tree) at c.seen_reply.ensures))

pub returns-in-See-clause-asked : goal.returns-in-See-clause-asked
returns-in-See-clause-asked g c = only_nothing _

pub returns-in_default : goal.returns-in_default
returns-in_default g c =
    let change : IsChange c.args.request.now = is_change _ c.requires.no_hello c.in_default.not-Call c.in_default.not-See in
    record {
      outcome = by_change _ _ _ _ _ _ _ _ (since_nothing (g.P.Panel.history c.args.panel.now)) change c.change.ensures.outcome;
      head = c.change.ensures.head;
      grows = change_grows _ _ _ _ _ _ _ c.change.ensures.outcome;
      asked = only_nothing _;
    }
