use Rattle.policy_history.specs.Events.{event_tree}
use Rattle.policy_history.specs.Values.{state_after}
use Rattle.journal_text.proofs.PolicyEntries.{decision_accepted, decision_refused}
use Rattle.journal_text.proofs.policy_entries.append_entry.Goals as goal

pub returns-in-Err-clause-refusal : goal.returns-in-Err-clause-refusal
returns-in-Err-clause-refusal c =
    let e = c.args.entry in
    decision_refused c.args.journal.now.head (state_after c.args.journal.now) e.session e.principal (event_tree e.event) c.in-Err.refusal c.in-Err.ensures.decision

pub returns-clause-refusal : goal.returns-clause-refusal
returns-clause-refusal c =
    let e = c.args.entry in
    decision_accepted c.args.journal.now.head (state_after c.args.journal.now) e.session e.principal (event_tree e.event) c.in_default.field-0 c.in_default.ensures.decision
