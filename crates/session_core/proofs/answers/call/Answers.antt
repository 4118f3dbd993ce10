use Rattle.std.proofs.Common.{◌≡◌, length, sym, ◌∙◌}
use Rattle.std.proofs.lemmas.List.{length-map}
use Rattle.policy_history.specs.Events.{entry_tree}
use Rattle.policy_history.specs.Values.{entry_trees}
use Rattle.session_core.proofs.Answering.{call_judged}
use Rattle.session_core.proofs.answers.call.Goals as goal

pub returns-in-Ok-Case-clause-outcome : goal.returns-in-Ok-Case-clause-outcome
returns-in-Ok-Case-clause-outcome g c =
    let found = rw c.in-Ok-Case.field-0-is at c.in-Ok-Case.ensures.found in
    let at : c.count-at.result ≡ length (entry_trees c.args.journal.now.entries) = c.count-at.ensures.count ∙ sym (length-map c.args.journal.now.entries entry_tree) in
    call_judged _ _ _ _ _ _ _ _ _ _ found.0 found.1 at c.judged.ensures.outcome
