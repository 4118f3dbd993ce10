use Rattle.policy_history.specs.Events.{entry_tree}
use Rattle.policy_history.specs.Values.{entry_trees}
use Rattle.case_reasons.proofs.Objects.{made_by, made_once, none_made}
use Rattle.case_reasons.proofs.explanations.object_reason.Goals as goal

pub returns-in_err-number-clause-none : goal.returns-in_err-number-clause-none
returns-in_err-number-clause-none c =
    λ none. none_made c.args.journal.now.head (entry_trees c.args.journal.now.entries) c.in_err-number.ensures.legal c.args.object.now c.in_err-number.ensures.last

pub returns-clause-some : goal.returns-clause-some
returns-clause-some c =
    let h = c.args.journal.now.head in
    let es = entry_trees c.args.journal.now.entries in
    let object = c.args.object.now in
    let entry = entry_tree c.in_ok-number.entry.now in
    let last = c.in_ok-number.ensures.last in
    let legal = c.in_ok-number.ensures.legal in
    λ number there. record {
      entry = entry;
      stands = last.stands;
      made = last.passing;
      only = λ m other stands made. made_once h es legal object m c.in_ok-number.number other entry stands last.stands made last.passing;
      owner = made_by h es legal object c.in_ok-number.number entry last.stands last.passing number there;
    }
