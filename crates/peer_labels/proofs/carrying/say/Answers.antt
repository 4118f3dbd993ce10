use Rattle.std.proofs.Common.{◌∙◌, ap, refl}
use Rattle.nal_term.specs.Trees.{formula_tree}
use Rattle.policy_history.specs.Events.{EventTree}
use Rattle.policy_history.specs.Values.{state_after}
use Rattle.peer_labels.specs.Carrying.{said_by}
use Rattle.peer_labels.proofs.Saying.{entry_more, free_where, refused_where, said_event}
use Rattle.peer_labels.proofs.carrying.say.Goals as goal

pub returns-then-is_err-clause-ok : goal.returns-then-is_err-clause-ok
returns-then-is_err-clause-ok c =
    let j = c.args.journal.now in
    let event = said_event j.head c.args.session c.args.peer c.in_ok-name.name (formula_tree c.in_ok-copy.field-0) (formula_tree c.args.label.now) (c.in_ok-name.ensures ∙ (rw c.head.ensures at c.name.ensures)) c.in_ok-copy.ensures in
    (refused_where j.head (state_after j) c.args.session c.args.peer _ _ event _ c.decide.ensures.decision _ c.is_err.ensures.value c.if-is_err.true, refl)

pub returns-clause-ok : goal.returns-clause-ok
returns-clause-ok c =
    let j = c.args.journal.now in
    let event = said_event j.head c.args.session c.args.peer c.in_ok-name.name (formula_tree c.in_ok-copy.field-0) (formula_tree c.args.label.now) (c.in_ok-name.ensures ∙ (rw c.head.ensures at c.name.ensures)) c.in_ok-copy.ensures in (
      free_where j.head (state_after j) c.args.session c.args.peer _ _ event _ c.decide.ensures.decision _ c.is_err.ensures.value c.if-is_err.false,
      entry_more j.entries _ _ (said_by j.head c.args.session c.args.peer (formula_tree c.args.label.now)) (rw c.in_ok-spare.ensures.entries at c.append.ensures.entries)
          (ap (λ (e : EventTree). record { session = c.args.session; principal = c.args.peer; event = e }) event),
    )
