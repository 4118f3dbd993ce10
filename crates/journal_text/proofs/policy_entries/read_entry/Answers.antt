use Rattle.std.proofs.Common.{refl, sym, arith}
use Rattle.policy_history.specs.Events.{event_tree}
use Rattle.journal_text.proofs.PolicyEntries.{entry_line, err_over, no_event, no_principal, no_second_space, no_session}
use Rattle.journal_text.proofs.policy_entries.read_entry.Goals as goal

pub returns-in_default-split_word-clause-bad : goal.returns-in_default-split_word-clause-bad
returns-in_default-split_word-clause-bad c = λ _ e l.
    no_second_space _ _ _ c.in-Some.ensures.0 c.in-Some.ensures.1 c.in_default-split_word.ensures e l

pub returns-in_default-read_session-clause-bad : goal.returns-in_default-read_session-clause-bad
returns-in_default-read_session-clause-bad c = λ _ e l.
    no_session _ _ _ c.in-Some.ensures.0 c.in-Some.ensures.1 (c.in_default-read_session.ensures.none refl) e l

pub returns-in-Ok-None-clause-bad : goal.returns-in-Ok-None-clause-bad
returns-in-Ok-None-clause-bad c = λ _ e l.
    no_principal _ _ _ _ _ c.in-Some.ensures.0 c.in-Some.ensures.1 c.in-Some-split_word.ensures.0 c.in-Some-split_word.ensures.1 (rw c.in-Ok-None.field-0-is at c.in-Ok-None.ensures.number) e l

pub returns-in-Ok-clause-ok : goal.returns-in-Ok-clause-ok
returns-in-Ok-clause-ok c =
    let number = rw c.in-Ok-Some.field-0-is at c.in-Ok-Some.ensures.number in
    let named = rw c.in-Ok-Some.field-0-is at c.in-Ok-Some.ensures.named in
    entry_line c.args.head.now c.args.line.now c.in-Some.session.now c.in-Some.rest.now c.in-Some-split_word.name.now c.in-Some-split_word.text.now
    c.in-Some-read_session.session c.in-Ok-Some.principal (event_tree c.in-Ok.event) c.in-Some.ensures.0 c.in-Some-split_word.ensures.0
    named c.in-Some-read_session.ensures.value.0 c.in-Some-read_session.ensures.value.1 (omega arith)
    (sym number) c.in-Ok.ensures.ok

pub returns-in-Err-read_event-clause-bad : goal.returns-in-Err-read_event-clause-bad
returns-in-Err-read_event-clause-bad c = λ told e l.
    no_event _ _ _ _ _ c.in-Some.ensures.0 c.in-Some.ensures.1 c.in-Some-split_word.ensures.0 c.in-Some-split_word.ensures.1 (c.in-Err-read_event.ensures.bad (err_over _ _ told)) e l
