use Rattle.std.proofs.Common.{◌+◌, List, refl, ◌∙◌, ap, arith}
use Rattle.policy_history.specs.Values.{entry_trees}
use Rattle.journal_text.proofs.ForCallers.{greatest_at_most}
use Rattle.policy_script.specs.ScriptForm.{most_session}
use Rattle.policy_script.specs.ScriptText.{script_text}
use Rattle.session_wire.specs.declared.replies.Reply.{Reply}
use Rattle.nx_io.proofs.ForCallers.{gained-by}
use Rattle.script_command.specs.Inner.ScriptEnds.{replied, replied_in_part}
use Rattle.script_command.proofs.ScriptEnds.{are_answered, text_sent}
use Rattle.script_command.proofs.scripts.reply.Goals as goal

pub overflow_add-first : goal.overflow_add-first
overflow_add-first g c =
    let bound = greatest_at_most most_session (entry_trees c.args.journal.now.entries) c.requires.below in
    omega (arith, bound, c.greatest_session-first.ensures)

pub answer_all-requires-clause-numbers : goal.answer_all-requires-clause-numbers
answer_all-requires-clause-numbers g c =
    let bound = greatest_at_most most_session (entry_trees c.args.journal.now.entries) c.requires.below in
    omega (arith, bound, c.greatest_session-first.ensures)

pub returns-in-Ready-clause-ends : goal.returns-in-Ready-clause-ends
returns-in-Ready-clause-ends g c =
    let text_is = c.as_slice-2.ensures ∙ c.in-Ok-script_text.ensures
    ∙ ap (λ (replies : List Reply). script_text replies c.answer_all.new.journal.head (entry_trees c.answer_all.new.journal.entries)) c.as_slice.ensures.value in
    let answered = are_answered c.args.journal.now c.answer_all.new.journal c.args.askings.now _ (g.P.Panel.history c.args.panel.now) (g.P.Panel.history c.answer_all.new.panel)
    c.in-Ok.replies.items c.as_slice-2.result.now c.in-Ok.ensures.told (ap (λ n. n + 1) c.greatest_session-first.ensures) c.answer_all.ensures.head text_is c.answer_all.ensures.asked in
    replied refl (text_sent _ _ _ (g.K.Sink.sent c.args.output.now) (g.K.Sink.sent c.send_all.new.sink) c.as_slice-2.result.now c.in-Ready.ensures.bytes answered) c.in-Ready.ensures.count

pub returns-clause-ends : goal.returns-clause-ends
returns-clause-ends g c =
    let text_is = c.as_slice-2.ensures ∙ c.in-Ok-script_text.ensures
    ∙ ap (λ (replies : List Reply). script_text replies c.answer_all.new.journal.head (entry_trees c.answer_all.new.journal.entries)) c.as_slice.ensures.value in
    let answered = are_answered c.args.journal.now c.answer_all.new.journal c.args.askings.now _ (g.P.Panel.history c.args.panel.now) (g.P.Panel.history c.answer_all.new.panel)
    c.in-Ok.replies.items c.as_slice-2.result.now c.in-Ok.ensures.told (ap (λ n. n + 1) c.greatest_session-first.ensures) c.answer_all.ensures.head text_is c.answer_all.ensures.asked in
    let part = c.in-Failed.ensures.bytes in
    replied_in_part c.as_slice-2.result.now refl answered (part.0, part.1, gained-by (g.K.Sink.sent c.args.output.now) (g.K.Sink.sent c.send_all.new.sink) _ part.2) c.in-Failed.ensures.count
