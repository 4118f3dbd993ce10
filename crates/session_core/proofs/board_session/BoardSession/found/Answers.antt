use Rattle.std.proofs.Common.{subst, refl, ◌∙◌}
use Rattle.nal_rules.specs.Asking.{case_tree}
use Rattle.policy_history.specs.Values.{entry_trees}
use Rattle.guard_core.specs.Judging.{verdict_of}
use Rattle.policy_book.specs.Matter.{IsHeldRight}
use Rattle.policy_book.proofs.ForCallers.{names_line}
use Rattle.session_core.proofs.BoardCalls.{cut_checked, found_checked, right_kept, taken_at}
use Rattle.session_core.specs.Inner.Boarding.{settled_judged}
use Rattle.session_core.proofs.Given.{judged, told_known}
use Rattle.session_core.proofs.BoardSnaps.{placed}
use Rattle.session_core.proofs.Noting.{due_verdict, found_is}
use Rattle.session_core.proofs.board_session.BoardSession.found.Goals as goal

pub keep-requires-clause-of_proof : goal.keep-requires-clause-of_proof
keep-requires-clause-of_proof g c = names_line (case_tree c.args.taken.now.case) _ (verdict_of c.args.finding.now) c.few_lines.ensures c.requires.judged.1.verdict

pub keep-requires-clause-right : goal.keep-requires-clause-right
keep-requires-clause-right g c = λ place held place_is stands lasting.
    subst (λ b. IsHeldRight b.origin.setting (entry_trees c.args.self.pass.seen) place.case held) c.requires.board
    (right_kept _ _ _ _ _ _ c.args.taken.now.case _ _ _ c.args.finding.now c.requires.snap.1 c.requires.judged.1 place held place_is stands lasting)

pub returns-clause-checked : goal.returns-clause-checked
returns-clause-checked g c = λ p told judged.
    found_checked p c.args.op.now c.args.room.op c.args.room.object c.args.arg c.args.taken.now.object c.args.taken.now.at c.args.taken.now.place _ c.args.self _ told c.args.finding.now _ c.keep.new.pass c.join-is_known.result
    c.requires.op (taken_at c.args.self _ c.requires.snap.1.at_is) judged c.join-is_known.ensures.known c.join-is_known.ensures.is_known c.keep.ensures c.judged_reply-reply.ensures refl

pub answers_of-answers-requires : goal.answers_of-answers-requires
answers_of-answers-requires g c = rw c.verdict_of.ensures (record { right = (_, told_known _ _ _ (judged _ c.requires.judged.0 _ c.requires.judged.1)) })

pub note-requires-clause-who : goal.note-requires-clause-who
note-requires-clause-who g c = (_, c.requires.who.0, c.requires.who.1)

pub note-requires-clause-due : goal.note-requires-clause-due
note-requires-clause-due g c = (c.args.taken.now.at, _, due_verdict c.args.taken.now.at 0 0 (verdict_of c.args.finding.now) c.found_reply-told.result (c.found_reply-told.ensures ∙ found_is _ c.args.finding.now))

pub returns-then-not-note-clause-checked : goal.returns-then-not-note-clause-checked
returns-then-not-note-clause-checked g c = λ p told is.
    cut_checked p c.args.op.now c.args.room.op c.args.room.object c.args.arg c.args.taken.now.object c.args.taken.now.at c.args.taken.now.place _ c.args.self _ told
    (taken_at c.args.self _ c.requires.snap.1.at_is) (settled_judged c.args.finding.now is) refl

pub returns-then-not-note-clause-noted : goal.returns-then-not-note-clause-noted
returns-then-not-note-clause-noted g c = λ p told who is.
    c.note.ensures.cut c.if-not-note.true _ p c.args.arg c.args.taken.now.at _ told who (c.as_slice-given.ensures.answers ∙ c.answers_of-answers.ensures _ (rw c.verdict_of.ensures (told_known _ _ _ (judged _ told _ is))))
    (due_verdict c.args.taken.now.at 0 0 (verdict_of c.args.finding.now) c.found_reply-told.result (c.found_reply-told.ensures ∙ found_is _ c.args.finding.now))

pub returns-clause-noted : goal.returns-clause-noted
returns-clause-noted g c = λ p told who is.
    c.note.ensures.sent c.if-not-note.false _ p c.args.arg c.args.taken.now.at _ told _ who (c.as_slice-given.ensures.answers ∙ c.answers_of-answers.ensures _ (rw c.verdict_of.ensures (told_known _ _ _ (judged _ told _ is))))
    (due_verdict c.args.taken.now.at 0 0 (verdict_of c.args.finding.now) c.found_reply-told.result (c.found_reply-told.ensures ∙ found_is _ c.args.finding.now)) (due_verdict c.args.taken.now.at 0 c.judged_reply-reply.ensures.value (verdict_of c.args.finding.now) c.judged_reply-reply.result c.judged_reply-reply.ensures.reply_is)

pub keep-requires-clause-place : goal.keep-requires-clause-place
keep-requires-clause-place g c = placed _ c.args.taken.now.place c.requires.snap.1.home
