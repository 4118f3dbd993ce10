use Rattle.audit_form.proofs.RecordLines.{no_fourth, no_second, no_third}
use Rattle.audit_form.proofs.record_lines.words_of.Goals as goal

pub returns-in_default-split_word : goal.returns-in_default-split_word
returns-in_default-split_word c = no_second c.args.line.now c.in-Some.at.now c.in-Some.behind_at.now c.in-Some.ensures.0 c.in-Some.ensures.1 c.in_default-split_word.ensures

pub returns-in_default-split_word-2 : goal.returns-in_default-split_word-2
returns-in_default-split_word-2 c =
    no_third c.args.line.now c.in-Some.at.now c.in-Some.behind_at.now c.in-Some-split_word.name.now c.in-Some-split_word.behind_name.now c.in-Some.ensures.0 c.in-Some.ensures.1
    c.in-Some-split_word.ensures.0 c.in-Some-split_word.ensures.1 c.in_default-split_word-2.ensures

pub returns-in_default-split_word-3 : goal.returns-in_default-split_word-3
returns-in_default-split_word-3 c =
    no_fourth c.args.line.now c.in-Some.at.now c.in-Some.behind_at.now c.in-Some-split_word.name.now c.in-Some-split_word.behind_name.now c.in-Some-split_word-2.op.now c.in-Some-split_word-2.behind_op.now
    c.in-Some.ensures.0 c.in-Some.ensures.1 c.in-Some-split_word.ensures.0 c.in-Some-split_word.ensures.1 c.in-Some-split_word-2.ensures.0 c.in-Some-split_word-2.ensures.1 c.in_default-split_word-3.ensures
