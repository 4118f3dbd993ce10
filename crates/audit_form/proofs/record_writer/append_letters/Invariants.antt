use Rattle.std.proofs.Common.{◌≡◌, ◌++◌, map, take}
use Rattle.audit_form.specs.RecordLines.{answer_letter}
use Rattle.audit_form.proofs.record_writer.append_letters.Given as goal

abbrev pub invariant-loop-answer : goal.invariant-loop-answer
invariant-loop-answer l = l.line.items ≡ l.initial.line.items ++ map answer_letter (take l.answer-index l.answers)
