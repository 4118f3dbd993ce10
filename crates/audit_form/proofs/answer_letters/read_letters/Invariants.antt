use Rattle.std.proofs.Common.{◌≡◌, length, map, take}
use Rattle.audit_form.specs.RecordLines.{answer_letter}
use Rattle.audit_form.proofs.answer_letters.read_letters.Given as goal

abbrev pub invariant-loop-byte : goal.invariant-loop-byte
invariant-loop-byte l = (map answer_letter l.letters ≡ take l.byte-index l.text) × (length l.letters ≡ l.byte-index)
