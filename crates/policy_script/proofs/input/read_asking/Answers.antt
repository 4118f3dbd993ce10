use Rattle.std.proofs.Common.{refl, arith}
use Rattle.policy_script.proofs.Askings.{asking_only, no_number, number_bad, word_of}
use Rattle.policy_script.proofs.input.read_asking.Goals as goal
use Rattle.policy_script.proofs.input.read_asking.Goals.{then-number-eq0-via-then-number-eq0, then-number-eq0-via-else-number-eq0+then-number-gt-SESSIONS}

pub returns-in_default-read_number-clause-bad : goal.returns-in_default-read_number-clause-bad
returns-in_default-read_number-clause-bad c = λ bad other l. no_number c.args.line.now c.in-Some.word.now c.in-Some.text.now c.in-Some.ensures.0 c.in-Some.ensures.1 (c.in_default-read_number.ensures.none refl) other l

pub returns-then-number-eq0-clause-bad : goal.returns-then-number-eq0-clause-bad
returns-then-number-eq0-clause-bad c = λ bad other l.
    number_bad c.args.line.now c.in-Some.word.now c.in-Some.text.now c.in-Some-read_number.number c.in-Some.ensures.0 c.in-Some.ensures.1 c.in-Some-read_number.ensures.value (grind arith)
    (λ some most. elim c.then-number-eq0.branch [
      | then-number-eq0-via-then-number-eq0 w ↦ omega (arith, some, w.if-number-eq0.true)
      | then-number-eq0-via-else-number-eq0+then-number-gt-SESSIONS w ↦ omega (arith, most, w.if-number-gt-SESSIONS.true)
    ]) other l

pub returns-in-Ok-clause-only : goal.returns-in-Ok-clause-only
returns-in-Ok-clause-only c = λ other l.
    asking_only c.args.line.now c.in-Some.word.now c.in-Some.text.now c.in-Some-read_number.number c.in-Ok.request c.in-Some.ensures.0 c.in-Some.ensures.1 c.in-Some-read_number.ensures.value
    (omega (arith, c.if-number-eq0.false)) (omega arith) c.in-Ok.ensures.only other l

pub returns-in-Err-Bad-clause-bad : goal.returns-in-Err-Bad-clause-bad
returns-in-Err-Bad-clause-bad c = λ bad other l.
    let parts = word_of c.args.line.now c.in-Some.word.now c.in-Some.text.now other c.in-Some.ensures.0 c.in-Some.ensures.1 l in
    (rw c.in-Err-Bad.field-0-is at c.in-Err-Bad.ensures.bad) refl other.request parts.1
