use Rattle.std.proofs.Common.{◌≢◌, [], arith}
use Rattle.input_flaws.specs.LineFlaws.{first}
use Rattle.form_lines.proofs.ForCallers.{some_left}
use Rattle.input_flaws.proofs.LineFlaws.{line_further}
use Rattle.input_flaws.proofs.flaws.line_of.Goals as goal

pub returns-then-left-eq1 : goal.returns-then-left-eq1
returns-then-left-eq1 c =
    let some : c.loop-left.rest.now ≢ [] = some_left c.loop-left.rest.now c.is_empty.result c.is_empty.ensures c.if-not-is_empty.true in
    rw c.first_line.ensures.line ((c.loop-left.invariant _).0 (rw c.if-left-eq1.true (first some)))

pub loop-left-preserved : goal.loop-left-preserved
loop-left-preserved c line =
    let some : c.loop-left.rest.now ≢ [] = some_left c.loop-left.rest.now c.is_empty.result c.is_empty.ensures c.if-not-is_empty.true in
    let further = line_further c.loop-left.rest.now c.loop-left.left some (omega (arith, c.if-left-eq1.false, c.loop-left-test.true)) line in
    rw c.first_line.ensures.rest (λ l. (c.loop-left.invariant line).0 (further.0 l), λ l. further.1 ((c.loop-left.invariant line).1 l))
