use Rattle.std.proofs.Common.{◌∙◌, sym, subst, arith}
use Rattle.form_lines.specs.Reading.{here}
use Rattle.form_lines.proofs.ForCallers.{ends_here, long_left, none_left, one_more, passes_on, passes_start, some_left, unread}
use Rattle.form_lines.proofs.reading.read_lines.Goals as goal

pub loop-rest-init : goal.loop-rest-init
loop-rest-init g c = (here, omega arith, passes_start g.P.Progress.follows (g.P.Progress.stage c.args.first) c.args.text.now)

pub loop-rest-preserved : goal.loop-rest-preserved
loop-rest-preserved g c =
    let rest = c.loop-rest.rest.now in
    let some = some_left rest c.is_empty.result c.is_empty.ensures c.loop-rest-test.true in
    let shorter = c.first_line.ensures.shorter (long_left rest some) in (
      rw c.first_line.ensures.rest (one_more g.P.Progress.follows c.loop-rest.invariant.0 some (rw c.first_line.ensures.line at c.in-Ok.ensures.ok)),
      omega (arith, c.loop-rest.invariant.1, shorter),
      rw c.first_line.ensures.rest (passes_on g.P.Progress.follows (g.P.Progress.stage c.args.first) (g.P.Progress.stage c.loop-rest.progress) (g.P.Progress.stage c.in-Ok.next) c.args.text.now rest c.loop-rest.invariant.2 some
          (λ other f. c.in-Ok.ensures.only other (rw c.first_line.ensures.line f))),
    )

pub returns-in-Err-Wrong-clause-refused : goal.returns-in-Err-Wrong-clause-refused
returns-in-Err-Wrong-clause-refused g c = λ n other ends l.
    let wrong = (rw c.in-Err-Wrong.field-0-is at c.in-Err-Wrong.ensures.wrong) (λ e. cc) in
    unread g.P.Progress.follows (g.P.Progress.stage c.args.first) (g.P.Progress.stage c.loop-rest.progress) c.args.text.now c.loop-rest.rest.now c.loop-rest.invariant.2
    (some_left c.loop-rest.rest.now c.is_empty.result c.is_empty.ensures c.loop-rest-test.true)
    (λ next f. wrong next (rw c.first_line.ensures.line f)) other l

pub returns-then-is_ended-clause-only : goal.returns-then-is_ended-clause-only
returns-then-is_ended-clause-only g c = λ other l.
    let none = none_left c.loop-rest.rest.now c.is_empty.result c.is_empty.ensures c.loop-rest-test.false in
    sym (ends_here g.P.Progress.follows (g.P.Progress.stage c.args.first) (g.P.Progress.stage c.loop-rest.progress) c.args.text.now c.loop-rest.rest.now c.loop-rest.invariant.2 none other l)

pub returns-else-is_ended-clause-refused : goal.returns-else-is_ended-clause-refused
returns-else-is_ended-clause-refused g c = λ n other ends l.
    let none = none_left c.loop-rest.rest.now c.is_empty.result c.is_empty.ensures c.loop-rest-test.false in
    let same = ends_here g.P.Progress.follows (g.P.Progress.stage c.args.first) (g.P.Progress.stage c.loop-rest.progress) c.args.text.now c.loop-rest.rest.now c.loop-rest.invariant.2 none other l in
    let yes = c.is_ended.ensures.1 (subst g.P.Progress.is_end (sym same) ends) in
    cc (yes, c.if-is_ended.false)
