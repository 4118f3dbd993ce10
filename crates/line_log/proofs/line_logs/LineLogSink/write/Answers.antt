use Rattle.std.proofs.Common.{◌≡◌, arith}
use Rattle.line_log.specs.LineLogs.{out, written}
use Rattle.line_log.proofs.Handled.{front_handled, kept_up_to, not_empty, nothing_handled, whole_handled}
use Rattle.line_log.proofs.line_logs.LineLogSink.write.Goals as goal

pub returns-in_default-clause-handled : goal.returns-in_default-clause-handled
returns-in_default-clause-handled g c = rw (← c.self.view_is, c.saturating_add-self-inside.ensures) (out c.in_default.not-Reached)

pub invariant_of-self : goal.invariant_of-self
invariant_of-self g c = rw c.saturating_add-self-inside.ensures (written c.self.invariant (not_empty c.args.piece.now c.requires) (out c.in_default.not-Reached))

pub returns-then-kept-piece-clause-handled : goal.returns-then-kept-piece-clause-handled
returns-then-kept-piece-clause-handled g c =
    rw (← c.self.view_is, c.tell.ensures)
    (whole_handled c.in-Reached.is c.requires c.if-kept-piece.true (c.keep_lines-kept.ensures.whole c.if-kept-piece.true))

pub invariant_of-self-then-kept-piece : goal.invariant_of-self-then-kept-piece
invariant_of-self-then-kept-piece g c =
    rw c.tell.ensures (written c.self.invariant (not_empty c.args.piece.now c.requires) (whole_handled c.in-Reached.is c.requires c.if-kept-piece.true (c.keep_lines-kept.ensures.whole c.if-kept-piece.true)))

pub returns-then-kept-gt0-clause-handled : goal.returns-then-kept-gt0-clause-handled
returns-then-kept-gt0-clause-handled g c =
    let kept = c.keep_lines-kept.ensures in
    let parts = kept_up_to kept.within c.if-kept-piece.false kept.cut in
    rw (← c.self.view_is, c.tell.ensures)
    (front_handled c.in-Reached.is c.if-kept-gt0.true parts)

pub invariant_of-self-then-kept-gt0 : goal.invariant_of-self-then-kept-gt0
invariant_of-self-then-kept-gt0 g c =
    let kept = c.keep_lines-kept.ensures in
    let parts = kept_up_to kept.within c.if-kept-piece.false kept.cut in
    rw c.tell.ensures
    (written c.self.invariant (not_empty c.args.piece.now c.requires) (front_handled c.in-Reached.is c.if-kept-gt0.true parts))

pub returns-clause-handled : goal.returns-clause-handled
returns-clause-handled g c =
    let kept = c.keep_lines-kept.ensures in
    let parts = kept_up_to kept.within c.if-kept-piece.false kept.cut in
    let none : c.keep_lines-kept.result ≡ 0 = omega (arith, c.if-kept-gt0.false) in
    rw (← c.self.view_is, c.tell.ensures, c.saturating_add-self-inside-2.ensures)
    (nothing_handled c.in-Reached.is none parts)

pub invariant_of-self-2 : goal.invariant_of-self-2
invariant_of-self-2 g c =
    let kept = c.keep_lines-kept.ensures in
    let parts = kept_up_to kept.within c.if-kept-piece.false kept.cut in
    let none : c.keep_lines-kept.result ≡ 0 = omega (arith, c.if-kept-gt0.false) in
    rw (c.tell.ensures, c.saturating_add-self-inside-2.ensures)
    (written c.self.invariant (not_empty c.args.piece.now c.requires) (nothing_handled c.in-Reached.is none parts))
