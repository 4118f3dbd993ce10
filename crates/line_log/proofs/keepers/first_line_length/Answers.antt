use Rattle.std.proofs.Common.{◌≤◌, ◌<◌, ◌+◌, ℕ, length, take, sym, ap, subst, arith}
use Rattle.line_log.specs.LineLogs.{IsLine}
use Rattle.line_log.proofs.FirstLines.{first_line_fed, piece_unfed}
use Rattle.line_log.proofs.keepers.first_line_length.Goals as goal

pub returns-then-body-piece : goal.returns-then-body-piece
returns-then-body-piece c =
    let piece = c.args.piece.now in
    let same = ap length c.first_line.ensures.line in
    let shorter = c.if-body-piece.true in (
      omega (arith),
      omega (arith, shorter),
      subst (λ (n : ℕ). IsLine (take (n + 1) piece)) (sym same) (first_line_fed piece (subst (λ (n : ℕ). n < length piece) same shorter)),
    )

pub returns-else-body-piece : goal.returns-else-body-piece
returns-else-body-piece c =
    let piece = c.args.piece.now in
    piece_unfed piece (subst (λ (n : ℕ). length piece ≤ n) (ap length c.first_line.ensures.line) c.if-body-piece.false)
