use Rattle.std.proofs.Common.{◌≡◌, ◌≤◌, length}
use Rattle.book_rows.proofs.plays.step_all.Given as goal

-- the book stays the one of its board, and so do the passes
abbrev pub invariant-loop-line : goal.invariant-loop-line
invariant-loop-line g l =
    (g.B.BookAccess.board l.book ≡ l.board) × (l.head ≡ l.board.origin.setting) × (2 ≤ length l.board.origin.setting.principals) × (l.passes.0.board ≡ l.board) × (l.passes.1.board ≡ l.board)
