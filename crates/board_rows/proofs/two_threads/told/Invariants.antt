use Rattle.std.specs.Prelude.{Some}
use Rattle.board_rows.proofs.two_threads.told.Given as goal

-- the board that was made, and its sessions
abbrev pub ghosts-serve_both : goal.ghosts-serve_both
ghosts-serve_both g a = record { board = Some a.board.now; next = a.seat.next }
