use Rattle.std.specs.Prelude.{Some}
use Rattle.book_rows.proofs.plays.served.Given as goal

-- the book that is shared
abbrev pub ghosts-play_shared-N-BookNaming : goal.ghosts-play_shared-N-BookNaming
ghosts-play_shared-N-BookNaming g a = record { board = Some a.board.now; next = a.book.next; start = a.book.start; start_faults = a.book.start_faults }

-- the ledger of what is not recorded
abbrev pub ghosts-play_shared-T-Ledger : goal.ghosts-play_shared-T-Ledger
ghosts-play_shared-T-Ledger g a = record { name = a.tickets.name; parts = a.tickets.parts }

-- the ledger of the writers
abbrev pub ghosts-play_shared-W-Ledger : goal.ghosts-play_shared-W-Ledger
ghosts-play_shared-W-Ledger g a = record { name = a.turns.name; parts = a.turns.parts }
