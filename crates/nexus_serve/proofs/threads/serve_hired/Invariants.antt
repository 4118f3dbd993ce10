use Rattle.std.proofs.Common.{Some}
use Rattle.nexus_serve.proofs.threads.serve_hired.Given as goal

-- the book that is shared
abbrev pub ghosts-let_work-N-BookNaming : goal.ghosts-let_work-N-BookNaming
ghosts-let_work-N-BookNaming g a = record { board = Some a.board.now; next = a.book.next; start = a.book.start; start_faults = a.book.start_faults }

-- the ledger of the writers
abbrev pub ghosts-let_work-W-Ledger : goal.ghosts-let_work-W-Ledger
ghosts-let_work-W-Ledger g a = record { name = a.turns.name; parts = a.turns.parts }
