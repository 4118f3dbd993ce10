use Rattle.std.specs.Prelude.{Some}
use Rattle.session_rows.proofs.plays.serve_all.Given as goal

-- the book that was made
abbrev pub ghosts-serve_passes-N-BookNaming : goal.ghosts-serve_passes-N-BookNaming
ghosts-serve_passes-N-BookNaming g a = record { board = Some a.board.now; next = a.book.next; start = a.book.start; start_faults = a.book.start_faults }

-- the ledger that counts in it
abbrev pub ghosts-serve_passes-T-Ledger : goal.ghosts-serve_passes-T-Ledger
ghosts-serve_passes-T-Ledger g a = record { name = a.ledgers.0.name; parts = a.ledgers.0.parts }

-- and the one that says where its pen is
abbrev pub ghosts-serve_passes-W-Ledger : goal.ghosts-serve_passes-W-Ledger
ghosts-serve_passes-W-Ledger g a = record { name = a.ledgers.1.name; parts = a.ledgers.1.parts }
