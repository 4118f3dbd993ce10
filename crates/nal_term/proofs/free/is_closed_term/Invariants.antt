use Rattle.nal_term.proofs.free.is_closed_term.Given as goal

abbrev pub ghosts-covers_term_uncounted : goal.ghosts-covers_term_uncounted
ghosts-covers_term_uncounted a = record { name = a.blank.name; parts = a.blank.parts }
