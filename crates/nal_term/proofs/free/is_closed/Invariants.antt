use Rattle.nal_term.proofs.free.is_closed.Given as goal

abbrev pub ghosts-covers_uncounted : goal.ghosts-covers_uncounted
ghosts-covers_uncounted a = record { name = a.blank.name; parts = a.blank.parts }
