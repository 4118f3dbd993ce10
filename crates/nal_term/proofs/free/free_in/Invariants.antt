use Rattle.nal_term.proofs.free.free_in.Given as goal

abbrev pub ghosts-free_in_uncounted : goal.ghosts-free_in_uncounted
ghosts-free_in_uncounted a = record { name = a.blank.name; parts = a.blank.parts }
