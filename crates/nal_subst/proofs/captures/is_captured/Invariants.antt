use Rattle.nal_subst.proofs.captures.is_captured.Given as goal

abbrev pub ghosts-is_captured_uncounted : goal.ghosts-is_captured_uncounted
ghosts-is_captured_uncounted a = record { name = a.blank.name; parts = a.blank.parts }
