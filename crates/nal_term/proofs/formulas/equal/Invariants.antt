use Rattle.nal_term.proofs.formulas.equal.Given as goal

abbrev pub ghosts-equal_uncounted : goal.ghosts-equal_uncounted
ghosts-equal_uncounted a = record { name = a.blank.name; parts = a.blank.parts }
