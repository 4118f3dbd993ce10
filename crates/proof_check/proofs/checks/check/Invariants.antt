use Rattle.proof_check.proofs.checks.check.Given as goal

abbrev pub ghosts-check_uncounted : goal.ghosts-check_uncounted
ghosts-check_uncounted a = record { name = a.blank.name; parts = a.blank.parts }
