use Rattle.proof_check.proofs.checks.fault_of_line.Given as goal

abbrev pub ghosts-fault_uncounted : goal.ghosts-fault_uncounted
ghosts-fault_uncounted a = record { name = a.blank.name; parts = a.blank.parts }
