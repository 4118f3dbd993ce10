use Rattle.nexus_serve.proofs.service.serve.Given as goal

abbrev pub ghosts-serve_counted : goal.ghosts-serve_counted
ghosts-serve_counted g a = record { name = a.shift.blank.name; parts = a.shift.blank.parts }
