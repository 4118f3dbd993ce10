use Rattle.nal_subst.proofs.instances.instance.Given as goal

abbrev pub ghosts-instance_uncounted : goal.ghosts-instance_uncounted
ghosts-instance_uncounted a = record { name = a.blank.name; parts = a.blank.parts }
