use Rattle.nal_subst.proofs.Places.{free_after, free_by_places, undefined_by_places}
use Rattle.nal_subst.proofs.laws.variables_are_kept_apart.Goals as goal

pub returns : goal.returns
returns c = record { free = free_by_places; undefined = undefined_by_places; after = free_after }
