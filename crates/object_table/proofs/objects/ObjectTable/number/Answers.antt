use Rattle.std.proofs.Common.{◌∙◌, sym}
use Rattle.nal_term.proofs.ForCallers.{name_at_place, name_without_place}
use Rattle.object_table.proofs.objects.ObjectTable.number.Goals as goal

pub returns-in-Some-clause-found : goal.returns-in-Some-clause-found
returns-in-Some-clause-found c = rw (← c.self.view_is) (name_at_place _ _ _ (sym c.get_index_of.ensures.index ∙ c.in-Some.is))

pub returns-in-None-clause-none : goal.returns-in-None-clause-none
returns-in-None-clause-none c = rw (← c.self.view_is) (name_without_place _ _ (sym c.get_index_of.ensures.index ∙ c.in-None.is))
