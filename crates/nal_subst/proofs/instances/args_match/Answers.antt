use Rattle.nal_subst.proofs.instances.args_match.Goals as goal

pub returns-clause-value : goal.returns-clause-value
returns-clause-value g c = rw (c.as_slice.ensures.items, c.as_slice-2.ensures.items) at c.terms_match.ensures.value
