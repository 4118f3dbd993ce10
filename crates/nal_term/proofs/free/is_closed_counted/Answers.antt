use Rattle.nal_term.specs.Trees.{formula_tree}
use Rattle.nal_term.proofs.Closed.{closed_spec}
use Rattle.nal_term.proofs.free.is_closed_counted.Goals as goal

pub returns-clause-closed : goal.returns-clause-closed
returns-clause-closed g c = rw c.covers.ensures.value (closed_spec (formula_tree c.args.f.now))
