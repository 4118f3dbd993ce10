use Rattle.nal_term.specs.Trees.{formula_tree}
use Rattle.nal_term.proofs.Closed.{closed_but_spec}
use Rattle.nal_term.proofs.free.is_closed_but.Goals as goal

pub returns : goal.returns
returns c = rw c.covers_uncounted.ensures (closed_but_spec c.args.x.now (formula_tree c.args.f.now))
