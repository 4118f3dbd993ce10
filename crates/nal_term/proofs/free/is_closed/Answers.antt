use Rattle.nal_term.specs.Trees.{formula_tree}
use Rattle.nal_term.proofs.Closed.{closed_spec}
use Rattle.nal_term.proofs.free.is_closed.Goals as goal

pub returns : goal.returns
returns c = rw c.covers_uncounted.ensures (closed_spec (formula_tree c.args.f.now))
