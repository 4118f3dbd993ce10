use Rattle.nal_term.specs.Trees.{term_tree}
use Rattle.nal_term.proofs.Closed.{closed_term_spec}
use Rattle.nal_term.proofs.free.is_closed_term.Goals as goal

pub returns : goal.returns
returns c = rw c.covers_term_uncounted.ensures (closed_term_spec (term_tree c.args.t.now))
