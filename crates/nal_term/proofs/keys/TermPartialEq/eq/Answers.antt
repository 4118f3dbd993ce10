use Rattle.std.specs.Bool.{one_answer}
use Rattle.nal_term.specs.TreeKeys.{same_terms-Decides}
use Rattle.nal_term.proofs.keys.TermPartialEq.eq.Goals as goal

pub returns : goal.returns
returns c = one_answer _ _ c.equal_terms.ensures (same_terms-Decides _ _)
