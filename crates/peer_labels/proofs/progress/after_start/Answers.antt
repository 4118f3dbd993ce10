use Rattle.std.proofs.Common.{sym, ◌∙◌}
use Rattle.nal_term.specs.TreeKeys.{same_bytes-Decides}
use Rattle.peer_labels.specs.Bundles.{header}
use Rattle.peer_labels.proofs.progress.after_start.Goals as goal

pub returns-then-eq-clause-ok : goal.returns-then-eq-clause-ok
returns-then-eq-clause-ok c = rw c.new.ensures.items (header ((same_bytes-Decides c.args.line.now c.as_slice.result.now).0 (sym c.if-eq.ensures) ∙ c.as_slice.ensures))
