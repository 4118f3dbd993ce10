use Rattle.std.proofs.Common.{refl}
use Rattle.label_holdings.proofs.Journals.{first_step}
use Rattle.label_holdings.proofs.label_tenures.first_tenure.Goals as goal

pub returns : goal.returns
returns c = first_step c.args.journal.now.head c.args.journal.now.entries c.count-legal.ensures.legal c.args.index c.index.result.now c.requires (rw c.entries.ensures at c.index.ensures) _ c.first_holder.ensures refl
