use Rattle.nexus_run.proofs.Words.{no_closing}
use Rattle.nexus_run.proofs.commands.closing_of.Goals as goal

pub returns-in_err-patience : goal.returns-in_err-patience
returns-in_err-patience c = rw c.from_residual.ensures (no_closing _ _ _ c.without_records-records.ensures.front c.without_records-records.ensures.none c.in_err-patience.ensures)
