use Rattle.nexus_run.proofs.Words.{no_command}
use Rattle.nexus_run.proofs.commands.call_of.Goals as goal

pub returns-in_err-command_of : goal.returns-in_err-command_of
returns-in_err-command_of c = rw c.from_residual.ensures (no_command c.in_default.ensures c.in_default-talk_of.ensures c.in_err-command_of.ensures)
