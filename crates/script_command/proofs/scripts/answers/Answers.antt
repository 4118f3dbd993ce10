use Rattle.script_command.proofs.ScriptEnds.{handed_end}
use Rattle.script_command.proofs.scripts.answers.Goals as goal

pub returns-clause-ends : goal.returns-clause-ends
returns-clause-ends g c = handed_end _ c.reach_and_reply-status.new.journal _ _ _ _ c.handed-journal.ensures.written c.handed-journal.ensures.unreached c.handed-journal.ensures.memory c.reach_and_reply-status.ensures.ends
