use Rattle.std.proofs.Common.{refl}
use Rattle.nx_io.proofs.ForCallers.{gained-nothing}
use Rattle.script_command.specs.Inner.ScriptEnds.{not_reached}
use Rattle.script_command.proofs.ScriptEnds.{reached_end}
use Rattle.script_command.proofs.scripts.reach_and_reply.Goals as goal

pub returns-in-Ready-clause-ends : goal.returns-in-Ready-clause-ends
returns-in-Ready-clause-ends g c =
    reached_end _ c.reply.new.journal _ (g.P.Panel.history c.args.panel.now) (g.P.Panel.history c.reach_all.new.panel) (g.P.Panel.history c.reply.new.panel) _
    (rw c.head.ensures at c.in-Ready.ensures.reached) c.reply.ensures.ends

pub returns-in-Failed-clause-ends : goal.returns-in-Failed-clause-ends
returns-in-Failed-clause-ends g c = not_reached refl (rw c.head.ensures at c.in-Failed.ensures.reached) (gained-nothing (g.K.Sink.sent c.args.output.now)) refl
