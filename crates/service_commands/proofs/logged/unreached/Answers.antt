use Rattle.service_commands.proofs.logged.unreached.Goals as goal

pub returns-clause-status : goal.returns-clause-status
returns-clause-status g c = rw c.of.ensures at c.unserved.ensures.status

pub returns-clause-unrefused : goal.returns-clause-unrefused
returns-clause-unrefused g c = rw c.of.ensures at c.unserved.ensures.refusal
