use Rattle.nexus_drill.proofs.Loading.{drawn_step}
use Rattle.nexus_drill.proofs.core_load.take.Goals as goal

pub returns : goal.returns
returns c =
    drawn_step c.args.machine.now c.step.new.self c.args.draw c.args.held.now c.in_ok-step.step c.requires c.in_ok-step.ensures c.in_ok-step-2.ensures.step
    c.journal.result.now c.journal-2.result.now c.journal.ensures c.journal-2.ensures c.count-before.result c.count.result
    c.count-before.ensures.count c.count.ensures.count c.count-before.ensures.accepted c.count.ensures.legal c.held_after.result c.held_after.ensures
