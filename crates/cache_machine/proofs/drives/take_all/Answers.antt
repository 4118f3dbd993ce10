use Rattle.std.proofs.Common.{[]}
use Rattle.cache_machine.proofs.Running.{none_taken, taken_more}
use Rattle.cache_machine.proofs.drives.take_all.Goals as goal

pub loop-step-init : goal.loop-step-init
loop-step-init c = ([], none_taken c.args.machine.now)

pub loop-step-preserved : goal.loop-step-preserved
loop-step-preserved c =
    taken_more c.args.machine.now c.loop-step.machine c.step.new.self c.args.steps.now c.loop-step.step-index c.step-item.result c.step-item.result c.loop-step-test.true c.step-item.is
    c.loop-step.invariant c.in_ok-step.ensures.step
