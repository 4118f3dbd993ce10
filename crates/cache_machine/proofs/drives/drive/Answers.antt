use Rattle.std.proofs.Common.{map}
use Rattle.policy_history.specs.Values.{entry_trees}
use Rattle.cache_machine.specs.Views.{step_tree}
use Rattle.cache_machine.proofs.Ending.{outcome_of}
use Rattle.cache_machine.proofs.drives.drive.Goals as goal

pub returns : goal.returns
returns c =
    let taken = rw c.deref.ensures.value at c.in_ok-take_all.ensures in (
      taken.0,
      outcome_of c.args.journal.head (entry_trees c.args.journal.entries) c.args.actors.now.items c.in_ok-machine.machine c.take_all.new.machine (map step_tree c.args.steps.now.items) taken.0 c.finish.result
          c.requires.principals
          c.in_ok-machine.ensures.state c.in_ok-machine.ensures.told c.in_ok-machine.ensures.idle taken.1
          c.finish.ensures.journal c.finish.ensures.told c.finish.ensures.idle,
    )
