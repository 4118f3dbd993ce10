-- The values of the code as states, steps and moves.
use Rattle.std.specs.Prelude.{map}
use Rattle.nal_rules.specs.Asking.{case_tree}
use Rattle.policy_history.specs.Events.{event_tree}
use Rattle.policy_history.specs.Values.{entry_trees}
use Rattle.cache_machine.specs.declared.steps.Act.{Act}
use Rattle.cache_machine.specs.declared.steps.Act.TheVariants.{Write, Look, Count, Snap, Answer, Fill, Run, Raise, Object, Store}
use Rattle.cache_machine.specs.declared.steps.Step.{Step}
use Rattle.cache_machine.specs.declared.stages.Stage.{Stage}
use Rattle.cache_machine.specs.declared.stages.Stage.TheVariants.{Resting, Looked, Counted, Half, Missed, Raised, Holding, Allowed}
use Rattle.cache_machine.specs.declared.stages.Actor.{Actor}
use Rattle.cache_machine.specs.declared.stages.Move.{Move}
use Rattle.cache_machine.specs.declared.stages.Move.TheVariants.{Idle, Goes, Tells, Fills, Raises, Writes}
use Rattle.cache_machine.specs.declared.stages.World.{World}
use Rattle.cache_machine.specs.States.{ActorTree, MachineState, StageTree, resting, looked, counted, half, missed, raised, holding, allowed}
use Rattle.cache_machine.specs.Moves.{ActTree, MoveTree, StepTree, write, look, count, snap, answer, fill, run, raise, object, store, idle, goes, tells, fills, raises, writes}

abbrev pub act_tree : Act → ActTree
act_tree (Write event) = write (event_tree event)
act_tree (Look op name) = look op name
act_tree Count = count
act_tree (Snap op name) = snap op name
act_tree (Answer answers) = answer answers
act_tree Fill = fill
act_tree Run = run
act_tree (Raise event) = raise (event_tree event)
act_tree Object = object
act_tree Store = store

abbrev pub step_tree : Step → StepTree
step_tree s = record { actor = s.actor; act = act_tree s.act }

abbrev pub stage_tree : Stage → StageTree
stage_tree (Resting kept) = resting kept
stage_tree (Looked place slot) = looked place slot
stage_tree (Counted place slot at) = counted place slot at
stage_tree (Half place slot at word) = half place slot at word
stage_tree Missed = missed
stage_tree (Raised event) = raised (event_tree event)
stage_tree (Holding case number at) = holding (case_tree case) number at
stage_tree (Allowed kept) = allowed kept

abbrev pub actor_tree : Actor → ActorTree
actor_tree x = record { principal = x.principal; session = x.session; stage = stage_tree x.stage }

abbrev pub move_tree : Move → MoveTree
move_tree Idle = idle
move_tree (Goes stage) = goes (stage_tree stage)
move_tree (Tells told stage) = tells told (stage_tree stage)
move_tree (Fills kept stage) = fills kept (stage_tree stage)
move_tree (Raises region event) = raises region (event_tree event)
move_tree (Writes event) = writes (event_tree event)

-- the state that the machine's parts hold
abbrev pub state_of : World → MachineState
state_of w = record {
  head = w.journal.head;
  entries = entry_trees w.journal.entries;
  slots = w.slots.items;
  regions = w.regions.items;
  holder = w.holder;
  actors = map actor_tree w.actors.items;
}
