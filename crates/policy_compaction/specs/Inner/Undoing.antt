-- The slot whose earlier deeds an entry undoes.
use Rattle.std.specs.Prelude.{Option, Some, None}
use Rattle.policy_history.specs.Events.{EntryTree, EventTree, delete, set_goal, clear_goal, set_proof, clear_proof, bind, unbind}
use Rattle.policy_compaction.specs.Slots.{SlotTree, goal_slot, proof_slot, port_slot, label_slot}

abbrev pub undone_by : EntryTree → Option SlotTree
undone_by e = of e.event
  where
    of : EventTree → Option SlotTree
    of (set_goal op x g) = Some (goal_slot op x)
    of (clear_goal op x) = Some (goal_slot op x)
    of (set_proof op x ls) = Some (proof_slot e.principal op x)
    of (clear_proof op x) = Some (proof_slot e.principal op x)
    of (bind (Some t) port) = Some (port_slot t)
    of (unbind (Some t)) = Some (port_slot t)
    of (delete n) = Some (label_slot n)
    of _ = None
