use Rattle.std.proofs.Common.{ap, option_map, sym, ◌∙◌}
use Rattle.policy_history.specs.Events.{entry_tree}
use Rattle.policy_compaction.specs.Inner.SlotKeys.{slot_tree}
use Rattle.policy_compaction.proofs.Undone.{one_more}
use Rattle.policy_compaction.proofs.marks.undo.Goals as goal

pub returns-in_ok-insert : goal.returns-in_ok-insert
returns-in_ok-insert c = λ later before.
    one_more c.args.undone.now.keys (entry_tree c.args.entry.now) later before c.insert.new.self.keys c.in-Some.slot
    (ap (option_map slot_tree) (sym c.in-Some.is) ∙ c.in_ok-slot.ensures) c.in_ok-insert.ensures.updates.0
