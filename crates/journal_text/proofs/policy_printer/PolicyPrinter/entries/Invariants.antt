use Rattle.std.proofs.Common.{◌≡◌, ◌++◌, take}
use Rattle.std.specs.List.{All, flat_map}
use Rattle.policy_history.specs.declared.events.Entry.{Entry}
use Rattle.policy_history.specs.Events.{entry_tree}
use Rattle.policy_history.specs.Values.{entry_trees}
use Rattle.journal_text.specs.PolicyLaws.{IsKeptEntry}
use Rattle.policy_history.specs.PolicyTexts.{line_of}
use Rattle.journal_text.proofs.policy_printer.PolicyPrinter.entries.Given as goal

abbrev pub invariant-loop-entry : goal.invariant-loop-entry
invariant-loop-entry l = record {
  text : l.self.text ≡ l.fn.self.text ++ flat_map (line_of l.journal.head) (entry_trees (take l.entry-index l.entry-items));
  kept : All (λ (e : Entry). IsKeptEntry (entry_tree e)) (take l.entry-index l.entry-items);
}
