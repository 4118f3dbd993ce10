use Rattle.std.proofs.Common.{◌≡◌, ◌++◌, length, map}
use Rattle.std.specs.List.{All, flat_map}
use Rattle.nal_term.specs.Trees.{formula_tree}
use Rattle.nal_parse.specs.Canonical.{IsSpellable}
use Rattle.label_store.specs.LabelRows.{labels_of}
use Rattle.policy_history.specs.PolicyTexts.{ended}
use Rattle.policy_history.specs.Values.{state_after}
use Rattle.peer_labels.specs.Bundles.{header_line}
use Rattle.peer_labels.proofs.HeldLabels.{label_line}
use Rattle.peer_labels.proofs.printing.print_bundle.Given as goal

abbrev pub invariant-loop-label : goal.invariant-loop-label
invariant-loop-label l = record {
  text : l.text ++ flat_map label_line (map formula_tree l.labels) ≡ ended header_line ++ flat_map label_line (labels_of (state_after l.journal).labels l.holder);
  spellable : All IsSpellable (map formula_tree l.labels) → All IsSpellable (labels_of (state_after l.journal).labels l.holder);
}

abbrev pub decreases-loop-label : goal.decreases-loop-label
decreases-loop-label l = length l.labels
