-- What the reader of a bundle answers.
use Rattle.std.specs.Prelude.{map}
use Rattle.nal_term.specs.Trees.{formula_tree}
use Rattle.peer_labels.specs.Bundles.{Stage, complete, header_due, label_due}
use Rattle.peer_labels.specs.declared.progress.BundleProgress.{BundleProgress}
use Rattle.peer_labels.specs.declared.progress.BundleProgress.TheVariants.{HeaderDue, LabelDue, Complete}

-- the stage that the reader's progress is
abbrev pub stage_of : BundleProgress → Stage
stage_of HeaderDue = header_due
stage_of (LabelDue labels) = label_due (map formula_tree labels.items)
stage_of (Complete labels) = complete (map formula_tree labels.items)
