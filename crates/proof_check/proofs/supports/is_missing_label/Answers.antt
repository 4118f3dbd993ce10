use Rattle.std.proofs.Common.{map}
use Rattle.nal_term.specs.Trees.{formula_tree}
use Rattle.proof_check.proofs.LineFacts.{label_line, not_label}
use Rattle.proof_check.proofs.supports.is_missing_label.Goals as goal

pub returns-in-Label : goal.returns-in-Label
returns-in-Label c =
    label_line c.args.proof.now (map formula_tree c.args.labels.now) c.args.number c.in-Some.line.now c.contains.result c.in-Some.ensures.zero c.in-Some.ensures.value c.in-Label.is c.contains.ensures

pub returns-in_default-rule : goal.returns-in_default-rule
returns-in_default-rule c =
    not_label c.args.proof.now (map formula_tree c.args.labels.now) c.args.number c.in-Some.line.now c.in-Some.ensures.zero c.in-Some.ensures.value c.in_default-rule.not-Label
