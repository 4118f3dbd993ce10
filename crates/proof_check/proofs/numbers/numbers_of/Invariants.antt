use Rattle.std.proofs.Common.{◌≡◌, take}
use Rattle.proof_lines.specs.Lines.{line_trees}
use Rattle.nal_rules.specs.Faults.{numbers_from}
use Rattle.proof_check.specs.Inner.Kinds.{is_of_kind}
use Rattle.proof_check.proofs.numbers.numbers_of.Given as goal

abbrev pub invariant-loop-index : goal.invariant-loop-index
invariant-loop-index l =
    l.list ≡ numbers_from (is_of_kind l.kind) 1 (line_trees (take l.index l.lines))
