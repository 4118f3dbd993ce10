use Rattle.proof_lines.specs.Lines.{line_trees}
use Rattle.case_verdict.proofs.Refusing.{IsGoneThrough}
use Rattle.case_verdict.proofs.verdicts.refused_line.Given as goal

abbrev pub invariant-loop-index : goal.invariant-loop-index
invariant-loop-index l = IsGoneThrough (line_trees l.proof) l.answers l.index l.asks
