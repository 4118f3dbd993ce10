use Rattle.std.proofs.Common.{ℕ, ◌<◌}
use Rattle.proof_lines.specs.Lines.{line_trees}
use Rattle.answer_commands.specs.Inner.Support.{IsUnanswered}
use Rattle.answer_commands.specs.Inner.Forms.{formula_trees}
use Rattle.answer_commands.proofs.judge.unanswered.Given as goal

abbrev pub invariant-loop-number : goal.invariant-loop-number
invariant-loop-number l = (j : ℕ) → j < l.number → ¬ IsUnanswered (line_trees l.proof) (formula_trees l.yes) j
