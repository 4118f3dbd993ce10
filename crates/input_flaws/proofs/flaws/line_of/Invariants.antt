use Rattle.std.proofs.Common.{◌↔◌, ℕ, List}
use Rattle.input_flaws.specs.LineFlaws.{IsLineOf}
use Rattle.input_flaws.proofs.flaws.line_of.Given as goal

abbrev pub invariant-loop-left : goal.invariant-loop-left
invariant-loop-left l = (line : List ℕ) → IsLineOf l.rest l.left line ↔ IsLineOf l.text l.number line

abbrev pub decreases-loop-left : goal.decreases-loop-left
decreases-loop-left l = l.left
