use Rattle.std.proofs.Common.{◌≤◌, ◌+◌, length}
use Rattle.answer_commands.specs.CheckForm.{Reaches}
use Rattle.answer_commands.specs.Inner.Forms.{stage_of}
use Rattle.answer_commands.proofs.Only.{PassesThrough}
use Rattle.answer_commands.proofs.check_form.Input.read.Given as goal

abbrev pub invariant-loop-progress : goal.invariant-loop-progress
invariant-loop-progress l =
    Reaches l.text l.lines l.rest (stage_of l.progress) × (l.lines + length l.rest ≤ length l.text) × PassesThrough l.text l.rest (stage_of l.progress)

abbrev pub decreases-loop-progress : goal.decreases-loop-progress
decreases-loop-progress l = length l.rest
