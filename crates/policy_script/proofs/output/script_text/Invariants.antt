use Rattle.std.proofs.Common.{◌≡◌, take}
use Rattle.policy_script.specs.ScriptText.{reply_lines}
use Rattle.policy_script.proofs.output.script_text.Given as goal

abbrev pub invariant-loop-reply : goal.invariant-loop-reply
invariant-loop-reply l = l.text ≡ reply_lines (take l.reply-index l.replies)
